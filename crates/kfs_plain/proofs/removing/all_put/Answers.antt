use Rattle.std.proofs.Common.{◌∙◌, ap, sym, ℕ, List}
use Rattle.kfs_model.specs.Tree.{Place, place_cmp}
use Rattle.kfs_plain.proofs.Entries.{insert_entry_is_put}
use Rattle.kfs_plain.proofs.Putting.{put_over, put_over-push, put_over-none}
use Rattle.kfs_plain.proofs.removing.all_put.Goals as goal

pub loop-place-init : goal.loop-place-init
loop-place-init c = ap (λ (es : List (Place × ℕ)). put_over c.args.entries.items es) c.new-names.ensures.empty ∙ put_over-none c.args.entries.items

pub loop-place-preserved : goal.loop-place-preserved
loop-place-preserved c =
    let left = c.pop.new.self.items in
    let names = c.loop-place.names.entries in
    ap (λ (es : List (Place × ℕ)). put_over left es) (c.in_ok-insert.ensures.entries ∙ insert_entry_is_put place_cmp names c.in-Some.place c.in-Some.n)
    ∙ sym (put_over-push left c.in-Some.place c.in-Some.n names)
    ∙ ap (λ (es : List (Place × ℕ)). put_over es names) (sym c.in-Some.ensures.items)
    ∙ c.loop-place.invariant
