use Rattle.std.proofs.Common.{◌≡◌, ◌∙◌, ap, subst, ℕ, List, map}
use Rattle.std.specs.Prelude.{IfOk}
use Rattle.kfs_model.specs.Tree.{Place, all_put, moved}
use Rattle.kfs_plain.proofs.removing.renamed.Goals as goal

pub returns : goal.returns
returns c =
    subst (λ (es : List (Place × ℕ)). IfOk c.all_put.result (λ after. after.entries ≡ all_put es))
    (c.in_ok-moved_entries.ensures ∙ ap (λ (es : List (Place × ℕ)). map (moved c.args.old.now c.args.new.now) es) c.in_ok-left.ensures)
    c.all_put.ensures
