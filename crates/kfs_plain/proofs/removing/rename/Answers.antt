use Rattle.std.proofs.Common.{◌≡◌, ◌∙◌, ap, sym, ℕ, List, Ok, true, false}
use Rattle.kfs_model.specs.Ladder.{◌>>=◌}
use Rattle.kfs_model.specs.Tree.{Place, without_place, renamed}
use Rattle.kfs_model.specs.Step.{rename, leaves_swept, swept, is_same_place}
use Rattle.kfs_path.specs.declared.call.Reply.TheVariants as replies
use Rattle.kfs_plain.specs.Renaming.{rename_from, rename_to, judge_rename}
use Rattle.kfs_plain.specs.Tables.{world_of, route_of, with_names}
use Rattle.kfs_plain.proofs.Passed.{does_passed}
use Rattle.kfs_plain.proofs.Parts.{rename-read, rename-left, rename-placed, rename-same, rename-apart, rename-moves, rename_at}
use Rattle.kfs_plain.proofs.removing.rename.Goals as goal

pub returns-in_err-p-clause-does : goal.returns-in_err-p-clause-does
returns-in_err-p-clause-does c =
    let w = world_of c.args.t.now in
    let from = route_of c.in_ok-from.from in
    let to = route_of c.in_ok-to.to in
    let old = c.args.old.now in
    let new = c.args.new.now in
    does_passed w c.in_err-p.field-0.0 (rename w old new) (rename_from w.tree from to) (λ p. rename_to w.tree p to >>= λ q. rename_at w p q) _ c.from_residual-in_err-p.ensures.1
    (rename-read w old new from to c.in_ok-from.ensures c.in_ok-to.ensures) c.in_err-p.ensures

pub returns-in_err-q-clause-does : goal.returns-in_err-q-clause-does
returns-in_err-q-clause-does c =
    let w = world_of c.args.t.now in
    let from = route_of c.in_ok-from.from in
    let to = route_of c.in_ok-to.to in
    let old = c.args.old.now in
    let new = c.args.new.now in
    let p = c.in_ok-p.p in
    does_passed w c.in_err-q.field-0.0 (rename w old new) (rename_to w.tree p to) (λ q. rename_at w p q) _ c.from_residual-in_err-q.ensures.1
    (rename-left w old new from to p c.in_ok-from.ensures c.in_ok-to.ensures c.in_ok-p.ensures) c.in_err-q.ensures

pub returns-then-is_same_place-clause-does : goal.returns-then-is_same_place-clause-does
returns-then-is_same_place-clause-does c =
    let w = world_of c.args.t.now in
    let p = c.in_ok-p.p in
    let q = c.in_ok-q.q in
    let same : is_same_place p q ≡ true = (λ i. is_same_place (sym c.items.ensures i) (sym c.items-2.ensures i)) ∙ sym c.if-is_same_place.ensures in
    rename-placed w c.args.old.now c.args.new.now (route_of c.in_ok-from.from) (route_of c.in_ok-to.to) p q c.in_ok-from.ensures c.in_ok-to.ensures c.in_ok-p.ensures c.in_ok-q.ensures
    ∙ rename-same w p q same

pub returns-in_err-judge_rename-clause-does : goal.returns-in_err-judge_rename-clause-does
returns-in_err-judge_rename-clause-does c =
    let w = world_of c.args.t.now in
    let old = c.args.old.now in
    let new = c.args.new.now in
    let p = c.in_ok-p.p in
    let q = c.in_ok-q.q in
    let apart : is_same_place p q ≡ false = (λ i. is_same_place (sym c.items.ensures i) (sym c.items-2.ensures i)) ∙ sym c.if-is_same_place.ensures in
    let is = rename-placed w old new (route_of c.in_ok-from.from) (route_of c.in_ok-to.to) p q c.in_ok-from.ensures c.in_ok-to.ensures c.in_ok-p.ensures c.in_ok-q.ensures in
    does_passed w c.in_err-judge_rename.field-0.0 (rename w old new) (judge_rename w.tree p q) (λ _. leaves_swept w (renamed (without_place w.tree q) p q) replies.Done) _ c.from_residual-in_err-judge_rename.ensures.1
    (is ∙ rename-apart w p q apart) c.in_err-judge_rename.ensures

pub returns-clause-does : goal.returns-clause-does
returns-clause-does c =
    let t = c.args.t.now in
    let w = world_of t in
    let p = c.in_ok-p.p in
    let q = c.in_ok-q.q in
    let apart : is_same_place p q ≡ false = (λ i. is_same_place (sym c.items.ensures i) (sym c.items-2.ensures i)) ∙ sym c.if-is_same_place.ensures in
    let is = rename-placed w c.args.old.now c.args.new.now (route_of c.in_ok-from.from) (route_of c.in_ok-to.to) p q c.in_ok-from.ensures c.in_ok-to.ensures c.in_ok-p.ensures c.in_ok-q.ensures in
    let named = ap (λ (names : List (Place × ℕ)). swept (with_names w names)) (sym c.in_ok-names.ensures) in
    is ∙ rename-moves w p q apart c.in_ok-judge_rename.ensures ∙ (λ i. Ok (record { world = (named ∙ sym c.in_ok-set_names.ensures.ok) i; reply = replies.Done }))
