use Rattle.std.proofs.Common.{◌≡◌, ◌∙◌, ℕ, List, inr, subst}
use Rattle.std.proofs.lemmas.Result.{err_from_is_err_and}
use Rattle.kfs_tx.specs.Tx.{Tx}
use Rattle.kfs_core.specs.Making.{parent_of, added, AddFault}
use Rattle.kfs_core.specs.Spot.{where_of}
use Rattle.kfs_core.proofs.kfs.Kfs.mkdir.Goals as goal

pub returns-in_err-node-clause-does : goal.returns-in_err-node-clause-does
returns-in_err-node-clause-does g c =
    let p = err_from_is_err_and c.from_residual-in_err-node.result c.from_residual-in_err-node.ensures.1 in
    let w = where_of c.in_ok-spot.spot in
    let Made : Type 0 = Tx × ℕ × List ℕ in
    let is : ◌≡◌ {A = Made} (c.place.new.running.tx, c.parent-parent.result, c.bytes-name.result.now) (c.self.inside.running.tx, parent_of w, w.name) = λ i. (c.in_ok-spot.ensures.leaves i, c.parent-parent.ensures i, c.bytes-name.ensures i) in
    rw (← c.self.view_is, p.1, p.2) (inr (w, c.in_ok-spot.ensures.gives, subst (λ (x : Made). AddFault x.0 1 x.1 x.2 c.in_err-node.field-0.0 c.add_node.new.running.tx.machine) is c.in_err-node.ensures.err))

pub returns-clause-does : goal.returns-clause-does
returns-clause-does g c =
    rw (← c.self.view_is) (where_of c.in_ok-spot.spot, c.in_ok-spot.ensures.gives, c.in_ok-node.ensures.ok ∙ (λ i. added (c.in_ok-spot.ensures.leaves i) 1 (c.parent-parent.ensures i) (c.bytes-name.ensures i)))
