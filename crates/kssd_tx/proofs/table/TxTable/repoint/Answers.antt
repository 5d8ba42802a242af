use Rattle.std.proofs.Common.{◌≡◌, ◌∙◌, ◌++◌, sym, subst, take, drop, arith, []}
use Rattle.std.proofs.lemmas.List.{take_all, drop_all, append-nil}
use Rattle.kssd_tx.specs.Lists.{Transactions, AreLists, all_repointed}
use Rattle.kssd_tx.proofs.Counting.{lists_repointed}
use Rattle.kssd_tx.proofs.table.TxTable.repoint.Goals as goal

pub invariant_of-self : goal.invariant_of-self
invariant_of-self c =
    let xs : Transactions = c.self.inside.slots in
    let all : take c.loop-slot.slot-index xs ≡ xs = take_all c.loop-slot.slot-index xs (omega (arith, c.self.invariant.four)) in
    let none : drop c.loop-slot.slot-index xs ≡ [] = drop_all c.loop-slot.slot-index xs (omega (arith, c.self.invariant.four)) in
    let is : c.loop-slot.slot-items ≡ all_repointed c.args.page c.args.other xs =
    c.loop-slot.invariant ∙ (λ i. all_repointed c.args.page c.args.other (all i) ++ none i) ∙ append-nil (all_repointed c.args.page c.args.other xs) in
    subst AreLists (sym is) (lists_repointed c.args.page c.args.other xs c.self.invariant)
