use Rattle.std.proofs.Common.{◌≡◌, ◌∙◌, ◌<◌, None, is_some, true, Bor, ap, sym, arith}
use Rattle.kssd_tx.specs.Lists.{Transactions, list_of}
use Rattle.kssd_tx.proofs.Counting.{lists_after, number_below, is_some-option_map}
use Rattle.kssd_tx.specs.declared.changes.Changes.{Changes}
use Rattle.kssd_tx.proofs.table.TxTable.abort.Goals as goal

pub invariant_of-self : goal.invariant_of-self
invariant_of-self c =
    let open_ : is_some (list_of c.self.inside.slots c.args.tx.0) ≡ true =
    ap (λ (xs : Transactions). is_some (list_of xs c.args.tx.0)) c.self.view_is ∙ ap is_some (sym c.list.ensures.value) ∙ is_some-option_map (λ (l : Bor Changes). l.now) c.list.result ∙ c.if-is_none.ensures in
    let low : c.args.tx.0 < 4 = omega (arith, number_below c.self.inside.slots c.args.tx.0 open_, c.self.invariant.four) in
    lists_after c.self.inside.slots c.args.tx.0 c.index-self-tx.result None c.self.invariant low c.index-self-tx.is (omega (arith, c.self.invariant.few))
