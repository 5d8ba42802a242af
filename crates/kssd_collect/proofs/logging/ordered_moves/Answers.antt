use Rattle.std.proofs.Common.{List, length, ap, arith}
use Rattle.kssd_entry.specs.declared.entry.Entry.{Entry}
use Rattle.kssd_machine.proofs.Grouping.{few_moves}
use Rattle.kssd_collect.proofs.logging.ordered_moves.Goals as goal

pub in_order-requires : goal.in_order-requires
in_order-requires c =
    let is = ap (λ (es : List Entry). length es) c.in_ok-moves.ensures in
    record { few = omega (arith, few_moves c.args.reclaim.now c.args.values.now) }
