use Rattle.std.proofs.Common.{List, [], length, take, ap, inr, arith, length-take}
use Rattle.kssd_entry.specs.declared.entry.Entry.{Entry}
use Rattle.kssd_root.proofs.Counting.{merged_few}
use Rattle.kssd_collect.proofs.logging.in_order.Goals as goal

pub put-requires : goal.put-requires
put-requires c =
    let items = c.as_slice-entry-items.result.now in
    let fewer = merged_few (take c.loop-entry.entry-index items) [] in
    let is = ap (λ (xs : List Entry). length xs) c.loop-entry.invariant in
    let all = ap (λ (xs : List Entry). length xs) c.as_slice-entry-items.ensures in
    inr (omega (arith, length-take c.loop-entry.entry-index items))
