use Rattle.std.proofs.Common.{List, length, take, ap, arith, inr}
use Rattle.std.proofs.lemmas.List.{length-take}
use Rattle.kssd_entry.specs.declared.entry.Entry.{Entry}
use Rattle.kssd_root.proofs.Counting.{merged_few}
use Rattle.kssd_index.proofs.append.put_all.Goals as goal

pub put-requires : goal.put-requires
put-requires c =
    let items = c.as_slice-entry-items.result.now in
    let few = merged_few (take c.loop-entry.entry-index items) c.args.table.now in
    let is = ap (λ (xs : List Entry). length xs) c.loop-entry.invariant in
    let all = ap (λ (xs : List Entry). length xs) c.as_slice-entry-items.ensures in
    inr (omega (arith, few, is, all, c.requires.room, length-take c.loop-entry.entry-index items))
