use Rattle.std.proofs.Common.{◌≤◌, List, length, subst, sym}
use Rattle.kssd_entry.specs.declared.entry.Entry.{Entry}
use Rattle.kssd_model.specs.Rising.{merged}
use Rattle.kssd_image.specs.Stages.{entries_of}
use Rattle.std.proofs.Common.{[]}
use Rattle.kssd_recover.proofs.Tables.{may_put_group}
use Rattle.kssd_recover.proofs.log.table_of.Goals as goal

pub put_all-requires : goal.put_all-requires
put_all-requires c =
    let groups = c.as_slice-group-items.result.now in
    let fits = subst (λ (gs : List (List Entry)). length (merged (entries_of gs) []) ≤ 2048) (sym c.as_slice-group-items.ensures) c.requires in
    subst (λ (group : List Entry). length (merged group c.loop-group.table) ≤ 2048) (sym c.as_slice.ensures) (may_put_group groups c.loop-group.table c.group-item.result c.loop-group.group-index 2048 c.loop-group-test.true c.group-item.is c.loop-group.invariant fits)
