use Rattle.std.proofs.Common.{arith, Option, List, ℕ}
use Rattle.std.proofs.lemmas.Grind.{common_steps}
use Rattle.std.specs.FinMap as objects
use Rattle.kv_device.specs.Bytes.{bytes_cmp}
use Rattle.kv_device.proofs.SlotLaws.{change_count-more}
use Rattle.kv_device.proofs.changes.change_total.Goals as goal
use Rattle.kv_device.proofs.changes.change_total.Goals.{in-Some, in_default}

pub loop-slot-preserved : goal.loop-slot-preserved
loop-slot-preserved c =
    let more = change_count-more c.args.pending.now c.loop-slot.slot-index c.slot-item.result (omega arith) c.slot-item.is in
    let none = objects.len-empty bytes_cmp (Option (List ℕ)) in
    elim c.match-slot.branch [
      | in-Some w ↦ grind (arith, common_steps, more, w.in-Some.is, w.total-is, w.len-total.ensures)
      | in_default w ↦ grind (arith, common_steps, more, none, w.total-is)
    ]
