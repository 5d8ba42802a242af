use Rattle.std.proofs.Common.{arith, List, ℕ}
use Rattle.std.specs.FinMap as objects
use Rattle.kv_device.proofs.HeldLaws.{none_held}
use Rattle.kv_device.proofs.Lens.{len-empty-le}
use Rattle.kv_device.proofs.SlotLaws.{page_count-le}
use Rattle.kv_device.proofs.store.Store.new.Goals as goal

pub invariant_of-result : goal.invariant_of-result
invariant_of-result c = record { paged = rw c.new.ensures (omega (arith, page_count-le objects.empty, len-empty-le (List ℕ) 0)); held = none_held c.new.result c.new.ensures }
