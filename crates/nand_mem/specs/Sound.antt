-- What holds of each flash in memory.
use Rattle.std.specs.Prelude.{ℕ, List, slice_get, Option, Some, None}
use Rattle.kv_nand.specs.declared.nand.PageKind.{PageKind}
use Rattle.kv_nand.specs.declared.nand.PageKind.TheVariants as kinds
use Rattle.kv_nand.specs.Flash.{IsSound, IsPageState}
use Rattle.nand_mem.specs.declared.slot.Slot.{Slot}
use Rattle.nand_mem.specs.declared.state.State.{State}
use Rattle.nand_mem.specs.Slots.{state_by, state_of, state_at, image_of}
use Rattle.nand_mem.specs.State.{IsMem, flash_of}

-- a whole page has its bytes
pub slot_is_page : (slot : Slot) → IsPageState (state_of slot)
slot_is_page slot = by slot.kind
  where
    by : (kind : PageKind) → IsPageState (state_by kind slot.bytes)
    by kinds.Erased = tt
    by kinds.Whole = (slot.size, slot.small)
    by kinds.Cut = tt

pub image_is_pages : (slots : List Slot) (q : ℕ) → IsPageState (image_of slots q)
image_is_pages slots q = by (slice_get slots q)
  where
    by : (slot : Option Slot) → IsPageState (state_at slot)
    by None = tt
    by (Some slot) = slot_is_page slot

pub sound_of : (m : State) → IsMem m → IsSound (flash_of m)
sound_of m h = record {
  pages = image_is_pages m.slots.items;
  cuts = h.cuts;
  faults = h.faults;
  blocks = h.blocks;
  reads = h.reads;
  ops = h.ops;
  most_cuts = h.most_cuts;
  most_faults = h.most_faults;
}
