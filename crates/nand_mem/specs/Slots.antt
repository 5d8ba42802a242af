-- The state of a page by its place in memory.
use Rattle.std.specs.Prelude.{ℕ, List, slice_get, Option, Some, None}
use Rattle.kv_nand.specs.declared.nand.PageKind.{PageKind}
use Rattle.kv_nand.specs.declared.nand.PageKind.TheVariants as kinds
use Rattle.kv_nand.specs.Flash.{Image, PageState, Erased, Whole, Cut}
use Rattle.nand_mem.specs.declared.slot.Slot.{Slot}

-- the state of a page by its kind and its bytes
abbrev pub state_by : PageKind → List ℕ → PageState
state_by kinds.Erased bytes = Erased
state_by kinds.Whole bytes = Whole bytes
state_by kinds.Cut bytes = Cut

-- the state of a page
abbrev pub state_of : Slot → PageState
state_of s = state_by s.kind s.bytes

-- past the end all is Erased
abbrev pub state_at : Option Slot → PageState
state_at None = Erased
state_at (Some slot) = state_of slot

-- the image that the places show
abbrev pub image_of : List Slot → Image
image_of slots q = state_at (slice_get slots q)
