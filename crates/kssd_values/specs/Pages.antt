-- The pages of values in an image.
use Rattle.std.specs.Prelude.{◌≡◌, ◌≢◌, ◌<◌, ◌≤◌, ◌/◌, ◌%◌, ℕ, Bool, true, List, [], drop, Option, None, Some}
use Rattle.kv_nand.specs.Flash.{Flash, PageState, Image, Erased, Whole, Cut}
use Rattle.kssd_entry.specs.Reading.{count_in}
use Rattle.kssd_image.specs.ValuePages.{has_value, key_in_page}
use Rattle.kssd_values.specs.declared.filling.Filling.{Filling}
use Rattle.kssd_values.specs.declared.values.Values.{Values}
use Rattle.kssd_values.specs.Places.{IsValueBlock}
use Rattle.kssd_values.specs.Blocks.{device_of, is_live_at, is_filled}

-- the key that a page of a value names
abbrev pub key_in : PageState → List ℕ
key_in Erased = []
key_in (Whole bytes) = key_in_page bytes
key_in Cut = []

-- the length that a page of a value names
abbrev pub size_in : PageState → ℕ
size_in Erased = 0
size_in (Whole bytes) = count_in (drop 4096 bytes)
size_in Cut = 0

-- whether a page is the value page of the key and the length that it names
abbrev pub is_value : PageState → Bool
is_value state = has_value (key_in state) (size_in state) state

-- in the block that is filled the pages below the next one aren't Erased, and the others are
pub record FillsBlock (filling : Filling) (image : Image) : Type 0 where
  pub below : (q : ℕ) → q / 32 ≡ filling.block → q % 32 < filling.next → image q ≢ Erased
  pub behind : (q : ℕ) → q / 32 ≡ filling.block → filling.next ≤ q % 32 → image q ≡ Erased

-- where a block is filled
abbrev pub FillsIn : Option Filling → Image → Type 0
FillsIn None image = Unit {0}
FillsIn (Some filling) image = FillsBlock filling image

-- the open block and the block copied into stand in the image as they were filled
pub record Fills (v : Values) (image : Image) : Type 0 where
  pub opened : FillsIn v.opened image
  pub target : FillsIn v.target image

-- what stays: the pages outside the value region, the visible and pending ones that aren't Erased, and those below the next page of the open block and of the block copied into
pub record KeepsPages (v : Values) (before after : Image) : Type 0 where
  pub outside : (q : ℕ) → (IsValueBlock (device_of v) (q / 32) → ⊥) → after q ≡ before q
  pub live : (q : ℕ) → is_live_at v q ≡ true → before q ≢ Erased → after q ≡ before q
  pub filled : (q : ℕ) → is_filled v q ≡ true → after q ≡ before q

-- every visible or pending page is the page of a value
pub record LiveStand (v : Values) (image : Image) : Type 0 where
  pub each : (q : ℕ) → is_live_at v q ≡ true → is_value (image q) ≡ true

-- the values of this flash: the blocks that are filled stand as they were filled, and the live pages as values
pub record StandsIn (v : Values) (flash : Flash) : Type 0 where
  pub device : device_of v ≡ flash.blocks
  pub fills : Fills v flash.image
  pub live : LiveStand v flash.image
