-- Where the next pages of values go.
use Rattle.std.specs.Prelude.{◌≡◌, ◌<◌, ◌≤◌, ◌-◌, ◌*◌, ◌/◌, ◌%◌, ◌==◌, ◌&&◌, nat_lt, ℕ, Bool, true, false, List, length, get_or, Option, None, Some, is_some, if◌then◌else◌}
use Rattle.kssd_layout.specs.Numbers.{first_value_block_in}
use Rattle.kssd_values.specs.declared.mark.Mark.{Mark}
use Rattle.kssd_values.specs.declared.mark.Mark.TheVariants.{Dead}
use Rattle.kssd_values.specs.declared.filling.Filling.{Filling}
use Rattle.kssd_values.specs.Marks.{is_live}

-- the block lies in the value region of a device of so many blocks
pub record IsValueBlock (device block : ℕ) : Type 0 where
  pub first : first_value_block_in device ≤ block
  pub last : block < device

-- whether it is the block that is filled
abbrev pub is_in : Option Filling → ℕ → Bool
is_in None block = false
is_in (Some filling) block = filling.block == block

-- the next page within the block that is filled, counted from 0
abbrev pub next_in : Option Filling → ℕ
next_in None = 0
next_in (Some filling) = filling.next

-- how many pages of the block that is filled are left
abbrev pub room_in : Option Filling → ℕ
room_in None = 0
room_in (Some filling) = 32 - filling.next

-- whether the page lies in the block that is filled, below its next page
abbrev pub is_below_in : Option Filling → ℕ → Bool
is_below_in None page = false
is_below_in (Some filling) page = (page / 32 == filling.block) && nat_lt (page % 32) filling.next

-- the block that is open when the copying is over: that copied into, where the open one has no page left
abbrev pub opened_when_over : Option Filling → Option Filling → Option Filling
opened_when_over opened target = if is_some target && (room_in opened == 0) then target else opened

-- a value block that isn't free, of 32 pages
pub record IsFilling (device : ℕ) (free : List Bool) (filling : Filling) : Type 0 where
  pub value : IsValueBlock device filling.block
  pub taken : get_or free filling.block false ≡ false
  pub within : filling.next ≤ 32

-- the marks of all pages and which blocks are free: free ones are value blocks, live pages lie in value blocks that aren't free, and the open block isn't the one copied into
pub record AreValues (device : ℕ) (marks : List Mark) (free : List Bool) (opened target : Option Filling) : Type 0 where
  pub pages : length marks ≡ 32 * device
  pub blocks : length free ≡ device
  pub region : (block : ℕ) → get_or free block false ≡ true → IsValueBlock device block
  pub dead : (page : ℕ) → get_or free (page / 32) false ≡ true → is_live (get_or marks page Dead) ≡ false
  pub outside : (page : ℕ) → page / 32 < first_value_block_in device → is_live (get_or marks page Dead) ≡ false
  pub opened_is : (filling : Filling) → opened ≡ Some filling → IsFilling device free filling
  pub target_is : (filling : Filling) → target ≡ Some filling → IsFilling device free filling
  pub apart : (filling other : Filling) → opened ≡ Some filling → target ≡ Some other → filling.block ≡ other.block → ⊥
