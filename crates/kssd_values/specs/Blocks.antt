-- What is seen of the blocks and pages of values.
use Rattle.std.specs.Prelude.{◌≡◌, ◌<◌, ◌≤◌, ◌+◌, ◌-◌, ◌*◌, ◌||◌, ◌&&◌, not, ℕ, Bool, false, get_or, take, drop, count_by, is_some, if◌then◌else◌}
use Rattle.kssd_values.specs.declared.mark.Mark.{Mark}
use Rattle.kssd_values.specs.declared.mark.Mark.TheVariants.{Dead}
use Rattle.kssd_values.specs.declared.values.Values.{Values}
use Rattle.kssd_values.specs.Marks.{is_live}
use Rattle.kssd_values.specs.Places.{IsValueBlock, is_in, next_in, room_in, is_below_in}

-- what a value block is used for
pub data BlockState : Type 0 where
  Free : BlockState
  Open : BlockState
  Closed : BlockState
  Target : BlockState

-- the number of blocks of the device
abbrev pub device_of : Values → ℕ
device_of v = v.layout.blocks

-- the mark of a page
abbrev pub mark_at : Values → ℕ → Mark
mark_at v page = get_or v.marks.items page Dead

-- whether the page is visible or pending
abbrev pub is_live_at : Values → ℕ → Bool
is_live_at v page = is_live (mark_at v page)

-- the state of a value block
abbrev pub state_at : Values → ℕ → BlockState
state_at v block = if is_in v.opened block then Open else (if is_in v.target block then Target else (if get_or v.free.items block false then Free else Closed))

-- whether a block is neither free nor filled
abbrev pub is_closed_at : Values → ℕ → Bool
is_closed_at v block = (not (is_in v.opened block) && not (is_in v.target block)) && not (get_or v.free.items block false)

-- the next page within the open block, 0 where there is none
abbrev pub open_next : Values → ℕ
open_next v = next_in v.opened

-- the Erased pages of the open block
abbrev pub open_room : Values → ℕ
open_room v = room_in v.opened

-- whether a block is being copied into
abbrev pub has_target : Values → Bool
has_target v = is_some v.target

-- the next page within the block copied into, 0 where there is none
abbrev pub target_next : Values → ℕ
target_next v = next_in v.target

-- the copies made since the last block was cleared
abbrev pub copied : Values → ℕ
copied v = next_in v.target

-- how many blocks are free
abbrev pub free_count : Values → ℕ
free_count v = count_by (λ free. free) v.free.items

-- the Erased pages of the open block and the pages of the free blocks, but for one that is kept while no block is being copied into
abbrev pub free_room : Values → ℕ
free_room v = open_room v + 32 * (free_count v - (if has_target v then 0 else 1))

-- how many pages of a block are visible or pending
abbrev pub live_in : Values → ℕ → ℕ
live_in v block = count_by is_live (take 32 (drop (32 * block) v.marks.items))

-- how many pages are visible or pending
abbrev pub live_count : Values → ℕ
live_count v = count_by is_live v.marks.items

-- whether the page lies in the block copied into, below its next page
abbrev pub is_target_page : Values → ℕ → Bool
is_target_page v page = is_below_in v.target page

-- whether the page lies below the next one of the open block or of the block copied into
abbrev pub is_filled : Values → ℕ → Bool
is_filled v page = is_below_in v.opened page || is_target_page v page

-- a closed value block
pub record IsClosed (v : Values) (block : ℕ) : Type 0 where
  pub value : IsValueBlock (device_of v) block
  pub closed : state_at v block ≡ Closed

-- a closed block with a dead page; no other has fewer live pages, and those below it have more
pub record IsVictim (v : Values) (block : ℕ) : Type 0 where
  pub closed : IsClosed v block
  pub some : live_in v block < 32
  pub fewest : (other : ℕ) → IsClosed v other → live_in v block ≤ live_in v other
  pub lowest : (other : ℕ) → IsClosed v other → other < block → live_in v block < live_in v other
