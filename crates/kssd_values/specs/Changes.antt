-- What the calls do to the blocks.
use Rattle.std.specs.Prelude.{◌≡◌, ◌≢◌, ◌+◌, ◌/◌, ◌%◌, ◌==◌, ◌<◌, ℕ, get_or, slice_set, true, false, Option, None, Some, if◌then◌else◌}
use Rattle.kv_nand.specs.Flash.{Image, Erased}
use Rattle.kssd_values.specs.declared.values.Values.{Values}
use Rattle.kssd_values.specs.declared.filling.Filling.{Filling}
use Rattle.kssd_values.specs.Places.{IsValueBlock}
use Rattle.kssd_values.specs.Pages.{Fills}
use Rattle.kssd_values.specs.Blocks.{BlockState, Free, Open, Closed, Target, device_of, mark_at, state_at, open_next, open_room, has_target, target_next, free_count, is_target_page}

-- the block that was open is closed
abbrev pub close_open : BlockState → BlockState
close_open Free = Free
close_open Open = Closed
close_open Closed = Closed
close_open Target = Target

-- the block copied into becomes the open one, and that is closed
abbrev pub open_target : BlockState → BlockState
open_target Free = Free
open_target Open = Closed
open_target Closed = Closed
open_target Target = Open

-- the block copied into is closed
abbrev pub close_target : BlockState → BlockState
close_target Free = Free
close_target Open = Open
close_target Closed = Closed
close_target Target = Closed

-- every page has its mark
abbrev pub SameMarks : Values → Values → Type 0
SameMarks old new = (q : ℕ) → mark_at new q ≡ mark_at old q

-- every block is used as before
pub record SameBlocks (old new : Values) : Type 0 where
  pub states : (block : ℕ) → state_at new block ≡ state_at old block
  pub free : free_count new ≡ free_count old

-- a free block is used for this now; the others are used as told
pub record TakesBlock (old : Values) (block : ℕ) (state : BlockState) (after : BlockState → BlockState) (new : Values) : Type 0 where
  pub was : state_at old block ≡ Free
  pub now : state_at new block ≡ state
  pub others : (other : ℕ) → other ≢ block → state_at new other ≡ after (state_at old other)
  pub free : free_count new + 1 ≡ free_count old

-- the same block is copied into, as far
pub record SameTarget (old new : Values) : Type 0 where
  pub has : has_target new ≡ has_target old
  pub next : target_next new ≡ target_next old
  pub pages : (q : ℕ) → is_target_page new q ≡ is_target_page old q

-- a page is the next of the block copied into, which goes on
pub record GoesOn (old : Values) (page : ℕ) (new : Values) : Type 0 where
  pub had : has_target old ≡ true
  pub value : IsValueBlock (device_of old) (page / 32)
  pub here : state_at old (page / 32) ≡ Target
  pub place : page % 32 ≡ target_next old
  pub next : target_next new ≡ target_next old + 1
  pub blocks : SameBlocks old new
  pub page_is : is_target_page new page ≡ true
  pub pages : (q : ℕ) → is_target_page old q ≡ true → is_target_page new q ≡ true

-- the same block is open, as far
pub record SameOpen (old new : Values) : Type 0 where
  pub room : open_room new ≡ open_room old
  pub next : open_next new ≡ open_next old

-- only marks differ
pub record SamePlaces (old new : Values) : Type 0 where
  pub device : device_of new ≡ device_of old
  pub blocks : SameBlocks old new
  pub opened : SameOpen old new
  pub target : SameTarget old new
  pub fills : (image : Image) → Fills old image → Fills new image

-- a page was put into the open block: its next one; where it had none, page 0 of a free block, which is the open one now
pub record Puts (old : Values) (page : ℕ) (new : Values) : Type 0 where
  pub device : device_of new ≡ device_of old
  pub marks : SameMarks old new
  pub value : IsValueBlock (device_of old) (page / 32)
  pub here : state_at new (page / 32) ≡ Open
  pub place : page % 32 + 1 ≡ open_next new
  pub room : open_room new + open_next new ≡ 32
  pub goes_on : open_room old ≢ 0 → SameBlocks old new × (page % 32 ≡ open_next old)
  pub begins : open_room old ≡ 0 → TakesBlock old (page / 32) Open close_open new × (page % 32 ≡ 0)
  pub target : SameTarget old new

-- how many operations a put takes
abbrev pub put_cost : Values → ℕ
put_cost old = if open_room old == 0 then 2 else 1

-- a free block was taken to copy into, which is erased; or a page was copied into the next of that block
pub record Copies (old : Values) (answer : Option ℕ) (new : Values) : Type 0 where
  pub device : device_of new ≡ device_of old
  pub marks : SameMarks old new
  pub opened : SameOpen old new
  pub has : has_target new ≡ true
  pub begins : answer ≡ None → (has_target old ≡ false) × (target_next new ≡ 0) × ((block : ℕ) × IsValueBlock (device_of old) block × TakesBlock old block Target (λ state. state) new)
  pub goes_on : (page : ℕ) → answer ≡ Some page → GoesOn old page new

-- a page was Erased, and holds now what the source held
pub record CopiesPage (before : Image) (source page : ℕ) (after : Image) : Type 0 where
  pub was : before page ≡ Erased
  pub now : after page ≡ before source

-- how the other blocks are used after one was cleared: copying is over
abbrev pub after_clear : Values → BlockState → BlockState
after_clear old state = if open_room old == 0 then open_target state else close_target state

-- the block is free, and the block copied into is the open one where the open block had no Erased page, else closed
pub record Clears (old : Values) (block : ℕ) (new : Values) : Type 0 where
  pub device : device_of new ≡ device_of old
  pub marks : SameMarks old new
  pub now : state_at new block ≡ Free
  pub free : free_count new ≡ free_count old + 1
  pub over : has_target new ≡ false
  pub idle : has_target old ≡ false → ((other : ℕ) → other ≢ block → state_at new other ≡ state_at old other) × SameOpen old new
  pub copying : has_target old ≡ true → (other : ℕ) → other ≢ block → state_at new other ≡ after_clear old (state_at old other)
  pub opens : has_target old ≡ true → open_room old ≡ 0 → (open_next new ≡ target_next old) × (open_room new + open_next new ≡ 32)
  pub closes : has_target old ≡ true → open_room old ≢ 0 → SameOpen old new

-- a free block was taken, and nothing else changed
pub record Takes (old : Values) (filling : Filling) (new : Values) : Type 0 where
  pub device : device_of new ≡ device_of old
  pub marks : new.marks.items ≡ old.marks.items
  pub opened : new.opened ≡ old.opened
  pub target : new.target ≡ old.target
  pub was : get_or old.free.items filling.block false ≡ true
  pub free : new.free.items ≡ slice_set old.free.items filling.block false
  pub first : filling.next ≡ 0

-- the open block has a next page; where it had none, a free block was taken
pub record Opens (old : Values) (filling : Filling) (new : Values) : Type 0 where
  pub device : device_of new ≡ device_of old
  pub marks : new.marks.items ≡ old.marks.items
  pub target : new.target ≡ old.target
  pub opened : new.opened ≡ Some filling
  pub room : filling.next < 32
  pub kept : open_room old ≢ 0 → (old.opened ≡ Some filling) × (new.free.items ≡ old.free.items)
  pub taken : open_room old ≡ 0 → (filling.next ≡ 0) × (get_or old.free.items filling.block false ≡ true) × (new.free.items ≡ slice_set old.free.items filling.block false)
