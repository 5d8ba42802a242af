-- Marks of pages, and the entries that name them.
use Rattle.std.specs.Prelude.{◌≡◌, ◌≤◌, ◌<◌, ◌+◌, ◌-◌, ◌*◌, ◌/◌, ◌==◌, ℕ, Bool, true, false, List, [], ◌∷◌, length, is_some, Some, None, if◌then◌else◌, ◌≢◌, Option}
use Rattle.std.specs.List.{list_any, list_all}
use Rattle.kv_nand.specs.Flash.{Image, Erased}
use Rattle.kssd_layout.specs.Numbers.{max_pages_in, value_blocks_in}
use Rattle.kssd_entry.specs.declared.entry.Entry.{Entry}
use Rattle.kssd_entry.specs.Spelling.{key_of}
use Rattle.kssd_model.specs.Rising.{is_rising, merged}
use Rattle.kssd_image.specs.Stages.{without_marks, shown_in}
use Rattle.kssd_image.specs.Whole.{pages_named, has_its_value, leaves_a_block, IsWhole, age_in}
use Rattle.kssd_frames.specs.Same.{Stays}
use Rattle.kssd_tx.specs.Lists.{Transactions, list_of, changes_of, change_of, change_count, with_list, all_repointed}
use Rattle.kssd_values.specs.declared.mark.Mark.{Mark}
use Rattle.kssd_values.specs.declared.mark.Mark.TheVariants.{Pending, Visible, Dead}
use Rattle.kssd_values.specs.declared.values.Values.{Values}
use Rattle.kssd_values.specs.Places.{IsValueBlock}
use Rattle.kssd_values.specs.Blocks.{device_of, mark_at, is_live_at, state_at, Free, Closed, has_target, target_next, free_count, free_room, live_in, live_count, IsClosed}
use Rattle.kssd_values.specs.Pages.{is_value, KeepsPages, LiveStand}
use Rattle.kssd_values.specs.Changes.{SamePlaces, Puts, Copies, Clears}
use Rattle.kssd_reclaim.specs.Sources.{is_visible}
use Rattle.kssd_machine.specs.Names.{names, times, times_pending, are_rising, are_valued}
use Rattle.kssd_machine.specs.Machines.{no_lists, ArePendingSame}
use Rattle.kssd_machine.specs.Calling.{with_entry}
use Rattle.kssd_machine.specs.Sizes.{listed, replaced, keys_differ}

-- whether an entry of an open transaction names the page
abbrev pub is_pending : Mark → Bool
is_pending Pending = true
is_pending Visible = false
is_pending Dead = false

-- the visible pages are those that visible entries name, and the pending ones those that changes of open transactions name; no page is named twice
pub record AreMarked (v : Values) (visible : List Entry) (lists : Transactions) : Type 0 where
  pub shown : (page : ℕ) → times page visible ≡ (if is_visible (mark_at v page) then 1 else 0)
  pub pending : (page : ℕ) → times_pending page lists ≡ (if is_pending (mark_at v page) then 1 else 0)

-- whether an entry names the page
abbrev pub is_named : ℕ → List Entry → Bool
is_named page entries = list_any (names page) entries

-- the marks after the pages that entries name got this one
abbrev pub remarked : List Entry → Mark → (ℕ → Mark) → ℕ → Mark
remarked entries mark before page = if is_named page entries then mark else before page

-- the marks after these pages died, and then those got a mark
abbrev pub IsRemarked : Values → List Entry → List Entry → Mark → Values → Type 0
IsRemarked old gone fresh mark new = (page : ℕ) → mark_at new page ≡ remarked fresh mark (remarked gone Dead (mark_at old)) page

-- the pages that entries name were dead
abbrev pub WereDead : Values → List Entry → Type 0
WereDead v entries = (page : ℕ) → is_named page entries ≡ true → mark_at v page ≡ Dead

-- what each call does to the marks: a mount; the begin of a transaction; a change in a transaction; the end of one without and with its changes; the moves of a collection, and other pages for pending ones
pub record MarksFollowEntries : Type 0 where
  pub mount : (blocks : ℕ) (image : Image) (v : Values) (visible : List Entry) → is_rising visible ≡ true → list_all (has_its_value blocks image) visible ≡ true
      → ((page : ℕ) → mark_at v page ≡ (if list_any (λ q. q == page) (pages_named visible) then Visible else Dead)) → AreMarked v visible no_lists
  pub begin : (v : Values) (visible : List Entry) (lists : Transactions) (tx : ℕ) → list_of lists tx ≡ None → AreMarked v visible lists → AreMarked v visible (with_list lists tx (Some []))
  pub set : (v w : Values) (visible : List Entry) (lists : Transactions) (tx : ℕ) (entry : Entry) → are_rising lists ≡ true → is_some (list_of lists tx) ≡ true → AreMarked v visible lists → WereDead v (entry ∷ [])
      → IsRemarked v (listed (change_of lists tx (key_of entry))) (entry ∷ []) Pending w → AreMarked w visible (with_entry lists tx entry)
  pub abort : (v w : Values) (visible : List Entry) (lists : Transactions) (tx : ℕ) → AreMarked v visible lists → IsRemarked v (changes_of lists tx) [] Dead w → AreMarked w visible (with_list lists tx None)
  pub end : (v w : Values) (visible : List Entry) (lists : Transactions) (tx : ℕ) → is_rising visible ≡ true → are_rising lists ≡ true → AreMarked v visible lists
      → IsRemarked v (replaced visible (changes_of lists tx)) (changes_of lists tx) Visible w → AreMarked w (without_marks (merged (changes_of lists tx) visible)) (with_list lists tx None)
  pub move : (v w : Values) (visible moves : List Entry) (lists : Transactions) → is_rising visible ≡ true → keys_differ moves ≡ true → AreMarked v visible lists → WereDead v moves → ((page : ℕ) → times page moves ≤ 1)
      → IsRemarked v (replaced visible moves) moves Visible w → AreMarked w (without_marks (merged moves visible)) lists
  pub repoint : (v w : Values) (visible : List Entry) (lists : Transactions) (page other : ℕ) → AreMarked v visible lists → mark_at v page ≡ Pending → mark_at v other ≡ Dead
      → ((q : ℕ) → mark_at w q ≡ (if q == other then Pending else (if q == page then Dead else mark_at v q))) → AreMarked w visible (all_repointed page other lists)

-- a page with a mark holds its value, so what keeps such pages keeps the objects and the pending values
pub record MarkedPagesStand : Type 0 where
  pub stays : (v : Values) (old new : Image) (lists : Transactions) → IsWhole (device_of v) old → AreMarked v (shown_in old) lists → KeepsPages v old new → Stays (device_of v) old new (age_in old)
  pub live : (blocks : ℕ) (v : Values) (image : Image) (visible : List Entry) (lists : Transactions) (page : ℕ) → AreMarked v visible lists → list_all (has_its_value blocks image) visible ≡ true → are_valued blocks image lists ≡ true
      → is_live_at v page ≡ true → IsValueBlock blocks (page / 32) × (is_value (image page) ≡ true)
  pub stand : (v : Values) (image : Image) (visible : List Entry) (lists : Transactions) → AreMarked v visible lists → list_all (has_its_value (device_of v) image) visible ≡ true → are_valued (device_of v) image lists ≡ true → LiveStand v image
  pub fresh : (blocks : ℕ) (v : Values) (image : Image) (visible : List Entry) (lists : Transactions) (page : ℕ) → AreMarked v visible lists → list_all (has_its_value blocks image) visible ≡ true → are_valued blocks image lists ≡ true
      → image page ≡ Erased → mark_at v page ≡ Dead
  pub pending : (blocks : ℕ) (v : Values) (old new : Image) (visible : List Entry) (lists : Transactions) → AreMarked v visible lists → list_all (has_its_value blocks old) visible ≡ true → are_valued blocks old lists ≡ true
      → KeepsPages v old new → ArePendingSame old new lists
  pub valued : (blocks : ℕ) (old new : Image) (lists : Transactions) → are_valued blocks old lists ≡ true → ((page : ℕ) → 1 ≤ times_pending page lists → new page ≡ old page) → are_valued blocks new lists ≡ true

-- a block is free, or one is being copied into
abbrev pub HasBlock : Values → Type 0
HasBlock v = 1 ≤ free_count v + (if has_target v then 1 else 0)

-- so it is at a mount, and after each call
pub record BlocksRemain : Type 0 where
  pub mount : (v : Values) (visible : List Entry) → leaves_a_block (device_of v) visible ≡ true
      → ((block : ℕ) → IsValueBlock (device_of v) block → state_at v block ≡ (if list_any (λ q. (q / 32) == block) (pages_named visible) then Closed else Free)) → HasBlock v
  pub put : (old new : Values) (page : ℕ) → Puts old page new → free_room old ≢ 0 → HasBlock old → HasBlock new
  pub copy : (old new : Values) (answer : Option ℕ) → Copies old answer new → HasBlock new
  pub clear : (old new : Values) (block : ℕ) → Clears old block new → HasBlock new
  pub mark : (old new : Values) → SamePlaces old new → HasBlock old → HasBlock new

-- how many pages are live; a victim where there is little room; and room after a collection
pub record SpaceIsEnough : Type 0 where
  pub most : (v : Values) (visible : List Entry) (lists : Transactions) → AreMarked v visible lists → live_count v ≤ length (pages_named visible) + change_count lists
  pub limit : (blocks pages changes : ℕ) → 256 ≤ blocks → pages ≤ max_pages_in blocks → changes ≤ 1280 → pages + changes ≤ 32 * (value_blocks_in blocks - 4)
  pub victim : (v : Values) → 256 ≤ device_of v → live_count v ≤ 32 * (value_blocks_in (device_of v) - 4) → free_count v < 3 → has_target v ≡ false → ((block : ℕ) → IsClosed v block → live_in v block ≡ 32) → ⊥
  pub collected : (old new : Values) (block : ℕ) → Clears old block new → has_target old ≡ true → target_next old < 32 → 1 ≤ free_room new
  pub cleared : (old new : Values) (block : ℕ) → Clears old block new → has_target old ≡ false → 1 ≤ free_count old → 1 ≤ free_room new
