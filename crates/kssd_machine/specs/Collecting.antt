-- The moves of a collection as changes of entries.
use Rattle.std.specs.Prelude.{◌≡◌, ◌⊎◌, ◌<◌, ◌≤◌, ◌+◌, ◌-◌, ◌*◌, ◌/◌, ◌==◌, ℕ, Bool, true, false, List, [], length, filter, get_or, count_by}
use Rattle.std.specs.List.{AllByRecursion, list_any, list_all, range_with_len}
use Rattle.kv_nand.specs.Flash.{Flash, Image}
use Rattle.kssd_entry.specs.declared.entry.Entry.{Entry}
use Rattle.kssd_model.specs.Rising.{is_rising, merged}
use Rattle.kssd_image.specs.Stages.{without_marks, shown_in, objects_in}
use Rattle.kssd_image.specs.Whole.{pages_named, has_its_value, is_unnamed, AreValuesWhole, IsWhole}
use Rattle.kssd_entry.specs.Spelling.{FitsEntry}
use Rattle.kssd_model.specs.GroupsLaws.{HasBytes}
use Rattle.kssd_frames.specs.Logging.{shown_after}
use Rattle.kssd_frames.specs.Changing.{IsMove}
use Rattle.kssd_tx.specs.Lists.{Transactions, changes_of, all_repointed}
use Rattle.kssd_values.specs.declared.mark.Mark.TheVariants.{Dead}
use Rattle.kssd_values.specs.declared.values.Values.{Values}
use Rattle.kssd_values.specs.Blocks.{Free, Closed, Target, device_of, mark_at, is_live_at, state_at, has_target, target_next, copied, IsVictim}
use Rattle.kssd_values.specs.Places.{IsValueBlock}
use Rattle.kssd_reclaim.specs.declared.copies.CopyOf.{CopyOf}
use Rattle.kssd_reclaim.specs.declared.reclaim.Reclaim.{Reclaim}
use Rattle.kssd_reclaim.specs.Sources.{is_visible}
use Rattle.kssd_reclaim.specs.Reclaim.{block_of, next_of, copies_of, moves_of, AllCopied, Collects}
use Rattle.kssd_reclaim.specs.Steps.{Steps}
use Rattle.kssd_machine.specs.Names.{times, are_rising}
use Rattle.kssd_machine.specs.Machines.{pending_in}
use Rattle.kssd_machine.specs.Ending.{AreBlocksSame}
use Rattle.kssd_machine.specs.Sizes.{replaced, keys_differ}
use Rattle.kssd_machine.specs.Marked.{AreMarked, is_named, WereDead}

-- the pages copied into are dead until the collection is over, and the copies stand there one after the other
pub record HasTargets (r : Reclaim) (v : Values) : Type 0 where
  pub dead : (page : ℕ) → state_at v (page / 32) ≡ Target → mark_at v page ≡ Dead
  pub rising : (i j : ℕ) (d : CopyOf) → i < j → j < length (copies_of r) → (get_or (copies_of r) i d).target < (get_or (copies_of r) j d).target

-- the copies of visible pages
abbrev pub visible_copies : Reclaim → Values → List CopyOf
visible_copies r v = filter (λ copy. is_visible (mark_at v copy.source)) (copies_of r)

-- what a collection's moves are: each moves its key's value to a page that holds the same, no key and no page twice; they replace the entries that name the sources; and what they name was dead
pub record AreMoves (r : Reclaim) (v : Values) (image : Image) (moves : List Entry) : Type 0 where
  pub each : AllByRecursion (IsMove image) moves
  pub differ : keys_differ moves ≡ true
  pub once : (page : ℕ) → times page moves ≤ 1
  pub dead : WereDead v moves
  pub targets : (page : ℕ) → is_named page moves ≡ true → state_at v (page / 32) ≡ Target
  pub valued : list_all (has_its_value (device_of v) image) moves ≡ true
  pub sources : (page : ℕ) → is_named page (replaced (shown_in image) moves) ≡ list_any (λ copy. copy.source == page) (visible_copies r v)

-- a collection's steps keep its targets, and its moves are such; after them no entry names a page of its block
pub record CollectionsMove : Type 0 where
  pub step : (old new : Reclaim) (v w : Values) (before after : Flash) → Steps old v before new w after → Collects old v before.image → HasTargets old v → HasTargets new w
  pub moves : (r : Reclaim) (v : Values) (image : Image) (lists : Transactions) → AreMarked v (shown_in image) lists → list_all (has_its_value (device_of v) image) (shown_in image) ≡ true → Collects r v image → HasTargets r v → AreMoves r v image (moves_of r v)
  pub left : (r : Reclaim) (v : Values) (image : Image) (lists : Transactions) (moves : List Entry) → AreMarked v (shown_in image) lists → Collects r v image → AllCopied r v → state_at v (block_of r) ≡ Closed → AreMoves r v image moves
      → is_unnamed (shown_after image moves) (block_of r) ≡ true
  pub repointed : (image : Image) (lists : Transactions) (page other : ℕ) → image other ≡ image page → pending_in image (all_repointed page other lists) ≡ pending_in image lists

-- moves put in the order of their keys, as a group has them, are moves too, as many and with the same outcome; and keys and pages are as many after them
pub record MovesAreAGroup : Type 0 where
  pub ordered : (r : Reclaim) (v : Values) (image : Image) (moves : List Entry) → AreMoves r v image moves → AreMoves r v image (merged moves [])
  pub rising : (moves : List Entry) → is_rising (merged moves []) ≡ true
  pub same : (moves older : List Entry) → is_rising older ≡ true → merged (merged moves []) older ≡ merged moves older
  pub size : (moves : List Entry) → keys_differ moves ≡ true → length (merged moves []) ≡ length moves
  pub few : (r : Reclaim) (v : Values) → length (moves_of r v) ≤ length (copies_of r)
  pub objects : (blocks : ℕ) (old new : Image) (moves : List Entry) → AreValuesWhole blocks old (shown_in old) → AllByRecursion (IsMove old) moves → list_all (has_its_value blocks old) moves ≡ true → AreBlocksSame blocks old new
      → (shown_in new ≡ shown_in old) ⊎ (shown_in new ≡ shown_after old moves) → objects_in new ≡ objects_in old
  pub keys : (image : Image) (moves : List Entry) → AllByRecursion (IsMove image) moves → length (shown_after image moves) ≡ length (shown_in image)
  pub pages : (blocks : ℕ) (image : Image) (moves : List Entry) → HasBytes image → IsWhole blocks image → AllByRecursion FitsEntry moves → AllByRecursion (IsMove image) moves → list_all (has_its_value blocks image) moves ≡ true
      → length (pages_named (shown_after image moves)) ≡ length (pages_named (shown_in image))

-- how many of so many pages from one on are live
abbrev pub live_from : Values → ℕ → ℕ → ℕ
live_from v first n = count_by (is_live_at v) (range_with_len first n)

-- the copies and the pages that may still be copied are fewer than a block has; and so many pages of the block copied into are used
pub record AreFew (r : Reclaim) (v : Values) : Type 0 where
  pub fewer : length (copies_of r) + live_from v (32 * block_of r + next_of r) (32 - next_of r) ≤ 31
  pub used : target_next v ≡ length (copies_of r)

-- a copy's source died
abbrev pub is_source : Reclaim → ℕ → Bool
is_source r page = list_any (λ copy. copy.source == page) (copies_of r)

-- a collection never fills a block: at its start, after a step, and after pages of its block died; and where all is copied and the sources have died, the block has no page left
pub record CollectionsEnd : Type 0 where
  pub start : (r : Reclaim) (v : Values) (block : ℕ) → IsVictim v block → has_target v ≡ false → block_of r ≡ block → next_of r ≡ 0 → copies_of r ≡ [] → AreFew r v
  pub step : (old new : Reclaim) (v w : Values) (before after : Flash) → IsValueBlock (device_of v) (block_of old) → Steps old v before new w after → AreFew old v → AreFew new w
  pub die : (r : Reclaim) (v w : Values) → ((page : ℕ) → is_live_at w page ≡ true → is_live_at v page ≡ true) → target_next w ≡ target_next v → AreFew r v → AreFew r w
  pub copied : (r : Reclaim) (v : Values) → AreFew r v → copied v < 32
  pub over : (r : Reclaim) (v w : Values) (image : Image) → Collects r v image → AllCopied r v → ((page : ℕ) → is_source r page ≡ true → mark_at w page ≡ Dead) → ((page : ℕ) → page / 32 ≡ block_of r → is_source r page ≡ false → mark_at w page ≡ mark_at v page)
      → (page : ℕ) → page / 32 ≡ block_of r → is_live_at w page ≡ false

-- when entries name no page of a block: where they name none of its pages; and how often those after a group name a page, so that they name none of a free block
pub record BlocksAreLeft : Type 0 where
  pub unnamed : (entries : List Entry) (block : ℕ) → ((page : ℕ) → page / 32 ≡ block → times page entries ≡ 0) → is_unnamed entries block ≡ true
  pub after : (visible entries : List Entry) (page : ℕ) → is_rising visible ≡ true → keys_differ entries ≡ true
      → times page (without_marks (merged entries visible)) + times page (replaced visible entries) ≡ times page visible + times page entries
  pub free : (v : Values) (visible : List Entry) (lists : Transactions) (tx block : ℕ) → is_rising visible ≡ true → are_rising lists ≡ true → AreMarked v visible lists → state_at v block ≡ Free
      → is_unnamed (without_marks (merged (changes_of lists tx) visible)) block ≡ true
