-- A run that is written, and what is fed to it.
use Rattle.std.specs.Prelude.{◌≡◌, ◌<◌, ◌≤◌, ◌+◌, ◌*◌, ◌/◌, ℕ, Bool, true, false, not, List, [], ◌∷◌, ◌++◌, length, get_or, take, is_some, nat_lt}
use Rattle.std.specs.List.{AllByRecursion}
use Rattle.kv_nand.specs.Flash.{Image, Erased}
use Rattle.kssd_entry.specs.declared.entry.Entry.{Entry}
use Rattle.kssd_entry.specs.Packing.{Packed, packed}
use Rattle.kssd_entry.specs.Spelling.{entry_bytes, entries_bytes, FitsEntry}
use Rattle.kssd_model.specs.Rising.{is_rising}
use Rattle.kssd_model.specs.RunPages.{run_page, page_of_run, page_entries, joined, first_key, run_entries}
use Rattle.kssd_run.specs.declared.writer.RunWriter.{RunWriter}
use Rattle.kssd_run.specs.declared.reader.Run.{Run}
use Rattle.kssd_run.specs.Run.{run_info, SamePages, StandsRun}
use Rattle.kssd_run.specs.Write.{waiting_pages}

-- whether a closed page waits to be programmed
abbrev pub page_waits : RunWriter → Bool
page_waits writer = writer.waits

-- whether the last page is closed
abbrev pub is_closed : RunWriter → Bool
is_closed writer = writer.closed

-- whether an entry stands in a page that isn't closed
abbrev pub fills_page : RunWriter → Bool
fills_page writer = nat_lt 0 writer.filling.count

-- how many pages are programmed
abbrev pub pages_written : RunWriter → ℕ
pages_written writer = writer.info.pages

-- how many of its blocks are erased
abbrev pub blocks_begun : RunWriter → ℕ
blocks_begun writer = writer.begun

-- how many entries it took
abbrev pub entries_fed : RunWriter → ℕ
entries_fed writer = writer.info.entries

-- how many entries stand in a page that isn't closed
abbrev pub entries_filling : RunWriter → ℕ
entries_filling writer = writer.filling.count

-- the blocks for it
abbrev pub run_blocks : RunWriter → List ℕ
run_blocks writer = writer.info.blocks

-- the block of the next page
abbrev pub next_block : RunWriter → ℕ
next_block writer = get_or writer.info.blocks (writer.info.pages / 32) 0

-- the entries of the closed page that waits, none where none does
abbrev pub AreWaiting : Bool → Packed → List Entry → Type 0
AreWaiting true packer entries = (packer ≡ packed entries) × (0 < length entries) × (length (entries_bytes entries) ≤ 4096) × AllByRecursion FitsEntry entries
AreWaiting false packer entries = entries ≡ []

-- behind the entries of a page there is no room for the first of these
abbrev pub IsFullFor : List Entry → List Entry → Type 0
IsFullFor page [] = Unit {0}
IsFullFor page (e ∷ es) = 4096 < length (entries_bytes page) + length (entry_bytes e)

-- of so many pages each but the last was closed since the next entry didn't fit
abbrev pub AreFullPages : (ℕ → List Entry) → ℕ → Type 0
AreFullPages page n = (i : ℕ) → i + 1 < n → IsFullFor (page i) (page (i + 1))

-- the entries fed are those of the pages programmed, which stand in the image, of the page that waits and of the page that is filled; in the blocks begun all later pages are Erased. A page is closed where the next entry doesn't fit
pub record Writes (writer : RunWriter) (image : Image) (fed : List Entry) : Type 0 where
  pub waiting : List Entry
  pub filling : List Entry
  pub parts : fed ≡ joined (page_entries image writer.info.number writer.info.blocks) writer.info.pages ++ (waiting ++ filling)
  pub waits : AreWaiting writer.waits writer.waiting waiting
  pub fills : writer.filling ≡ packed filling
  pub fits : AllByRecursion FitsEntry filling
  pub rising : is_rising fed ≡ true
  pub count : length fed ≡ writer.info.entries
  pub pages : (i : ℕ) → i < writer.info.pages → is_some (page_of_run image writer.info.number writer.info.blocks i) ≡ true
  pub filled : (i : ℕ) → i < writer.info.pages → 0 < length (page_entries image writer.info.number writer.info.blocks i)
  pub firsts : (i : ℕ) → i < writer.info.pages → get_or writer.firsts i [] ≡ first_key (page_entries image writer.info.number writer.info.blocks i)
  pub later : (i : ℕ) → writer.info.pages ≤ i → i < 32 * writer.begun → image (run_page writer.info.blocks i) ≡ Erased
  pub full : AreFullPages (page_entries image writer.info.number writer.info.blocks) writer.info.pages
  pub full_last : (i : ℕ) → i + 1 ≡ writer.info.pages → IsFullFor (page_entries image writer.info.number writer.info.blocks i) (waiting ++ filling)
  pub full_waiting : writer.waits ≡ true → IsFullFor waiting filling

-- something was fed whose pages stand in the image as programmed, with all later pages of the blocks begun Erased
abbrev pub CanStep : RunWriter → Image → Type 0
CanStep writer image = (fed : List Entry) × Writes writer image fed

-- it is the same run, with the same pages programmed
pub record KeepsPlace (old new : RunWriter) : Type 0 where
  pub level : new.info.level ≡ old.info.level
  pub number : new.info.number ≡ old.info.number
  pub blocks : run_blocks new ≡ run_blocks old
  pub pages : pages_written new ≡ pages_written old
  pub begun : blocks_begun new ≡ blocks_begun old

-- a run without entries
pub record IsStarted (level number : ℕ) (blocks : List ℕ) (writer : RunWriter) : Type 0 where
  pub level_is : writer.info.level ≡ level
  pub number_is : writer.info.number ≡ number
  pub blocks_are : run_blocks writer ≡ blocks
  pub waits : page_waits writer ≡ false
  pub open_ : is_closed writer ≡ false
  pub pages : pages_written writer ≡ 0
  pub begun : blocks_begun writer ≡ 0
  pub entries : entries_fed writer ≡ 0
  pub writes : (image : Image) → Writes writer image []

-- the page that waited is programmed, or else the next block is erased; what was fed stays
pub record Steps (old : RunWriter) (before : Image) (done : Bool) (new : RunWriter) (after : Image) : Type 0 where
  pub waits : page_waits new ≡ not done
  pub closed : is_closed new ≡ is_closed old
  pub fills : fills_page new ≡ fills_page old
  pub programs : done ≡ true → (pages_written new ≡ pages_written old + 1) × (blocks_begun new ≡ blocks_begun old)
  pub erases : done ≡ false → (pages_written new ≡ pages_written old) × (blocks_begun new ≡ blocks_begun old + 1)
  pub level : new.info.level ≡ old.info.level
  pub number : new.info.number ≡ old.info.number
  pub blocks : run_blocks new ≡ run_blocks old
  pub entries : entries_fed new ≡ entries_fed old
  pub writes : (fed : List Entry) → Writes old before fed → Writes new after fed

-- the run of what was fed: each page but the last is full, so that there is at most one page for 9 entries, and it has just the blocks for its pages
pub record IsWritten (writer : RunWriter) (run : Run) : Type 0 where
  pub level : (run_info run).level ≡ writer.info.level
  pub number : (run_info run).number ≡ writer.info.number
  pub pages : (run_info run).pages ≡ pages_written writer
  pub fed : (run_info run).entries ≡ entries_fed writer
  pub few : (run_info run).pages ≤ ((run_info run).entries + 8) / 9
  pub housed : length (run_info run).blocks ≡ ((run_info run).pages + 31) / 32
  pub blocks : (run_info run).blocks ≡ take (((run_info run).pages + 31) / 32) (run_blocks writer)
  pub entries : (image : Image) (fed : List Entry) → Writes writer image fed → run_entries image (run_info run) ≡ fed
  pub full : (image : Image) (fed : List Entry) → Writes writer image fed → AreFullPages (page_entries image (run_info run).number (run_info run).blocks) (run_info run).pages
  pub stands : (device : ℕ) (image : Image) (fed : List Entry) → Writes writer image fed → ((i : ℕ) → i < pages_written writer → run_page (run_blocks writer) i < 32 * device) → StandsRun run device image

-- how pages and blocks follow from entries: there is at most one page for 9 entries, the last of all apart, and at most one block more is begun than is full
pub record AreCounts (writer : RunWriter) : Type 0 where
  pub pages : 9 * (pages_written writer + waiting_pages (page_waits writer)) + entries_filling writer ≤ entries_fed writer + 8
  pub begun : 32 * blocks_begun writer ≤ pages_written writer + 32
  pub housed : (pages_written writer ≤ 32 * blocks_begun writer) × (blocks_begun writer ≤ length (run_blocks writer))

-- the counts of each writer
abbrev pub WriterCounts : Type 0
WriterCounts = (writer : RunWriter) → AreCounts writer

-- a run that is half written stays so in each image that has the pages of the blocks begun as they are
abbrev pub WritesStay : Type 0
WritesStay = (writer : RunWriter) (old new : Image) (fed : List Entry) → SamePages (run_blocks writer) (32 * blocks_begun writer) old new → Writes writer old fed → Writes writer new fed
