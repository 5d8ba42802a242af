-- What holds of each writer of a run.
use Rattle.std.specs.Prelude.{◌≡◌, ◌<◌, ◌≤◌, ◌+◌, ◌*◌, ◌^◌, ℕ, Bool, true, false, List, [], length}
use Rattle.kssd_entry.specs.Packing.{Packed, packed, with_entry}
use Rattle.kssd_entry.specs.declared.entry.Entry.{Entry}
use Rattle.kssd_entry.specs.declared.packer.PageHead.{PageHead}
use Rattle.kssd_entry.specs.Spelling.{entry_bytes, page_of, IsPageOf}
use Rattle.kssd_model.specs.declared.runs.RunInfo.{RunInfo}

-- how many pages wait
abbrev pub waiting_pages : Bool → ℕ
waiting_pages true = 1
waiting_pages false = 0

-- the programmed pages are those of which the first keys are kept, and each closed page but the last of all has at least 9 entries
pub record IsWriter (info : RunInfo) (firsts : List (List ℕ)) (waiting filling : Packed) (waits closed : Bool) (begun : ℕ) : Type 0 where
  pub counted : length firsts ≡ info.pages
  pub number : info.number < 2 ^ 64
  pub begun_first : info.pages ≤ 32 * begun
  pub begun_last : 32 * begun ≤ info.pages + 32
  pub housed : begun ≤ length info.blocks
  pub few : info.pages ≤ 65536
  pub fill_size : length filling.bytes ≤ 396 * filling.count
  pub fill_count : filling.count ≤ length filling.bytes
  pub fill_room : length filling.bytes ≤ 4096
  pub most : info.entries ≤ 4096 * (info.pages + waiting_pages waits) + filling.count
  pub least : 9 * (info.pages + waiting_pages waits) + filling.count ≤ info.entries + 8
  pub full : closed ≡ false → 9 * (info.pages + waiting_pages waits) + filling.count ≤ info.entries
  pub some : closed ≡ false → 0 < info.entries → 0 < filling.count
  pub shut : closed ≡ true → filling.count ≡ 0

-- the entry stands behind those of the page that is filled; or that page was closed, and it is the first of the next
abbrev pub TakesEntry : Packed → Packed → Entry → Bool → Packed → Packed → Type 0
TakesEntry waiting filling entry false new_waiting new_filling = (length filling.bytes + length (entry_bytes entry) ≤ 4096) × (new_waiting ≡ waiting) × (new_filling ≡ with_entry filling entry)
TakesEntry waiting filling entry true new_waiting new_filling = (4096 < length filling.bytes + length (entry_bytes entry)) × (new_waiting ≡ filling) × (new_filling ≡ with_entry (record { bytes = []; count = 0 }) entry)

-- a packer holds the entries of a run's page with this head
pub record HoldsPage (head : PageHead) (packer : Packed) (entries : List Entry) : Type 0 where
  pub page : IsPageOf 3 head entries
  pub holds : packer ≡ packed entries

-- these bytes are a run's page with this head and these entries
pub record IsRunPage (bytes : List ℕ) (head : PageHead) (entries : List Entry) : Type 0 where
  pub page : IsPageOf 3 head entries
  pub spelled : bytes ≡ page_of head entries
