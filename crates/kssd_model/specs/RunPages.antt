-- The pages of sorted runs, and what of them is damaged.
use Rattle.std.specs.Prelude.{◌≡◌, ◌≢◌, ◌⊎◌, ◌<◌, ◌+◌, ◌-◌, ◌*◌, ◌/◌, ◌%◌, ◌==◌, ◌&&◌, not, nat_eq, ℕ, zero, suc, Bool, true, false, List, [], ◌∷◌, ◌++◌, length, get_or, Option, None, Some, is_some, unwrap_or, Result, Ok, Err, if◌then◌else◌}
use Rattle.std.specs.List.{list_any, IsDistinct}
use Rattle.kv_nand.specs.Flash.{Image, PageState, Erased, Whole, Cut}
use Rattle.kssd_layout.specs.Numbers.{region_in}
use Rattle.kssd_layout.specs.declared.region.Region.TheVariants.{Run}
use Rattle.kssd_entry.specs.declared.entry.Entry.{Entry}
use Rattle.kssd_entry.specs.declared.packer.PageHead.{PageHead}
use Rattle.kssd_entry.specs.declared.fault.PageFault.{PageFault}
use Rattle.kssd_entry.specs.Reading.{page_at}
use Rattle.kssd_entry.specs.Spelling.{key_of}
use Rattle.kssd_model.specs.declared.runs.RunInfo.{RunInfo}
use Rattle.kssd_model.specs.Rising.{is_rising, is_gone}

-- page i of a run stands in page i mod 32 of its block i / 32
abbrev pub run_page : List ℕ → ℕ → ℕ
run_page blocks i = 32 * get_or blocks (i / 32) 0 + i % 32

-- the entries of a page that reads, where its head has this number and index
abbrev pub of_run : ℕ → ℕ → Result (PageHead × List Entry) PageFault → Option (List Entry)
of_run number i (Ok read) = if (read.0.number == number) && (read.0.index == i) then Some read.1 else None
of_run number i (Err fault) = None

-- the entries of page i of the run of this number, where the page is one
abbrev pub run_page_in : ℕ → ℕ → PageState → Option (List Entry)
run_page_in number i Erased = None
run_page_in number i (Whole bytes) = of_run number i (page_at 3 bytes)
run_page_in number i Cut = None

-- the same in an image, by the run's blocks
abbrev pub page_of_run : Image → ℕ → List ℕ → ℕ → Option (List Entry)
page_of_run image number blocks i = run_page_in number i (image (run_page blocks i))

-- its entries, none where it is no such page
abbrev pub page_entries : Image → ℕ → List ℕ → ℕ → List Entry
page_entries image number blocks i = unwrap_or (page_of_run image number blocks i) []

-- the entries of the first so many pages
abbrev pub joined : (ℕ → List Entry) → ℕ → List Entry
joined page zero = []
joined page (suc n) = joined page n ++ page n

-- all entries of a run
abbrev pub run_entries : Image → RunInfo → List Entry
run_entries image info = joined (page_entries image info.number info.blocks) info.pages

-- its pages are pages of this run with entries and lie on the device, its keys rise, and it has as many entries as it says
pub record IsRunIn (info : RunInfo) (device : ℕ) (image : Image) : Type 0 where
  pub pages : (i : ℕ) → i < info.pages → is_some (page_of_run image info.number info.blocks i) ≡ true
  pub filled : (i : ℕ) → i < info.pages → 0 < length (page_entries image info.number info.blocks i)
  pub within : (i : ℕ) → i < info.pages → run_page info.blocks i < 32 * device
  pub rising : is_rising (run_entries image info) ≡ true
  pub count : length (run_entries image info) ≡ info.entries

-- the blocks differ, and are blocks of runs
pub record AreRunBlocks (device : ℕ) (blocks : List ℕ) : Type 0 where
  pub distinct : IsDistinct nat_eq blocks
  pub region : (i : ℕ) → i < length blocks → region_in device (get_or blocks i 0) ≡ Run

-- its pages lie on a device of so many blocks
abbrev pub AreOnDevice : RunInfo → ℕ → Type 0
AreOnDevice info device = (i : ℕ) → i < info.pages → run_page info.blocks i < 32 * device

-- whether page i isn't damaged: it is a page of the run, the keys rise up to its last, and in the base there is no deletion mark in it
abbrev pub is_good_page : Image → RunInfo → ℕ → Bool
is_good_page image info i =
    is_some (page_of_run image info.number info.blocks i)
    && (is_rising (joined (page_entries image info.number info.blocks) (i + 1))
    && not ((info.level == 2) && list_any is_gone (page_entries image info.number info.blocks i)))

-- none of the first so many pages is damaged
abbrev pub AreGoodPages : Image → RunInfo → ℕ → Type 0
AreGoodPages image info n = (i : ℕ) → i < n → is_good_page image info i ≡ true

-- no page is damaged, and the entries are as many as the run is to have
pub record IsGoodRun (image : Image) (info : RunInfo) : Type 0 where
  pub pages : AreGoodPages image info info.pages
  pub count : length (run_entries image info) ≡ info.entries

-- page i is the first that is damaged
pub record IsFirstBad (image : Image) (info : RunInfo) (i page : ℕ) : Type 0 where
  pub within : i < info.pages
  pub earlier : AreGoodPages image info i
  pub bad : is_good_page image info i ≡ false
  pub place : page ≡ run_page info.blocks i

-- no page is damaged, and the last is named where the entries differ in number
pub record IsMiscounted (image : Image) (info : RunInfo) (page : ℕ) : Type 0 where
  pub pages : AreGoodPages image info info.pages
  pub count : length (run_entries image info) ≢ info.entries
  pub place : page ≡ run_page info.blocks (info.pages - 1)

-- the page at which a run is damaged
abbrev pub IsBadRunAt : Image → RunInfo → ℕ → Type 0
IsBadRunAt image info page = ((i : ℕ) × IsFirstBad image info i page) ⊎ IsMiscounted image info page

-- a list of entries begins with this key
abbrev pub first_key : List Entry → List ℕ
first_key [] = []
first_key (e ∷ es) = key_of e
