-- The entries of a page of a run: how many, and which is found in it.
use Rattle.std.specs.Prelude.{◌≡◌, ◌<◌, ◌≤◌, ℕ, Bool, false, List, length, Option, Some, is_ok}
use Rattle.kv_nand.specs.Flash.{PageState, Erased, Whole, Cut}
use Rattle.kssd_entry.specs.declared.entry.Entry.{Entry}
use Rattle.kssd_entry.specs.Reading.{page_at}
use Rattle.kssd_model.specs.Rising.{find_entry, entries_from}
use Rattle.kssd_model.specs.RunPages.{run_page_in}

-- at least one, and no more than a page has room for
pub record HasEntries (entries : List Entry) : Type 0 where
  pub some : 0 < length entries
  pub few : length entries ≤ 4096

-- whether a page of the flash is one of a run
abbrev pub holds_entries : PageState → Bool
holds_entries Erased = false
holds_entries (Whole bytes) = is_ok (page_at 3 bytes)
holds_entries Cut = false

-- what was found for a key is its entry, of whatever run and place the page is
abbrev pub IsFoundIn : PageState → List ℕ → Option Entry → Type 0
IsFoundIn page key found = (number i : ℕ) (entries : List Entry) → run_page_in number i page ≡ Some entries → found ≡ find_entry entries key

-- these are its entries from a key on, of whatever run and place the page is
abbrev pub IsRestIn : PageState → List ℕ → List Entry → Type 0
IsRestIn page key rest = (number i : ℕ) (entries : List Entry) → run_page_in number i page ≡ Some entries → rest ≡ entries_from entries key
