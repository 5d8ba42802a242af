-- The entries from a key on, by pages.
use Rattle.std.specs.Prelude.{◌≡◌, ◌≢◌, ◌⊎◌, ◌<◌, ◌≤◌, ◌+◌, ◌-◌, ℕ, zero, suc, List, [], ◌++◌}
use Rattle.kssd_entry.specs.declared.entry.Entry.{Entry}
use Rattle.kssd_model.specs.Rising.{entries_from}
use Rattle.kssd_model.specs.RunPages.{joined}

-- those of the page before this one
abbrev pub rest_before : (ℕ → List Entry) → ℕ → List ℕ → List Entry
rest_before page zero key = []
rest_before page (suc i) key = entries_from (page i) key

-- page i is the first of so many that has any, and these are its entries from the key on
pub record IsFirstWith (page : ℕ → List Entry) (pages : ℕ) (key : List ℕ) (i : ℕ) (found : List Entry) : Type 0 where
  pub within : i < pages
  pub earlier : (j : ℕ) → j < i → entries_from (page j) key ≡ []
  pub some : found ≢ []
  pub are : found ≡ entries_from (page i) key

-- those of the first page that has any; none where no page has
abbrev pub GivesFrom : (ℕ → List Entry) → ℕ → List ℕ → List Entry → Type 0
GivesFrom page pages key found = ((i : ℕ) × IsFirstWith page pages key i found) ⊎ ((found ≡ []) × ((j : ℕ) → j < pages → entries_from (page j) key ≡ []))

-- the entries of so many pages from page k on
abbrev pub pages_behind : (ℕ → List Entry) → ℕ → ℕ → List Entry
pages_behind page k zero = []
pages_behind page k (suc m) = pages_behind page k m ++ page (k + m)

-- the entries from the key on are these and those of the pages from page k on
pub record IsSplitAt (page : ℕ → List Entry) (pages : ℕ) (key : List ℕ) (found : List Entry) (k : ℕ) : Type 0 where
  pub within : k ≤ pages
  pub are : entries_from (joined page pages) key ≡ found ++ pages_behind page k (pages - k)
  pub last : found ≡ [] → k ≡ pages
