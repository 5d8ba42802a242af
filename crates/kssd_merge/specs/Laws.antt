-- What holds of every two lists of entries that are read as one.
use Rattle.std.specs.Prelude.{◌≡◌, ℕ, true, List}
use Rattle.kssd_entry.specs.declared.entry.Entry.{Entry}
use Rattle.kssd_model.specs.Rising.{is_rising, find_entry, merged, first_of}

-- for each key the newer entry, and where there is none the older one; and the keys rise
abbrev pub NewestWins : Type 0
NewestWins =
    (newer older : List Entry) → is_rising newer ≡ true → is_rising older ≡ true
    → ((key : List ℕ) → find_entry (merged newer older) key ≡ first_of (find_entry newer key) (find_entry older key)) × (is_rising (merged newer older) ≡ true)
