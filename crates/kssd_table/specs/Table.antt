-- Which lists of entries a table holds.
use Rattle.std.specs.Prelude.{◌≡◌, ◌≤◌, true, List, length}
use Rattle.kssd_entry.specs.declared.entry.Entry.{Entry}
use Rattle.kssd_model.specs.Rising.{is_rising}

-- at most 2,048 entries by rising keys
pub record IsSortedTable (entries : List Entry) : Type 0 where
  pub rising : is_rising entries ≡ true
  pub few : length entries ≤ 2048
