-- The first of some entries.
use Rattle.std.specs.Prelude.{◌≡◌, List, [], length, take}
use Rattle.kssd_entry.specs.declared.entry.Entry.{Entry}

-- the first of these entries, some where there are any
pub record AreFirst (found all : List Entry) : Type 0 where
  pub front : found ≡ take (length found) all
  pub some : found ≡ [] → all ≡ []
