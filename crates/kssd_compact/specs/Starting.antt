-- What a job begins with.
use Rattle.std.specs.Prelude.{List, [], Option, Some, None}
use Rattle.kssd_entry.specs.declared.entry.Entry.{Entry}

-- the entries of a table, none where there is none
abbrev pub frozen_entries : Option (List Entry) → List Entry
frozen_entries None = []
frozen_entries (Some entries) = entries
