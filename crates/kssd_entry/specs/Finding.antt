-- The entry of a key, and the entries from a key on, among entries that were read.
use Rattle.std.specs.Prelude.{ℕ, List, [], Option, None, Result, Ok, Err}
use Rattle.kssd_entry.specs.declared.entry.Entry.{Entry}
use Rattle.kssd_entry.specs.declared.fault.PageFault.{PageFault}
use Rattle.kssd_entry.specs.Borrowed.{find_key, keys_from}

-- the first entry of a key, none where nothing was read
abbrev pub found_among : List ℕ → Result (List Entry × List ℕ) PageFault → Option Entry
found_among key (Ok read) = find_key key read.0
found_among key (Err fault) = None

-- the entries from a key on, none where nothing was read
abbrev pub rest_among : List ℕ → Result (List Entry × List ℕ) PageFault → List Entry
rest_among key (Ok read) = keys_from key read.0
rest_among key (Err fault) = []
