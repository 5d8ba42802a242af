-- The entries of a list in memory that are still to come.
use Rattle.std.specs.Prelude.{List, drop}
use Rattle.kssd_entry.specs.declared.entry.Entry.{Entry}
use Rattle.kssd_merge.specs.declared.listed.Listed as listed

abbrev pub listed_rest : listed.Listed → List Entry
listed_rest source = drop source.passed source.entries
