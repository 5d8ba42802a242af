-- How a page of a run goes on behind the one before it.
use Rattle.std.specs.Prelude.{Bool, true, ◌&&◌, not, List, Option, None, Some, ◌-◌, length, slice_get}
use Rattle.std.specs.List.{list_any}
use Rattle.std.specs.Ordering.{is_lt}
use Rattle.kssd_entry.specs.declared.entry.Entry.{Entry}
use Rattle.kssd_entry.specs.Spelling.{key_of}
use Rattle.kssd_model.specs.Rising.{key_cmp, is_rising, is_gone}

-- whether the first key is below the second, where both are there
abbrev pub are_apart : Option Entry → Option Entry → Bool
are_apart None later = true
are_apart (Some last) None = true
are_apart (Some last) (Some first) = is_lt (key_cmp (key_of last) (key_of first))

-- whether the last key of some entries is below the first of others
abbrev pub goes_on : List Entry → List Entry → Bool
goes_on before entries = are_apart (slice_get before (length before - 1)) (slice_get entries 0)

-- whether a page with these entries isn't damaged behind one with those before it
abbrev pub is_good_after : List Entry → List Entry → Bool → Bool
is_good_after before entries in_base = is_rising entries && goes_on before entries && not (in_base && list_any is_gone entries)
