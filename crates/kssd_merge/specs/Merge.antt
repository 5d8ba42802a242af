-- What is next in two lists of entries that are read as one.
use Rattle.std.specs.Prelude.{◌≡◌, Bool, false, List, [], ◌∷◌, Option, None, Some, if◌then◌else◌}
use Rattle.kssd_entry.specs.declared.entry.Entry.{Entry}
use Rattle.kssd_entry.specs.declared.entry.Entry.TheVariants.{Put, At, Gone}
use Rattle.kssd_model.specs.Rising.{is_gone}

-- without the deletion marks at the front
abbrev pub after_marks : List Entry → List Entry
after_marks [] = []
after_marks (e ∷ es) = if is_gone e then after_marks es else e ∷ es

-- what counts of the entries still to come: where marks are dropped, those at the front don't
abbrev pub counting : Bool → List Entry → List Entry
counting drop_gone entries = if drop_gone then after_marks entries else entries

-- whether the next entry is a mark that is dropped
abbrev pub is_dropped_mark : Bool → Option Entry → Bool
is_dropped_mark drop_gone None = false
is_dropped_mark drop_gone (Some (Put key value)) = false
is_dropped_mark drop_gone (Some (At key page length_)) = false
is_dropped_mark drop_gone (Some (Gone key)) = drop_gone

-- the first of the entries, and then those that are left; nothing where there were none
abbrev pub IsNext : List Entry → Option Entry → List Entry → Type 0
IsNext before None after = (before ≡ []) × (after ≡ [])
IsNext before (Some e) after = before ≡ e ∷ after
