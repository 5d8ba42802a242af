-- Laws on lists of entries by rising keys, which are maps.
use Rattle.std.specs.Prelude.{◌≡◌, ℕ, true, List, [], ◌++◌, Option, Some, None, if◌then◌else◌}
use Rattle.kssd_entry.specs.declared.entry.Entry.{Entry}
use Rattle.kssd_model.specs.Rising.{is_gone, is_rising, find_entry, merged, first_of}
use Rattle.kssd_image.specs.Stages.{without_marks}

-- two of them in which each key finds the same entry are equal
abbrev pub ListsAreTheirLookups : Type 0
ListsAreTheirLookups = (xs ys : List Entry) → is_rising xs ≡ true → is_rising ys ≡ true → ((key : List ℕ) → find_entry xs key ≡ find_entry ys key) → xs ≡ ys

-- merging is associative; entries put in order over nothing, and the result over older ones, are the entries put over the older ones; and so are first ones and then later ones
pub record MergingIsAssociative : Type 0 where
  pub three : (a b c : List Entry) → is_rising b ≡ true → is_rising c ≡ true → merged (merged a b) c ≡ merged a (merged b c)
  pub over : (entries older : List Entry) → is_rising older ≡ true → merged (merged entries []) older ≡ merged entries older
  pub more : (early late older : List Entry) → merged (early ++ late) older ≡ merged late (merged early older)
  pub alone : (entries : List Entry) → is_rising entries ≡ true → merged entries [] ≡ entries
  pub found : (entries older : List Entry) (key : List ℕ) → find_entry (merged entries older) key ≡ first_of (find_entry (merged entries []) key) (find_entry older key)
  pub rising : (entries older : List Entry) → is_rising older ≡ true → is_rising (merged entries older) ≡ true

-- an entry that is found, unless it is a deletion mark
abbrev pub unmarked : Option Entry → Option Entry
unmarked None = None
unmarked (Some e) = if is_gone e then None else Some e

-- without deletion marks a key finds its entry, unless that is one; and below newer entries marks don't count
pub record MarksAreNothing : Type 0 where
  pub found : (entries : List Entry) (key : List ℕ) → is_rising entries ≡ true → find_entry (without_marks entries) key ≡ unmarked (find_entry entries key)
  pub rising : (entries : List Entry) → is_rising entries ≡ true → is_rising (without_marks entries) ≡ true
  pub below : (entries older : List Entry) → is_rising older ≡ true → without_marks (merged entries (without_marks older)) ≡ without_marks (merged entries older)
