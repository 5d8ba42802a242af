-- Lists of entries by rising keys, which are maps.
use Rattle.std.specs.Prelude.{◌≡◌, ℕ, ◌<◌, ◌≤◌, Bool, true, false, length, get_or, ◌&&◌, not, nat_eq, List, [], ◌∷◌, Option, None, Some, MatchBool, find, filter, fold}
use Rattle.std.specs.List.{list_all}
use Rattle.std.specs.Ordering.{nat_cmp, is_lt}
use Rattle.std.specs.declared.cmp.Ordering.{Ordering}
use Rattle.std.specs.declared.cmp.Ordering.TheVariants.{Less, Equal, Greater}
use Rattle.std.specs.Cmp.Lexicographic.{pointwise, slice_cmp}
use Rattle.kssd_entry.specs.declared.entry.Entry.{Entry}
use Rattle.kssd_entry.specs.declared.entry.Entry.TheVariants.{Put, At, Gone}
use Rattle.kssd_entry.specs.Spelling.{key_of}

-- whether an entry is a deletion mark
abbrev pub is_gone : Entry → Bool
is_gone (Put key value) = false
is_gone (At key page length_) = false
is_gone (Gone key) = true

-- the order of keys: byte by byte, and a key before those that it begins
abbrev pub key_cmp : List ℕ → List ℕ → Ordering
key_cmp = slice_cmp nat_cmp

-- whether an entry has this key
abbrev pub has_key : List ℕ → Entry → Bool
has_key key entry = pointwise nat_eq (key_of entry) key

-- whether an entry's key is below this one
abbrev pub is_below : List ℕ → Entry → Bool
is_below key entry = is_lt (key_cmp (key_of entry) key)

-- whether each key is below those after it
abbrev pub is_rising : List Entry → Bool
is_rising [] = true
is_rising (e ∷ es) = list_all (λ f. is_lt (key_cmp (key_of e) (key_of f))) es && is_rising es

-- the entry of a key
abbrev pub find_entry : List Entry → List ℕ → Option Entry
find_entry entries key = find (has_key key) entries

-- the entries from a key on
abbrev pub entries_from : List Entry → List ℕ → List Entry
entries_from entries key = filter (λ e. not (is_below key e)) entries

-- the entries before a place are below the key, those from it on are not
pub record IsPlace (key : List ℕ) (xs : List Entry) (i : ℕ) : Type 0 where
  pub within : i ≤ length xs
  pub before : (k : ℕ) (d : Entry) → k < i → is_below key (get_or xs k d) ≡ true
  pub behind : (k : ℕ) (d : Entry) → i ≤ k → k < length xs → is_below key (get_or xs k d) ≡ false

-- whether there is an entry at a place, with this key
abbrev pub HasAt : List Entry → ℕ → List ℕ → Bool → Type 0
HasAt entries place key has = MatchBool has ((place < length entries) × ((d : Entry) → has_key key (get_or entries place d) ≡ true)) ((d : Entry) → place < length entries → has_key key (get_or entries place d) ≡ false)

-- one of three, by how two keys compare
abbrev pub by_order : {A : Type 0} → Ordering → A → A → A → A
by_order Less a b c = a
by_order Equal a b c = b
by_order Greater a b c = c

-- with an entry in its place, instead of the one that had its key
abbrev pub put_entry : List Entry → Entry → List Entry
put_entry [] e = e ∷ []
put_entry (x ∷ xs) e = by_order (key_cmp (key_of e) (key_of x)) (e ∷ x ∷ xs) (e ∷ xs) (x ∷ put_entry xs e)

-- the older entries with each newer one put in: for each key the newest
abbrev pub merged : List Entry → List Entry → List Entry
merged newer older = fold put_entry older newer

-- the first of two that is there
abbrev pub first_of : Option Entry → Option Entry → Option Entry
first_of None later = later
first_of (Some e) later = Some e
