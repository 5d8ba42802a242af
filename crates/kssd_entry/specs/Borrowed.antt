-- Entries that lie in bytes, the entry of a key, and the entries from a key on.
use Rattle.std.specs.Prelude.{ℕ, Bool, not, List, Option, find, filter, nat_eq}
use Rattle.std.specs.Cmp.Lexicographic.{pointwise, slice_cmp}
use Rattle.std.specs.Ordering.{nat_cmp, is_lt}
use Rattle.kssd_entry.specs.declared.entry.Entry.{Entry}
use Rattle.kssd_entry.specs.declared.entry.Entry.TheVariants.{Put, At, Gone}
use Rattle.kssd_entry.specs.declared.borrowed.BorrowedBody.{BorrowedBody}
use Rattle.kssd_entry.specs.declared.borrowed.BorrowedBody.TheVariants as bodies
use Rattle.kssd_entry.specs.declared.borrowed.BorrowedEntry.{BorrowedEntry}
use Rattle.kssd_entry.specs.Spelling.{key_of}

-- the entry of a key and what follows it
abbrev pub entry_with : List ℕ → BorrowedBody → Entry
entry_with key (bodies.Put value) = Put key value.now
entry_with key (bodies.At page length_) = At key page length_
entry_with key bodies.Gone = Gone key

-- the entry that lies there
abbrev pub entry_in : BorrowedEntry → Entry
entry_in borrowed = entry_with borrowed.key.now borrowed.body

-- whether an entry has this key
abbrev pub is_of_key : List ℕ → Entry → Bool
is_of_key key entry = pointwise nat_eq (key_of entry) key

-- the first entry of a key
abbrev pub find_key : List ℕ → List Entry → Option Entry
find_key key entries = find (is_of_key key) entries

-- whether an entry's key is below this one
abbrev pub is_key_below : List ℕ → Entry → Bool
is_key_below key entry = is_lt (slice_cmp nat_cmp (key_of entry) key)

-- the entries from a key on
abbrev pub keys_from : List ℕ → List Entry → List Entry
keys_from key entries = filter (λ e. not (is_key_below key e)) entries
