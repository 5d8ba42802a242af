-- Reading an entry from the front of bytes, and a page of entries.
use Rattle.std.specs.Prelude.{◌≡◌, ◌<◌, ℕ, zero, suc, ◌+◌, Bool, not, ◌&&◌, ◌||◌, ◌==◌, nat_lt, List, [], ◌∷◌, length, get_or, take, drop, Result, Ok, Err, if◌then◌else◌}
use Rattle.std.specs.List.{list_all}
use Rattle.std.specs.Int.{Width, w16, w32, w64, byte_len, from_be_bytes}
use Rattle.kssd_entry.specs.declared.entry.Entry.{Entry}
use Rattle.kssd_entry.specs.declared.entry.Entry.TheVariants.{Put, At, Gone}
use Rattle.kssd_entry.specs.declared.fault.EntryFault.{EntryFault}
use Rattle.kssd_entry.specs.declared.fault.EntryFault.TheVariants as entry_faults
use Rattle.kssd_entry.specs.declared.fault.PageFault.{PageFault}
use Rattle.kssd_entry.specs.declared.fault.PageFault.TheVariants as page_faults
use Rattle.kssd_entry.specs.declared.packer.PageHead.{PageHead}
use Rattle.kssd_entry.specs.declared.page.PageEntries.{PageEntries}
use Rattle.kssd_entry.specs.Spelling.{is_head}

infixl 10 ◌>>=◌
abbrev pub ◌>>=◌ : {A B E : Type 0} → Result A E → (A → Result B E) → Result B E
(Ok x) >>= f = f x
(Err e) >>= f = Err e

-- what a function returned, seen by view, is what reading gives, unless memory ran out
abbrev pub EntryFails : {Y : Type 0} → EntryFault → Result Y EntryFault → Type 0
EntryFails entry_faults.Memory read = Unit {0}
EntryFails entry_faults.Short read = read ≡ Err entry_faults.Short
EntryFails entry_faults.Bad read = read ≡ Err entry_faults.Bad

abbrev pub EntryGives : {X Y : Type 0} → (X → Y) → Result X EntryFault → Result Y EntryFault → Type 0
EntryGives view (Ok x) read = read ≡ Ok (view x)
EntryGives view (Err e) read = EntryFails e read

-- what a function returned, seen by view, is just what reading gives
abbrev pub EntryIs : {X Y : Type 0} → (X → Y) → Result X EntryFault → Result Y EntryFault → Type 0
EntryIs view (Ok x) read = read ≡ Ok (view x)
EntryIs view (Err e) read = read ≡ Err e

abbrev pub PageFails : {Y : Type 0} → PageFault → Result Y PageFault → Type 0
PageFails page_faults.Memory read = Unit {0}
PageFails fault read = read ≡ Err fault

abbrev pub PageGives : {X Y : Type 0} → (X → Y) → Result X PageFault → Result Y PageFault → Type 0
PageGives view (Ok x) read = read ≡ Ok (view x)
PageGives view (Err e) read = PageFails e read

-- a field is a value and the bytes after it
abbrev pub number_at : Width → List ℕ → Result (ℕ × List ℕ) EntryFault
number_at w bytes = if nat_lt (length bytes) (byte_len w) then Err entry_faults.Short else Ok (from_be_bytes w (take (byte_len w) bytes), drop (byte_len w) bytes)

abbrev pub bytes_at : ℕ → List ℕ → Result (List ℕ × List ℕ) EntryFault
bytes_at n bytes = if nat_lt (length bytes) n then Err entry_faults.Short else Ok (take n bytes, drop n bytes)

-- a key behind its length
unfoldable pub key_at : List ℕ → Result (List ℕ × List ℕ) EntryFault
key_at bytes = do
  n ← number_at w16 bytes
  if (n.0 == 0) || nat_lt 264 n.0 then Err entry_faults.Bad else bytes_at n.0 n.1

-- a value behind its length
unfoldable pub inline_at : List ℕ → Result (List ℕ × List ℕ) EntryFault
inline_at [] = Err entry_faults.Short
inline_at (n ∷ rest) = if nat_lt 128 n then Err entry_faults.Bad else bytes_at n rest

-- a page and a length
unfoldable pub pointer_at : List ℕ → Result ((ℕ × ℕ) × List ℕ) EntryFault
pointer_at bytes = do
  page ← number_at w32 bytes
  n ← number_at w16 page.1
  if nat_lt n.0 129 || nat_lt 4096 n.0 then Err entry_faults.Bad else Ok ((page.0, n.0), n.1)

-- what follows the key in an entry with this tag
unfoldable pub body_at : ℕ → List ℕ → List ℕ → Result (Entry × List ℕ) EntryFault
body_at tag key bytes =
    if tag == 1 then (inline_at bytes >>= λ v. Ok (Put key v.0, v.1))
    else (if tag == 2 then (pointer_at bytes >>= λ p. Ok (At key p.0.0 p.0.1, p.1)) else Ok (Gone key, bytes))

-- an entry and the bytes after it
unfoldable pub entry_at : List ℕ → Result (Entry × List ℕ) EntryFault
entry_at [] = Err entry_faults.Short
entry_at (tag ∷ bytes) =
    if (tag == 0) || nat_lt 3 tag then Err entry_faults.Bad else (key_at bytes >>= λ key. body_at tag key.0 key.1)

-- the fault of the entry of this number
abbrev pub page_fault : ℕ → EntryFault → PageFault
page_fault i entry_faults.Short = page_faults.Short
page_fault i entry_faults.Bad = page_faults.BadEntry i
page_fault i entry_faults.Memory = page_faults.Memory

-- a field of the entry of this number
abbrev pub numbered : {X : Type 0} → ℕ → Result X EntryFault → Result X PageFault
numbered i (Ok x) = Ok x
numbered i (Err e) = Err (page_fault i e)

-- so many entries, the first of this number
unfoldable pub entries_at : ℕ → ℕ → List ℕ → Result (List Entry × List ℕ) PageFault
entries_at i zero bytes = Ok ([], bytes)
entries_at i (suc n) bytes = do
  first ← numbered i (entry_at bytes)
  others ← entries_at (i + 1) n first.1
  Ok (first.0 ∷ others.0, others.1)

-- each number is a byte
abbrev pub AreBytes : List ℕ → Type 0
AreBytes bytes = (i : ℕ) → get_or bytes i 0 < 256

-- whether all bytes are zero
abbrev pub all_zero : List ℕ → Bool
all_zero bytes = list_all (λ b. b == 0) bytes

-- what the spare bytes say, whatever they are
abbrev pub head_in : List ℕ → PageHead
head_in spare = record {
  kind = get_or spare 0 0;
  flags = get_or spare 1 0;
  number = from_be_bytes w64 (take 8 (drop 2 spare));
  index = from_be_bytes w32 (take 4 (drop 12 spare));
}

-- the number of entries that the spare bytes say
abbrev pub count_in : List ℕ → ℕ
count_in spare = from_be_bytes w16 (take 2 (drop 10 spare))

-- the spare bytes are of this kind, and what has no name in them is zero
abbrev pub is_of_kind : ℕ → List ℕ → Bool
is_of_kind kind spare = (get_or spare 0 0 == kind) && is_head (head_in spare) (count_in spare) && all_zero (drop 16 spare)

-- a page by its data and its spare bytes
abbrev pub page_by : ℕ → List ℕ → List ℕ → Result (PageHead × List Entry) PageFault
page_by kind bytes spare =
    if not (is_of_kind kind spare) then Err page_faults.NotThisKind else (do
      x ← entries_at 0 (count_in spare) bytes
      if all_zero x.1 then Ok (head_in spare, x.0) else Err (page_faults.BadEntry (count_in spare)))

-- a page of this kind: its head and its entries, or the first fault from left to right
unfoldable pub page_at : ℕ → List ℕ → Result (PageHead × List Entry) PageFault
page_at kind bytes = page_by kind (take 4096 bytes) (drop 4096 bytes)

-- it was read as this, unless memory ran out
abbrev pub IsReadAs : PageHead → List Entry → Result PageEntries PageFault → Type 0
IsReadAs head entries (Ok read) = (read.head ≡ head) × (read.entries ≡ entries)
IsReadAs head entries (Err fault) = fault ≡ page_faults.Memory
