-- What is spelled is read again.
use Rattle.std.proofs.Common.{◌≡◌, ℕ, zero, suc, ◌+◌, ◌-◌, ◌^◌, ◌<◌, ◌≤◌, true, false, ltb, eqb, List, [], ◌∷◌, ◌++◌, length, get_or, take, drop, replicate, Result, Ok, Err, refl, sym, ap, ◌∙◌, append_assoc, arith, length-append}
use Rattle.std.specs.List.{AllByRecursion}
use Rattle.std.specs.Int.{w16, w32, to_be_bytes}
use Rattle.std.proofs.lemmas.Bool.{le-ltb, ne_eqb, eq-eqb}
use Rattle.std.proofs.lemmas.List.{take_at, drop_at, length-replicate, get_or-append_right}
use Rattle.std.proofs.lemmas.List.Concat.{flat_map-cons}
use Rattle.std.proofs.lemmas.Nat.{from_be_bytes-to_be_bytes_2, from_be_bytes-to_be_bytes_4, from_be_bytes-to_be_bytes_8}
use Rattle.kv_base.specs.Sizes.{IsKey}
use Rattle.kssd_entry.specs.declared.entry.Entry.{Entry}
use Rattle.kssd_entry.specs.declared.entry.Entry.TheVariants.{Put, At, Gone}
use Rattle.kssd_entry.specs.declared.packer.PageHead.{PageHead}
use Rattle.kssd_entry.specs.declared.fault.EntryFault.{EntryFault}
use Rattle.kssd_entry.specs.declared.fault.PageFault.{PageFault}
use Rattle.kssd_entry.specs.declared.fault.PageFault.TheVariants as page_faults
use Rattle.kssd_entry.specs.declared.page.PageEntries.{PageEntries}
use Rattle.kssd_entry.proofs.Filling.{length-entry_bytes}
use Rattle.kssd_entry.specs.Spelling.{size_of, filled, key_bytes, entry_bytes, entries_bytes, spare_bytes, page_bytes, page_of, FitsEntry, is_head, IsPageOf}
use Rattle.kssd_entry.specs.Reading.{PageGives, IsReadAs, ◌>>=◌, number_at, bytes_at, key_at, inline_at, pointer_at, body_at, entry_at, entries_at, all_zero, head_in, count_in, is_of_kind, page_by, page_at}

abbrev read : {A : Type 0} → A → List ℕ → Result (A × List ℕ) EntryFault
read x rest = Ok (x, rest)

bytes_again : (text rest : List ℕ) → bytes_at (length text) (text ++ rest) ≡ Ok (text, rest)
bytes_again text rest =
    let long : ltb (length (text ++ rest)) (length text) ≡ false = le-ltb _ _ (omega (arith, length-append text rest)) in
    rw (long, take_at text rest (length text) refl, drop_at text rest (length text) refl) refl

number16_again : (n : ℕ) (rest : List ℕ) → n < 2 ^ 16 → number_at w16 (to_be_bytes w16 n ++ rest) ≡ Ok (n, rest)
number16_again n rest lt =
    let long : ltb (length (to_be_bytes w16 n ++ rest)) 2 ≡ false = le-ltb _ _ (omega (arith, length-append (to_be_bytes w16 n) rest)) in
    rw long (ap (λ m. read m rest) (from_be_bytes-to_be_bytes_2 n lt))

number32_again : (n : ℕ) (rest : List ℕ) → n < 2 ^ 32 → number_at w32 (to_be_bytes w32 n ++ rest) ≡ Ok (n, rest)
number32_again n rest lt =
    let long : ltb (length (to_be_bytes w32 n ++ rest)) 4 ≡ false = le-ltb _ _ (omega (arith, length-append (to_be_bytes w32 n) rest)) in
    rw long (ap (λ m. read m rest) (from_be_bytes-to_be_bytes_4 n lt))

key_again : (key rest : List ℕ) → IsKey key → key_at (key_bytes key ++ rest) ≡ Ok (key, rest)
unfolding key_at
key_again key rest h =
    let some : eqb (length key) 0 ≡ false = ne_eqb _ _ (λ e. absurd (omega arith)) in
    let few : ltb 264 (length key) ≡ false = le-ltb _ _ (omega arith) in
    rw (number16_again (length key) (key ++ rest) (omega arith), some, few) (bytes_again key rest)

inline_again : (value rest : List ℕ) → length value ≤ 128 → inline_at ((length value ∷ value) ++ rest) ≡ Ok (value, rest)
unfolding inline_at
inline_again value rest h =
    let few : ltb 128 (length value) ≡ false = le-ltb _ _ h in
    rw few (bytes_again value rest)

pointer_again : (page n : ℕ) (rest : List ℕ) → page < 2 ^ 32 → 129 ≤ n → n ≤ 4096 → pointer_at ((to_be_bytes w32 page ++ to_be_bytes w16 n) ++ rest) ≡ Ok ((page, n), rest)
unfolding pointer_at
pointer_again page n rest p low high =
    let not_low : ltb n 129 ≡ false = le-ltb _ _ low in
    let not_high : ltb 4096 n ≡ false = le-ltb _ _ high in
    let first = number32_again page (to_be_bytes w16 n ++ rest) p in
    let second = number16_again n rest (omega arith) in
    rw (first, second, not_low, not_high) refl

entry_again : (entry : Entry) (rest : List ℕ) → FitsEntry entry → entry_at (entry_bytes entry ++ rest) ≡ Ok (entry, rest)
unfolding entry_at body_at entry_bytes
entry_again (Put key value) rest h =
    let regrouped : (key_bytes key ++ (length value ∷ value)) ++ rest ≡ key_bytes key ++ ((length value ∷ value) ++ rest) = append_assoc (key_bytes key) (length value ∷ value) rest in
    ap (λ (bytes : List ℕ). key_at bytes >>= λ k. body_at 1 k.0 k.1) regrouped ∙ rw (key_again key ((length value ∷ value) ++ rest) h.0, inline_again value rest h.1) refl
entry_again (At key page n) rest h =
    let regrouped : ((key_bytes key ++ to_be_bytes w32 page) ++ to_be_bytes w16 n) ++ rest ≡ key_bytes key ++ ((to_be_bytes w32 page ++ to_be_bytes w16 n) ++ rest) = ap (λ (bytes : List ℕ). bytes ++ rest) (append_assoc (key_bytes key) (to_be_bytes w32 page) (to_be_bytes w16 n)) ∙ append_assoc (key_bytes key) (to_be_bytes w32 page ++ to_be_bytes w16 n) rest in
    ap (λ (bytes : List ℕ). key_at bytes >>= λ k. body_at 2 k.0 k.1) regrouped ∙ rw (key_again key ((to_be_bytes w32 page ++ to_be_bytes w16 n) ++ rest) h.0, pointer_again page n rest h.1 h.2.0 h.2.1) refl
entry_again (Gone key) rest h = rw (key_again key rest h) refl

entries_again : (i : ℕ) (entries : List Entry) (rest : List ℕ) → AllByRecursion FitsEntry entries → entries_at i (length entries) (entries_bytes entries ++ rest) ≡ Ok (entries, rest)
unfolding entries_at
entries_again i [] rest h = refl
entries_again i (e ∷ entries) rest h =
    let regrouped : entries_bytes (e ∷ entries) ++ rest ≡ entry_bytes e ++ (entries_bytes entries ++ rest) = ap (λ (x : List ℕ). x ++ rest) (flat_map-cons entry_bytes e entries) ∙ append_assoc (entry_bytes e) (entries_bytes entries) rest in
    ap (entries_at i (suc (length entries))) regrouped ∙ rw (entry_again e (entries_bytes entries ++ rest) h.0, entries_again (i + 1) entries rest h.1) refl

zeros_are_zero : (n : ℕ) → all_zero (replicate n 0) ≡ true
zeros_are_zero zero = refl
zeros_are_zero (suc n) = zeros_are_zero n

-- the numbers of a head fit their fields
pub record FitsHead (head : PageHead) : Type 0 where
  pub number : head.number < 2 ^ 64
  pub index : head.index < 2 ^ 32

head_again : (head : PageHead) (count : ℕ) → FitsHead head → head_in (filled 64 (spare_bytes head count)) ≡ head
unfolding filled
head_again head count h = λ i. record { kind = head.kind; flags = head.flags; number = from_be_bytes-to_be_bytes_8 head.number h.number i; index = from_be_bytes-to_be_bytes_4 head.index h.index i }

count_again : (head : PageHead) (count : ℕ) → count < 2 ^ 16 → count_in (filled 64 (spare_bytes head count)) ≡ count
unfolding filled
count_again head count h = from_be_bytes-to_be_bytes_2 count h

kind_again : (head : PageHead) (count : ℕ) → FitsHead head → count < 2 ^ 16 → is_head head count ≡ true → is_of_kind head.kind (filled 64 (spare_bytes head count)) ≡ true
unfolding filled
kind_again head count h c ok =
    let same = eq-eqb head.kind head.kind refl in
    let fits : is_head (head_in (filled 64 (spare_bytes head count))) (count_in (filled 64 (spare_bytes head count))) ≡ true = (λ i. is_head (head_again head count h i) (count_again head count c i)) ∙ ok in
    rw (same, fits) refl

data_again : (entries : List Entry) → AllByRecursion FitsEntry entries → entries_at 0 (length entries) (filled 4096 (entries_bytes entries)) ≡ Ok (entries, replicate (4096 - length (entries_bytes entries)) 0)
unfolding filled
data_again entries each = entries_again 0 entries (replicate (4096 - length (entries_bytes entries)) 0) each

length-filled : (n : ℕ) (bytes : List ℕ) → length bytes ≤ n → length (filled n bytes) ≡ n
unfolding filled
length-filled n bytes h = omega (arith, length-append bytes (replicate (n - length bytes) 0), length-replicate {A = ℕ} (n - length bytes) 0)

abbrev is_read : PageHead → List Entry → Result (PageHead × List Entry) PageFault
is_read head entries = Ok (head, entries)

ok_is : (x y : PageHead × List Entry) → is_read x.0 x.1 ≡ is_read y.0 y.1 → x ≡ y
ok_is x y e = cc

-- an entry has more than one byte
few_entries : (entries : List Entry) → length entries ≤ length (entries_bytes entries)
few_entries [] = omega arith
few_entries (e ∷ entries) =
    let size : 3 ≤ length (entry_bytes e) = omega (arith, length-entry_bytes e, least e) in
    omega (arith, few_entries entries, ap length (flat_map-cons entry_bytes e entries), length-append (entry_bytes e) (entries_bytes entries))
  where
    least : (e : Entry) → 3 ≤ size_of e
    least (Put key value) = omega arith
    least (At key page n) = omega arith
    least (Gone key) = omega arith

-- the page of entries reads as these entries
pub page_again : (head : PageHead) (entries : List Entry) → FitsHead head → AllByRecursion FitsEntry entries → length (entries_bytes entries) ≤ 4096 → length entries < 2 ^ 16 → is_head head (length entries) ≡ true
    → page_at head.kind (page_of head entries) ≡ Ok (head, entries)
unfolding page_at page_bytes
page_again head entries fits each size few ok =
    let body = filled 4096 (entries_bytes entries) in
    let spare = filled 64 (spare_bytes head (length entries)) in
    let len : length body ≡ 4096 = length-filled 4096 (entries_bytes entries) size in
    let front : take 4096 (body ++ spare) ≡ body = take_at body spare 4096 len in
    let back : drop 4096 (body ++ spare) ≡ spare = drop_at body spare 4096 len in
    let kind : is_of_kind head.kind spare ≡ true = kind_again head (length entries) fits few ok in
    let count : count_in spare ≡ length entries = count_again head (length entries) few in
    let read : entries_at 0 (count_in spare) body ≡ Ok (entries, replicate (4096 - length (entries_bytes entries)) 0) = ap (λ n. entries_at 0 n body) count ∙ data_again entries each in
    (λ i. page_by head.kind (front i) (back i))
    ∙ rw (kind, read, zeros_are_zero (4096 - length (entries_bytes entries))) (ap (λ h. is_read h entries) (head_again head (length entries) fits))

-- what its spare bytes say
pub head_of_page : (head : PageHead) (entries : List Entry) → FitsHead head → length (entries_bytes entries) ≤ 4096 → head_in (drop 4096 (page_of head entries)) ≡ head
unfolding page_bytes
head_of_page head entries fits size =
    let body = filled 4096 (entries_bytes entries) in
    let spare = filled 64 (spare_bytes head (length entries)) in
    ap head_in (drop_at body spare 4096 (length-filled 4096 (entries_bytes entries) size)) ∙ head_again head (length entries) fits

-- its kind stands in its place
pub kind_of_page : (head : PageHead) (bytes : List ℕ) (count : ℕ) → length bytes ≤ 4096 → get_or (page_bytes head bytes count) 4096 0 ≡ head.kind
unfolding page_bytes filled
kind_of_page head bytes count size =
    let body = filled 4096 bytes in
    let len : length body ≡ 4096 = length-filled 4096 bytes size in
    get_or-append_right body (filled 64 (spare_bytes head count)) 4096 4096 0 len (omega arith) ∙ first
  where
    first : get_or (filled 64 (spare_bytes head count)) (4096 - 4096) 0 ≡ head.kind
    first = refl

-- whatever was answered for the page of these entries, it is they, unless memory ran out
pub reading_again : (kind : ℕ) (bytes : List ℕ) (result : Result PageEntries PageFault) (head : PageHead) (entries : List Entry) → PageGives (λ p. (p.head, p.entries)) result (page_at kind bytes) → IsPageOf kind head entries → bytes ≡ page_of head entries → IsReadAs head entries result
reading_again kind bytes result head entries gives page is = by result gives
  where
    few : length entries < 2 ^ 16
    few = omega (arith, few_entries entries, page.room)

    read : page_at kind bytes ≡ Ok (head, entries)
    read = (λ i. page_at (sym page.kind_is i) (is i)) ∙ page_again head entries (record { number = page.number; index = page.index }) page.fits page.room few page.form

    by : (r : Result PageEntries PageFault) → PageGives (λ p. (p.head, p.entries)) r (page_at kind bytes) → IsReadAs head entries r
    by (Ok p) h = let same : (p.head, p.entries) ≡ (head, entries) = ok_is (p.head, p.entries) (head, entries) (sym h ∙ read) in (ap (λ x. x.0) same, ap (λ x. x.1) same)
    by (Err page_faults.Memory) h = refl
    by (Err page_faults.NotThisKind) h = absurd (let e = sym h ∙ read in cc)
    by (Err page_faults.Short) h = absurd (let e = sym h ∙ read in cc)
    by (Err (page_faults.BadEntry n)) h = absurd (let e = sym h ∙ read in cc)
