-- The entry of a key is found while entries are read one after the other.
use Rattle.std.proofs.Common.{◌≡◌, ℕ, suc, ◌-◌, ◌+◌, ◌≤◌, ◌<◌, Bool, true, false, cond, not, List, [], ◌∷◌, ◌++◌, append_assoc, take, drop, Option, None, Some, Result, Ok, Err, refl, sym, ap, ◌∙◌, arith}
use Rattle.std.specs.Prelude.{IfOk, is_ok}
use Rattle.std.proofs.lemmas.Bool.{false≢true}
use Rattle.std.proofs.lemmas.List.{append-nil}
use Rattle.kv_base.specs.declared.fault.Memory.{Memory}
use Rattle.kssd_entry.specs.declared.entry.Entry.{Entry}
use Rattle.kssd_entry.specs.declared.fault.EntryFault.{EntryFault}
use Rattle.kssd_entry.specs.declared.fault.PageFault.{PageFault}
use Rattle.kssd_entry.specs.declared.fault.PageFault.TheVariants as page_faults
use Rattle.kssd_entry.specs.declared.packer.PageHead.{PageHead}
use Rattle.kssd_entry.specs.Borrowed.{is_of_key, is_key_below, keys_from}
use Rattle.kssd_entry.specs.Reading.{◌>>=◌, entry_at, entries_at, numbered, all_zero, head_in, count_in, is_of_kind, page_at}
use Rattle.kssd_entry.specs.Finding.{found_among, rest_among}
use Rattle.kssd_entry.proofs.Spelled.{ok_is, when_ok}

abbrev Read : Type 0
Read = Result (List Entry × List ℕ) PageFault

-- so many entries by the first of them
abbrev read_by : ℕ → ℕ → Result (Entry × List ℕ) EntryFault → Read
read_by i n r = numbered i r >>= λ first. entries_at (i + 1) n first.1 >>= λ others. Ok (first.0 ∷ others.0, others.1)

-- where more entries read, the first does
pub first_reads : (i count : ℕ) (bytes : List ℕ) → i < count → is_ok (entries_at i (count - i) bytes) ≡ true → is_ok (entry_at bytes) ≡ true
unfolding entries_at
first_reads i count bytes lt ok =
    let k : count - i ≡ suc (count - (i + 1)) = omega arith in
    by (entry_at bytes) (ap (λ (n : ℕ). is_ok (entries_at i n bytes)) (sym k) ∙ ok)
  where
    by : (r : Result (Entry × List ℕ) EntryFault) → is_ok (read_by i (count - (i + 1)) r) ≡ true → is_ok r ≡ true
    by (Ok x) h = refl
    by (Err e) h = h

abbrev put_before : Entry → Read → Read
put_before e others = others >>= λ x. Ok (e ∷ x.0, x.1)

-- the others read too, and the entry is the first or among them
first_or_later : (key : List ℕ) (e : Entry) (others all : Read) → all ≡ put_before e others → is_ok all ≡ true → (is_ok others ≡ true) × (found_among key all ≡ cond (is_of_key key e) (Some e) (found_among key others))
first_or_later key e (Ok x) all is ok = (refl, ap (found_among key) is)
first_or_later key e (Err f) all is ok = absurd (false≢true (sym (ap is_ok is) ∙ ok))

by_first : (count i : ℕ) (bytes after : List ℕ) (e : Entry) → i < count → entry_at bytes ≡ Ok (e, after) → entries_at i (count - i) bytes ≡ put_before e (entries_at (i + 1) (count - (i + 1)) after)
unfolding entries_at
by_first count i bytes after e lt h =
    let k : count - i ≡ suc (count - (i + 1)) = omega arith in
    rw (k, h) refl

steps : (key : List ℕ) (count i : ℕ) (bytes after : List ℕ) (e : Entry) → i < count → entry_at bytes ≡ Ok (e, after) → is_ok (entries_at i (count - i) bytes) ≡ true
    → (is_ok (entries_at (i + 1) (count - (i + 1)) after) ≡ true) × (found_among key (entries_at i (count - i) bytes) ≡ cond (is_of_key key e) (Some e) (found_among key (entries_at (i + 1) (count - (i + 1)) after)))
steps key count i bytes after e lt h ok = first_or_later key e (entries_at (i + 1) (count - (i + 1)) after) (entries_at i (count - i) bytes) (by_first count i bytes after e lt h) ok

pub is_found : (key : List ℕ) (count i : ℕ) (bytes after : List ℕ) (e : Entry) (total : Option Entry) → i < count → entry_at bytes ≡ Ok (e, after) → is_of_key key e ≡ true → is_ok (entries_at i (count - i) bytes) ≡ true
    → found_among key (entries_at i (count - i) bytes) ≡ total → Some e ≡ total
is_found key count i bytes after e total lt h has ok so_far =
    let later = found_among key (entries_at (i + 1) (count - (i + 1)) after) in
    sym (ap (λ (b : Bool). cond b (Some e) later) has) ∙ sym (steps key count i bytes after e lt h ok).1 ∙ so_far

pub goes_by : (key : List ℕ) (count i : ℕ) (bytes after : List ℕ) (e : Entry) (total : Option Entry) → i < count → entry_at bytes ≡ Ok (e, after) → is_of_key key e ≡ false → is_ok (entries_at i (count - i) bytes) ≡ true
    → found_among key (entries_at i (count - i) bytes) ≡ total → (is_ok (entries_at (i + 1) (count - (i + 1)) after) ≡ true) × (found_among key (entries_at (i + 1) (count - (i + 1)) after) ≡ total)
goes_by key count i bytes after e total lt h has ok so_far =
    let both = steps key count i bytes after e lt h ok in
    let later = found_among key (entries_at (i + 1) (count - (i + 1)) after) in
    (both.0, sym (ap (λ (b : Bool). cond b (Some e) later) has) ∙ sym both.1 ∙ so_far)

pub is_none : (key : List ℕ) (count i : ℕ) (bytes : List ℕ) (total : Option Entry) → count ≤ i → found_among key (entries_at i (count - i) bytes) ≡ total → None ≡ total
unfolding entries_at
is_none key count i bytes total le so_far =
    let k : count - i ≡ 0 = omega arith in
    ap (λ (n : ℕ). found_among key (entries_at i n bytes)) (sym k) ∙ so_far

-- ---- the entries from a key on

put_kept : (b : Bool) (e : Entry) (others : List Entry) → cond b (e ∷ others) others ≡ cond b (e ∷ []) [] ++ others
put_kept true e others = refl
put_kept false e others = refl

first_and_rest : (key : List ℕ) (e : Entry) (others all : Read) → all ≡ put_before e others → is_ok all ≡ true → (is_ok others ≡ true) × (rest_among key all ≡ keys_from key (e ∷ []) ++ rest_among key others)
first_and_rest key e (Ok x) all is ok = (refl, ap (rest_among key) is ∙ put_kept (not (is_key_below key e)) e (keys_from key x.0))
first_and_rest key e (Err f) all is ok = absurd (false≢true (sym (ap is_ok is) ∙ ok))

pub goes_on_from : (key : List ℕ) (count i : ℕ) (bytes after : List ℕ) (e : Entry) (front total : List Entry) → i < count → entry_at bytes ≡ Ok (e, after) → is_ok (entries_at i (count - i) bytes) ≡ true
    → front ++ rest_among key (entries_at i (count - i) bytes) ≡ total → (is_ok (entries_at (i + 1) (count - (i + 1)) after) ≡ true) × ((front ++ keys_from key (e ∷ [])) ++ rest_among key (entries_at (i + 1) (count - (i + 1)) after) ≡ total)
goes_on_from key count i bytes after e front total lt h ok so_far =
    let later = entries_at (i + 1) (count - (i + 1)) after in
    let both = first_and_rest key e later (entries_at i (count - i) bytes) (by_first count i bytes after e lt h) ok in
    (both.0, append_assoc front (keys_from key (e ∷ [])) (rest_among key later) ∙ ap (λ (es : List Entry). front ++ es) (sym both.1) ∙ so_far)

pub none_left : (key : List ℕ) (count i : ℕ) (bytes : List ℕ) (front total : List Entry) → count ≤ i → front ++ rest_among key (entries_at i (count - i) bytes) ≡ total → front ≡ total
unfolding entries_at
none_left key count i bytes front total le so_far =
    let k : count - i ≡ 0 = omega arith in
    sym (append-nil front) ∙ ap (λ (n : ℕ). front ++ rest_among key (entries_at i n bytes)) (sym k) ∙ so_far

-- ---- the page

abbrev page_read : Bool → ℕ → PageHead → Read → Result (PageHead × List Entry) PageFault
page_read is_kind count head read = cond (not is_kind) (Err page_faults.NotThisKind) (read >>= λ x. cond (all_zero x.1) (Ok (head, x.0)) (Err (page_faults.BadEntry count)))

-- where a page reads, its entries do
pub entries_read : (bytes : List ℕ) → is_ok (page_at 3 bytes) ≡ true → is_ok (entries_at 0 (count_in (drop 4096 bytes)) (take 4096 bytes)) ≡ true
unfolding page_at
entries_read bytes ok = by (is_of_kind 3 (drop 4096 bytes)) (entries_at 0 (count_in (drop 4096 bytes)) (take 4096 bytes)) ok
  where
    by : (is_kind : Bool) (read : Read) → is_ok (page_read is_kind (count_in (drop 4096 bytes)) (head_in (drop 4096 bytes)) read) ≡ true → is_ok read ≡ true
    by false read h = absurd (false≢true h)
    by true (Ok x) h = refl
    by true (Err f) h = h

-- and they are those of the page
entries_of_page : (bytes : List ℕ) (head : PageHead) (entries : List Entry) → page_at 3 bytes ≡ Ok (head, entries) → (rest : List ℕ) × (entries_at 0 (count_in (drop 4096 bytes)) (take 4096 bytes) ≡ Ok (entries, rest))
unfolding page_at
entries_of_page bytes head entries is = by (is_of_kind 3 (drop 4096 bytes)) (entries_at 0 (count_in (drop 4096 bytes)) (take 4096 bytes)) is
  where
    by : (is_kind : Bool) (read : Read) → page_read is_kind (count_in (drop 4096 bytes)) (head_in (drop 4096 bytes)) read ≡ Ok (head, entries) → (rest : List ℕ) × (read ≡ Ok (entries, rest))
    by false read h = absurd cc
    by true (Err f) h = absurd cc
    by true (Ok x) h =
        let z = when_ok (all_zero x.1) (page_faults.BadEntry (count_in (drop 4096 bytes))) (Ok (head_in (drop 4096 bytes), x.0)) (head, entries) h in
        let same : (head_in (drop 4096 bytes), x.0) ≡ (head, entries) = ok_is {E = PageFault} _ _ z.1 in
        (x.1, ap (λ (p : PageHead × List Entry). Ok (p.1, x.1)) same)

-- what was made of the entries that were read was made of those of the page
pub made_of_page : {A : Type 0} (bytes : List ℕ) (among : Read → A) (of : List Entry → A) → ((entries : List Entry) (rest : List ℕ) → among (Ok (entries, rest)) ≡ of entries) → (result : Result A Memory) → IfOk result (λ made. made ≡ among (entries_at 0 (count_in (drop 4096 bytes)) (take 4096 bytes)))
    → IfOk result (λ made. (head : PageHead) (entries : List Entry) → page_at 3 bytes ≡ Ok (head, entries) → made ≡ of entries)
made_of_page bytes among of same (Ok made) h = λ head entries is. let page = entries_of_page bytes head entries is in h ∙ ap among page.1 ∙ same entries page.0
made_of_page bytes among of same (Err memory) h = tt
