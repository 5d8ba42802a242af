-- How many pages a group takes, what the packer answers, and where the place goes.
use Rattle.std.proofs.Common.{◌≡◌, ◌≢◌, ◌∙◌, ℕ, zero, suc, ◌+◌, ◌%◌, ◌<◌, ◌≤◌, ◌^◌, true, false, cond, ltb, eqb, List, [], ◌∷◌, ◌++◌, length, take, drop, get_or, refl, sym, ap, subst, arith, inl, inr, length-drop, drop-cons}
use Rattle.std.proofs.lemmas.List.{take_more, nil_from_length}
use Rattle.std.specs.List.{AllByRecursion}
use Rattle.std.proofs.lemmas.Bool.{cases_Bool, lt-ltb, le-ltb, eqb-true, eqb-false}
use Rattle.kssd_entry.specs.declared.entry.Entry.{Entry}
use Rattle.kssd_entry.specs.declared.entry.Entry.TheVariants.{Put, At, Gone}
use Rattle.kssd_entry.specs.declared.packer.Offer.{Offer}
use Rattle.kssd_entry.specs.declared.packer.Offer.TheVariants.{Taken, NoRoom}
use Rattle.kssd_entry.specs.Spelling.{entry_bytes, entries_bytes, size_of, FitsEntry}
use Rattle.kssd_entry.specs.Packing.{Packed, packed, with_entry, OfferIs}
use Rattle.kssd_entry.proofs.Filling.{length-entry_bytes}
use Rattle.kssd_model.proofs.GroupsPages.{few_entries}
use Rattle.kssd_log.specs.declared.place.Place.{Place}
use Rattle.kssd_log.specs.Ring.{IsInRing, room_of, paged, turns_due, turns_for, IsBehind}
use Rattle.kssd_log.specs.Append.{pages_more, pages_of}

-- ---- entries

size_bound : (e : Entry) → FitsEntry e → (4 ≤ size_of e) × (size_of e ≤ 396)
size_bound (Put key value) f = (omega arith, omega arith)
size_bound (At key page n) f = (omega arith, omega arith)
size_bound (Gone key) f = (omega arith, omega arith)

pub entry_bound : (e : Entry) → FitsEntry e → (4 ≤ length (entry_bytes e)) × (length (entry_bytes e) ≤ 396)
entry_bound e f = let b = size_bound e f in (omega (arith, length-entry_bytes e, b.0), omega (arith, length-entry_bytes e, b.1))

pub few_packed : (packer : Packed) (entries : List Entry) → packer ≡ packed entries → packer.count ≤ length packer.bytes
few_packed packer entries e = omega (arith, ap (λ p. p.count) e, ap (λ p. length p.bytes) e, few_entries entries)

some_in : (entries : List Entry) → 0 < length (entries_bytes entries) → 1 ≤ length entries
some_in [] h = absurd (omega arith)
some_in (e ∷ entries) h = omega arith

pub some_packed : (packer : Packed) (entries : List Entry) (e : Entry) → packer ≡ packed entries → FitsEntry e → 4096 < length packer.bytes + length (entry_bytes e) → 1 ≤ packer.count
some_packed packer entries e p f h =
    let bytes : length packer.bytes ≡ length (entries_bytes entries) = ap (λ q. length q.bytes) p in
    let some : 1 ≤ length entries = some_in entries (omega (arith, bytes, entry_bound e f)) in
    omega (arith, ap (λ q. q.count) p, some)

-- an empty packer takes an entry
pub empty_takes : (offer : Offer) (e : Entry) (new : Packed) → FitsEntry e → OfferIs (record { bytes = []; count = 0 }) e offer new → new ≡ with_entry (record { bytes = []; count = 0 }) e
empty_takes Taken e new f h = h.1
empty_takes NoRoom e new f h = absurd (omega (arith, h.0, entry_bound e f))

-- ---- pages

pub pages_same : (used : ℕ) (e : Entry) (es : List Entry) → used + length (entry_bytes e) ≤ 4096 → pages_more used (e ∷ es) ≡ pages_more (used + length (entry_bytes e)) es
unfolding pages_more
pages_same used e es h = let low : ltb 4096 (used + size_of e) ≡ false = le-ltb _ _ (omega (arith, length-entry_bytes e)) in rw (low, length-entry_bytes e) refl

pub pages_next : (used : ℕ) (e : Entry) (es : List Entry) → 4096 < used + length (entry_bytes e) → pages_more used (e ∷ es) ≡ suc (pages_more (length (entry_bytes e)) es)
unfolding pages_more
pages_next used e es h = let high : ltb 4096 (used + size_of e) ≡ true = lt-ltb _ _ (omega (arith, length-entry_bytes e)) in rw (high, length-entry_bytes e) refl

pub no_pages : (used : ℕ) → pages_more used [] ≡ 0
unfolding pages_more
no_pages used = refl

pub pages_done : (used : ℕ) (entries : List Entry) (i : ℕ) → length entries ≤ i → pages_more used (drop i entries) ≡ 0
pages_done used entries i h = ap (pages_more used) (nil_from_length (drop i entries) (omega (arith, length-drop i entries))) ∙ no_pages used

-- the first page of a group is begun by its first entry
pub pages_begin : (entries : List Entry) → 0 < length entries → AllByRecursion FitsEntry (take 1 entries) → pages_of entries ≡ pages_more 0 entries + 1
pages_begin [] some f = absurd (omega arith)
pages_begin (e ∷ es) some f =
    let b = entry_bound e f.0 in
    let first = pages_next 4096 e es (omega (arith, b)) in
    let same = pages_same 0 e es (omega (arith, b)) in
    let size : 0 + length (entry_bytes e) ≡ length (entry_bytes e) = omega arith in
    omega (arith, first, same, ap (λ n. pages_more n es) size)

pub pages_few : (used : ℕ) (entries : List Entry) → pages_more used entries ≤ length entries
unfolding pages_more
pages_few used [] = omega arith
pages_few used (e ∷ es) =
    let next = pages_few (size_of e) es in
    let same = pages_few (used + size_of e) es in
    elim (ltb 4096 (used + size_of e)) as (λ b. cond b (suc (pages_more (size_of e) es)) (pages_more (used + size_of e) es) ≤ length (e ∷ es)) [ true ↦ omega arith | false ↦ omega arith ]

-- ---- the steps of the loop over the entries

suc_is : (i : ℕ) → suc i ≡ i + 1
suc_is i = omega arith

-- an entry that is taken
pub record IsStep (entries : List Entry) (i : ℕ) (e : Entry) : Type 0 where
  pub taken : take (i + 1) entries ≡ take i entries ++ e ∷ []
  pub left : drop i entries ≡ e ∷ drop (i + 1) entries
  pub fits : FitsEntry e

pub step_is : (entries : List Entry) (i : ℕ) (e : Entry) → FitsEntry e → i < length entries → e ≡ get_or entries i e → IsStep entries i e
step_is entries i e f h is = record {
  taken = take_more entries i e h ∙ ap (λ (x : Entry). take i entries ++ x ∷ []) (sym is);
  left = drop-cons entries i e h ∙ (λ j. sym is j ∷ drop (suc_is i j) entries);
  fits = f;
}

-- ---- the place

pub behind_then : (a b c : Place) (pages turns more_pages more_turns : ℕ) → IsBehind a pages turns b → IsBehind b more_pages more_turns c → IsBehind a (pages + more_pages) (turns + more_turns) c
behind_then a b c pages turns more_pages more_turns ab bc = record { room = omega (arith, ab.room, bc.room); blocks = omega (arith, ab.blocks, bc.blocks); number = omega (arith, ab.number, bc.number) }

pub behind_still : (a : Place) → IsBehind a 0 0 a
behind_still a = record { room = omega arith; blocks = omega arith; number = omega arith }

pub paged_behind : (at : Place) → at.page % 32 < 31 → 0 < room_of at → IsBehind at 1 0 (paged at)
paged_behind at inner some = record { room = omega arith; blocks = omega arith; number = omega arith }

pub paged_ring : (at : Place) → at.page % 32 < 31 → IsInRing at → IsInRing (paged at)
paged_ring at inner ring = record { page = record { low = omega (arith, ring.page.low); high = omega (arith, ring.page.high) }; few = ring.few }

-- a turn that is due counts among those for the whole group
pub turns_fit : (place at : Place) (pages moved total : ℕ) → IsBehind place pages moved at → pages + 1 ≤ total → 0 < room_of at → moved + turns_due at ≤ turns_for place total
turns_fit place at pages moved total b less some =
    elim (cases_Bool (eqb (at.page % 32) 31)) [
      | inl e ↦ let last : at.page % 32 ≡ 31 = eqb-true _ _ e in rw e (omega (arith, b.room, b.blocks))
      | inr e ↦ let other : at.page % 32 ≢ 31 = eqb-false _ _ e in rw e (omega (arith, b.room, b.blocks))
    ]

-- the turns before the last page are all of them
pub turns_are : (place at : Place) (pages moved : ℕ) → IsBehind place pages moved at → at.page % 32 < 31 → 0 < room_of at → moved ≡ turns_for place (pages + 1)
turns_are place at pages moved b inner some = omega (arith, b.room, b.blocks)

-- numbers stay within their 64 bits
pub number_fits : (place at : Place) (pages moved : ℕ) → IsInRing place → place.seq < 2 ^ 63 → IsBehind place pages moved at → at.seq + 2 < 2 ^ 64
number_fits place at pages moved ring few b = omega (arith, ring.few, b.room, b.blocks, b.number)

-- ---- the room over the steps

pub room_same : (entries : List Entry) (i : ℕ) (e : Entry) (used before sum : ℕ) → IsStep entries i e → used + length (entry_bytes e) ≤ 4096 → pages_more used (drop i entries) + before ≡ sum → pages_more (used + length (entry_bytes e)) (drop (i + 1) entries) + before ≡ sum
room_same entries i e used before sum s h r = ap (λ n. n + before) (sym (ap (pages_more used) s.left ∙ pages_same used e (drop (i + 1) entries) h)) ∙ r

pub room_next : (entries : List Entry) (i : ℕ) (e : Entry) (used before total room after : ℕ) → IsStep entries i e → 4096 < used + length (entry_bytes e) → after + 1 ≡ room → pages_more used (drop i entries) + before ≡ total + room → pages_more (length (entry_bytes e)) (drop (i + 1) entries) + before ≡ total + after
room_next entries i e used before total room after s h one r =
    let more : pages_more used (drop i entries) ≡ suc (pages_more (length (entry_bytes e)) (drop (i + 1) entries)) = ap (pages_more used) s.left ∙ pages_next used e (drop (i + 1) entries) h in
    omega (arith, more, r)

pub first_fits : (entries : List Entry) (i : ℕ) (e : Entry) → IsStep entries i e → i < length entries → (0 < i → AllByRecursion FitsEntry (take 1 entries)) → AllByRecursion FitsEntry (take 1 entries)
first_fits entries zero e s lt before = subst (AllByRecursion FitsEntry) (sym (s.taken)) (s.fits, tt)
first_fits entries (suc i) e s lt before = before (omega arith)

-- there is room for the page that is open, and it is one of the whole group's
pub room_left : (used pages before room : ℕ) (entries : List Entry) (i : ℕ) → pages_of entries ≡ pages_more 0 entries + 1 → pages_of entries ≤ before → room + pages ≡ before
    → pages_more used (drop i entries) + before ≡ pages_more 0 entries + room → (0 < room) × (pages + 1 ≤ pages_of entries)
room_left used pages before room entries i all fits behind r = (omega (arith, all, fits, r, behind), omega (arith, all, fits, r, behind))

-- the last page is the last of the group's
pub last_is : (used pages before room : ℕ) (entries : List Entry) (i : ℕ) → pages_of entries ≡ pages_more 0 entries + 1 → length entries ≤ i → room + pages ≡ before
    → pages_more used (drop i entries) + before ≡ pages_more 0 entries + room → pages + 1 ≡ pages_of entries
last_is used pages before room entries i all done behind r = omega (arith, all, r, behind, pages_done used entries i done)
