-- A group that is written page by page.
use Rattle.std.proofs.Common.{◌≡◌, ◌≢◌, ◌⊎◌, ◌∙◌, ℕ, ◌+◌, ◌*◌, ◌%◌, ◌<◌, ◌≤◌, ◌^◌, true, List, [], ◌∷◌, ◌++◌, length, refl, sym, ap, subst, append_assoc, arith, inl, inr, length-append}
use Rattle.std.specs.List.{AllByRecursion}
use Rattle.std.proofs.lemmas.Bool.{cases_eq, eq-eqb, ne_eqb, le-leb}
use Rattle.std.proofs.lemmas.List.{append-nil}
use Rattle.std.proofs.lemmas.List.Concat.{flat_map-append, flat_map-cons}
use Rattle.kv_nand.specs.Flash.{Flash, Image, IsSound, Erased, Whole, Cut, LeftByProgram}
use Rattle.kv_nand.specs.Calls.{programmed}
use Rattle.kv_nand.specs.declared.fault.FlashFault.{FlashFault}
use Rattle.kv_nand.specs.Working.{Works, Stops, ops_more}
use Rattle.kv_nand.proofs.Chaining.{ops_then_ops, works_then_works, works_then_stops, works_still, works_within, stops_within}
use Rattle.kssd_entry.specs.declared.entry.Entry.{Entry}
use Rattle.kssd_entry.specs.Spelling.{entry_bytes, entries_bytes, page_bytes, page_of, FitsEntry, IsPageOf, is_head}
use Rattle.kssd_entry.specs.Packing.{Packed, packed, with_entry}
use Rattle.kssd_model.specs.Groups.{LogPage, next_place, log_head, turn_count, groups_from, rest_from, HasLog}
use Rattle.kssd_model.proofs.GroupsPaths.{log_stays, log_grows}
use Rattle.kssd_model.proofs.GroupsPages.{spelled_seen}
use Rattle.kssd_log.specs.declared.place.Place.{Place}
use Rattle.kssd_log.specs.Ring.{IsInRing, paged, room_of, turns_due, turns_for, IsBehind}
use Rattle.kssd_log.specs.Append.{IsLogPlace, HasGroups, Carries, Appends, KeepsGroups, MayAppend, StaysOutside, IsUnderWay}
use Rattle.kssd_log.proofs.Counting.{some_packed, behind_then, behind_still, paged_behind, turns_fit, turns_are, number_fits}

-- ---- one page

-- behind a page of a group, in its block
pub place_after : (old new : Flash) (at : Place) (bytes : List ℕ) → IsLogPlace old at → new ≡ programmed old at.page bytes → at.page % 32 < 31 → IsLogPlace new (paged at)
place_after old new at bytes place e inner = record {
  free = record {
    here = other (at.page + 1) (λ e. absurd (omega arith)) ∙ place.free.later (at.page + 1) (omega arith) (omega arith);
    earlier = λ q same lt. elim (cases_eq q at.page) [
      | inl here ↦ λ erased. whole_isn't_erased bytes (sym whole ∙ ap new.image (sym here) ∙ erased)
      | inr ne ↦ λ erased. place.free.earlier q (omega arith) (omega arith) (sym (other q ne) ∙ erased)
    ];
    later = λ q same lt. other q (λ e. absurd (omega arith)) ∙ place.free.later q (omega arith) (omega arith);
  };
  blocks = rw (ap (λ f. f.blocks) e) place.blocks;
}
  where
    other : (q : ℕ) → q ≢ at.page → new.image q ≡ old.image q
    other q ne = ap (λ f. f.image q) e ∙ rw (ne_eqb q at.page ne) refl

    whole : new.image at.page ≡ Whole bytes
    whole = ap (λ f. f.image at.page) e ∙ rw (eq-eqb at.page at.page refl) refl

    whole_isn't_erased : (b : List ℕ) → Whole b ≡ Erased → ⊥
    whole_isn't_erased b h = cc

-- exactly so many operations were begun, and nothing else changed
abbrev pub Begins : Flash → Flash → ℕ → Type 0
Begins old new n = Works old new n 0 × (new.ops ≡ ops_more old n)

begins_then : (a b c : Flash) (first more : ℕ) → Begins a b first → Begins b c more → Begins a c (first + more)
begins_then a b c first more ab bc = (works_then_works a b c first 0 more 0 ab.0 bc.0, ops_then_ops a b c first more ab.1 bc.1)

-- ---- entries in the packer

pub under_way_begins : (old : Flash) (place : Place) → IsSound old → IsLogPlace old place → IsUnderWay old place old place (record { bytes = []; count = 0 }) []
under_way_begins old place sound at = record {
  done = [];
  open_ = [];
  pages = 0;
  moved = 0;
  all = refl;
  packed_is = refl;
  fits = tt;
  log = λ page number turns groups of few log. subst (λ (t : ℕ). HasLog old.image page number groups [] t place.page place.seq) (let e : turns ≡ turns + 0 = omega arith in e) log;
  outside = λ q out. refl;
  place_is = at;
  behind = behind_still place;
  works = works_still old;
  exact = omega (arith, sound.ops);
}

packed_more : (entries : List Entry) (e : Entry) → with_entry (packed entries) e ≡ packed (entries ++ e ∷ [])
packed_more entries e = λ i. record { bytes = bytes i; count = count i }
  where
    bytes : entries_bytes entries ++ entry_bytes e ≡ entries_bytes (entries ++ e ∷ [])
    bytes = sym (flat_map-append entry_bytes entries (e ∷ []) ∙ ap (λ (x : List ℕ). entries_bytes entries ++ x) (flat_map-cons entry_bytes e [] ∙ append-nil (entry_bytes e)))

    count : length entries + 1 ≡ length (entries ++ e ∷ [])
    count = omega (arith, length-append entries (e ∷ []))

fits_more : (entries : List Entry) (e : Entry) → AllByRecursion FitsEntry entries → FitsEntry e → AllByRecursion FitsEntry (entries ++ e ∷ [])
fits_more [] e h f = (f, tt)
fits_more (x ∷ entries) e h f = (h.0, fits_more entries e h.1 f)

pub under_way_takes : (old : Flash) (place : Place) (now : Flash) (at : Place) (packer next : Packed) (taken : List Entry) (e : Entry)
    → IsUnderWay old place now at packer taken → FitsEntry e → next ≡ with_entry packer e → IsUnderWay old place now at next (taken ++ e ∷ [])
under_way_takes old place now at packer next taken e w f n = record {
  done = w.done;
  open_ = w.open_ ++ e ∷ [];
  pages = w.pages;
  moved = w.moved;
  all = sym (append_assoc w.done w.open_ (e ∷ [])) ∙ ap (λ (xs : List Entry). xs ++ e ∷ []) w.all;
  packed_is = n ∙ ap (λ p. with_entry p e) w.packed_is ∙ packed_more w.open_ e;
  fits = fits_more w.open_ e w.fits f;
  log = w.log;
  outside = w.outside;
  place_is = w.place_is;
  behind = w.behind;
  works = w.works;
  exact = w.exact;
}

-- ---- a page of it is programmed

-- a page of a group
abbrev pub page_is : ℕ → List Entry → LogPage
page_is flags entries = record { flags = flags; entries = entries }

head_is : (flags number count : ℕ) → flags ≤ 1 → 1 ≤ count → is_head (log_head flags number) count ≡ true
unfolding is_head
head_is flags number count low some = rw (le-leb _ _ low, le-leb _ _ some) refl

-- where the page is whole, the log has it
log_with_page : (now : Flash) (new : Image) (at : Place) (flags page number turns : ℕ) (groups : List (List Entry)) (done open_ : List Entry)
    → IsLogPlace now at → at.page % 32 < 31 → flags ≤ 1 → IsPageOf 2 (log_head flags at.seq) open_ → LeftByProgram now.image at.page (page_of (log_head flags at.seq) open_) new
    → new at.page ≡ Whole (page_of (log_head flags at.seq) open_)
    → HasLog now.image page number groups done turns at.page at.seq
    → HasLog new page number (groups ++ groups_from done (page_is flags open_ ∷ [])) (rest_from done (page_is flags open_ ∷ [])) turns (at.page + 1) (at.seq + 1)
log_with_page now new at flags page number turns groups done open_ place inner low form left whole log =
    let next_is : next_place at.page (page_is flags open_) ≡ at.page + 1 = rw (ne_eqb flags 2 (λ e. absurd (omega arith))) refl in
    let after : new (at.page + 1) ≡ Erased = left.elsewhere (at.page + 1) (λ e. absurd (omega arith)) ∙ place.free.later (at.page + 1) (omega arith) (omega arith) in
    let holds = spelled_seen at.page at.seq (page_is flags open_) form (λ e. absurd (omega arith)) in
    let grown = log_grows now.image new (page_of (log_head flags at.seq) open_) page number groups done turns at.page at.seq (page_is flags open_) left place.free.here whole holds (record { bytes = whole; form = form; turns = λ e. absurd (omega arith) }) (ap new next_is ∙ after) log in
    let same : turns + turn_count (page_is flags open_ ∷ []) ≡ turns = rw (ne_eqb flags 2 (λ e. absurd (omega arith))) (omega arith) in
    subst (λ (p : ℕ × ℕ). HasLog new page number (groups ++ groups_from done (page_is flags open_ ∷ [])) (rest_from done (page_is flags open_ ∷ [])) p.0 p.1 (at.seq + 1)) (λ i. (same i, next_is i)) grown

-- whatever the answer, the groups are as before, or as with the page
groups_left : (now : Flash) (new : Image) (at : Place) (flags page number turns most_turns most_next : ℕ) (groups : List (List Entry)) (done open_ : List Entry)
    → IsLogPlace now at → at.page % 32 < 31 → flags ≤ 1 → IsPageOf 2 (log_head flags at.seq) open_ → LeftByProgram now.image at.page (page_of (log_head flags at.seq) open_) new
    → turns ≤ most_turns → at.seq + 1 ≤ most_next
    → HasLog now.image page number groups done turns at.page at.seq
    → HasGroups new page number groups done most_turns most_next ⊎ HasGroups new page number (groups ++ groups_from done (page_is flags open_ ∷ [])) (rest_from done (page_is flags open_ ∷ [])) most_turns most_next
groups_left now new at flags page number turns most_turns most_next groups done open_ place inner low form left few fits log =
    elim left.here [
      | inl erased ↦ inl (stays (inl erased))
      | inr rest ↦ elim rest [
        | inl cut ↦ inl (stays (inr cut))
        | inr whole ↦ inr (record { turns = turns; end = _; next = _; log = log_with_page now new at flags page number turns groups done open_ place inner low form left whole log; few_turns = few; next_fits = fits })
      ]
    ]
  where
    stays : (new at.page ≡ Erased) ⊎ (new at.page ≡ Cut) → HasGroups new page number groups done most_turns most_next
    stays state = record { turns = turns; end = at.page; next = at.seq; log = log_stays now.image new (page_of (log_head flags at.seq) open_) page number groups done turns at.page at.seq left place.free.here state log; few_turns = few; next_fits = omega arith }

packed_page : (flags number : ℕ) (packer : Packed) (open_ : List Entry) → packer ≡ packed open_ → page_bytes (log_head flags number) packer.bytes packer.count ≡ page_of (log_head flags number) open_
packed_page flags number packer open_ e = ap (λ p. page_bytes (log_head flags number) p.bytes p.count) e

-- what a program of the packer's page leaves, at its place in the whole call
pub record IsPut (flags : ℕ) (old : Flash) (place : Place) (now new : Flash) (at : Place) (packer : Packed) (total : ℕ) : Type 0 where
  pub left : LeftByProgram now.image at.page (page_bytes (log_head flags at.seq) packer.bytes packer.count) new.image
  pub inner : at.page % 32 < 31
  pub low : flags ≤ 1
  pub size : length packer.bytes ≤ 4096
  pub some : 1 ≤ packer.count
  pub ring : IsInRing place
  pub at_ring : IsInRing at
  pub number : place.seq < 2 ^ 63
  pub room : 0 < room_of at

-- what the packer holds makes a page of the group
group_page : (old : Flash) (place : Place) (now new : Flash) (at : Place) (packer : Packed) (taken : List Entry) (flags total : ℕ)
    → (w : IsUnderWay old place now at packer taken) → IsPut flags old place now new at packer total → IsPageOf 2 (log_head flags at.seq) w.open_
group_page old place now new at packer taken flags total w p =
    let count : packer.count ≡ length w.open_ = ap (λ p. p.count) w.packed_is in
    let bytes : length packer.bytes ≡ length (entries_bytes w.open_) = ap (λ p. length p.bytes) w.packed_is in
    let fits = number_fits place at w.pages w.moved p.ring p.number w.behind in
    record {
      kind_is = refl;
      form = head_is flags at.seq (length w.open_) p.low (omega (arith, count, p.some));
      number = omega (arith, fits);
      index = omega arith;
      fits = w.fits;
      room = omega (arith, bytes, p.size);
    }

left_page : (old : Flash) (place : Place) (now new : Flash) (at : Place) (packer : Packed) (taken : List Entry) (flags total : ℕ)
    → (w : IsUnderWay old place now at packer taken) → IsPut flags old place now new at packer total → LeftByProgram now.image at.page (page_of (log_head flags at.seq) w.open_) new.image
left_page old place now new at packer taken flags total w p = subst (λ (bytes : List ℕ). LeftByProgram now.image at.page bytes new.image) (packed_page flags at.seq packer w.open_ w.packed_is) p.left

pub outside_left : (old : Flash) (place : Place) (now new : Flash) (at : Place) (packer : Packed) (taken : List Entry) (flags total : ℕ)
    → IsUnderWay old place now at packer taken → IsPut flags old place now new at packer total → StaysOutside old.image new.image
outside_left old place now new at packer taken flags total w p q out =
    p.left.elsewhere q (λ e. elim out [ inl l ↦ absurd (omega (arith, p.at_ring.page.low)) | inr l ↦ absurd (omega (arith, p.at_ring.page.high)) ]) ∙ w.outside q out

-- the turns so far are at most those of the whole group
fewer : (place at : Place) (pages moved total : ℕ) → IsBehind place pages moved at → pages + 1 ≤ total → 0 < room_of at → moved ≤ turns_for place total
fewer place at pages moved total b less some = omega (arith, turns_fit place at pages moved total b less some)

-- a page in the middle of the group, whatever the answer
pub middle_left : (old : Flash) (place : Place) (now new : Flash) (at : Place) (packer : Packed) (taken others entries : List Entry) (total : ℕ)
    → (w : IsUnderWay old place now at packer taken) → IsPut 0 old place now new at packer total → taken ++ others ≡ entries → w.pages + 1 ≤ total
    → MayAppend (turns_for place total) total old.image place entries new.image
middle_left old place now new at packer taken others entries total w p all less page number turns groups of few log =
    let form = group_page old place now new at packer taken 0 total w p in
    let moved = fewer place at w.pages w.moved total w.behind less p.room in
    let was = w.log page number turns groups of (omega arith) log in
    elim (groups_left now new.image at 0 page number (turns + w.moved) (turns + turns_for place total) (place.seq + total + turns_for place total) groups w.done w.open_ w.place_is p.inner p.low form (left_page old place now new at packer taken 0 total w p) (omega arith) (omega (arith, w.behind.number)) was) [
      | inl h ↦ inl (record { first = w.done; others = w.open_ ++ others; all = sym (append_assoc w.done w.open_ others) ∙ ap (λ (xs : List Entry). xs ++ others) w.all ∙ all; has = h })
      | inr h ↦ inl (record { first = w.done ++ w.open_; others = others; all = ap (λ (xs : List Entry). xs ++ others) w.all ∙ all; has = subst (λ (gs : List (List Entry)). HasGroups new.image page number gs (w.done ++ w.open_) (turns + turns_for place total) (place.seq + total + turns_for place total)) (append-nil groups) h })
    ]

-- its last page, whatever the answer
pub last_left : (old : Flash) (place : Place) (now new : Flash) (at : Place) (packer : Packed) (entries : List Entry) (total : ℕ)
    → (w : IsUnderWay old place now at packer entries) → IsPut 1 old place now new at packer total → w.pages + 1 ≤ total
    → MayAppend (turns_for place total) total old.image place entries new.image
last_left old place now new at packer entries total w p less page number turns groups of few log =
    let form = group_page old place now new at packer entries 1 total w p in
    let moved = fewer place at w.pages w.moved total w.behind less p.room in
    let was = w.log page number turns groups of (omega arith) log in
    elim (groups_left now new.image at 1 page number (turns + w.moved) (turns + turns_for place total) (place.seq + total + turns_for place total) groups w.done w.open_ w.place_is p.inner p.low form (left_page old place now new at packer entries 1 total w p) (omega arith) (omega (arith, w.behind.number)) was) [
      | inl h ↦ inl (record { first = w.done; others = w.open_; all = w.all; has = h })
      | inr h ↦ inr (subst (λ (group : List Entry). HasGroups new.image page number (groups ++ group ∷ []) [] (turns + turns_for place total) (place.seq + total + turns_for place total)) w.all h)
    ]

whole_page : (now new : Flash) (at : Place) (bytes : List ℕ) → new ≡ programmed now at.page bytes → new.image at.page ≡ Whole bytes
whole_page now new at bytes e = ap (λ f. f.image at.page) e ∙ rw (eq-eqb at.page at.page refl) refl

-- its last page is programmed
pub last_done : (old : Flash) (place : Place) (now new : Flash) (at : Place) (packer : Packed) (entries : List Entry) (total : ℕ)
    → (w : IsUnderWay old place now at packer entries) → IsPut 1 old place now new at packer total → w.pages + 1 ≡ total → new ≡ programmed now at.page (page_bytes (log_head 1 at.seq) packer.bytes packer.count)
    → Appends (turns_for place total) old.image place entries new.image (paged at)
last_done old place now new at packer entries total w p all e page number turns groups of few log =
    let form = group_page old place now new at packer entries 1 total w p in
    let whole = whole_page now new at _ e ∙ ap Whole (packed_page 1 at.seq packer w.open_ w.packed_is) in
    let moved : w.moved ≡ turns_for place total = turns_are place at w.pages w.moved w.behind p.inner p.room ∙ ap (turns_for place) all in
    let was = w.log page number turns groups of (omega arith) log in
    let grown = log_with_page now new.image at 1 page number (turns + w.moved) groups w.done w.open_ w.place_is p.inner p.low form (left_page old place now new at packer entries 1 total w p) whole was in
    subst (λ (x : List Entry × ℕ). HasLog new.image page number (groups ++ x.0 ∷ []) [] (turns + x.1) (at.page + 1) (at.seq + 1)) (λ i. (w.all i, moved i)) grown

-- a page in the middle is programmed, and the packer is empty
pub middle_done : (old : Flash) (place : Place) (now new : Flash) (at : Place) (packer : Packed) (taken : List Entry) (total : ℕ)
    → IsUnderWay old place now at packer taken → IsPut 0 old place now new at packer total → new ≡ programmed now at.page (page_bytes (log_head 0 at.seq) packer.bytes packer.count) → Begins now new 1
    → IsUnderWay old place new (paged at) (record { bytes = []; count = 0 }) taken
middle_done old place now new at packer taken total w p e works = record {
  done = w.done ++ w.open_;
  open_ = [];
  pages = w.pages + 1;
  moved = w.moved + 0;
  all = append-nil (w.done ++ w.open_) ∙ w.all;
  packed_is = refl;
  fits = tt;
  log = λ page number turns groups of few log.
      let form = group_page old place now new at packer taken 0 total w p in
      let whole = whole_page now new at _ e ∙ ap Whole (packed_page 0 at.seq packer w.open_ w.packed_is) in
      let was = w.log page number turns groups of (omega arith) log in
      let grown = log_with_page now new.image at 0 page number (turns + w.moved) groups w.done w.open_ w.place_is p.inner p.low form (left_page old place now new at packer taken 0 total w p) whole was in
      let same : turns + w.moved ≡ turns + (w.moved + 0) = omega arith in
      subst (λ (x : List (List Entry) × ℕ). HasLog new.image page number x.0 (w.done ++ w.open_) x.1 (at.page + 1) (at.seq + 1)) (λ i. (append-nil groups i, same i)) grown;
  outside = outside_left old place now new at packer taken 0 total w p;
  place_is = place_after now new at _ w.place_is e p.inner;
  behind = behind_then place at (paged at) w.pages w.moved 1 0 w.behind (paged_behind at p.inner p.room);
  works = works_within old new (w.pages + 2 * w.moved + 1) 0 (w.pages + 1 + 2 * (w.moved + 0)) 0 (works_then_works old now new (w.pages + 2 * w.moved) 0 1 0 w.works works.0) (omega arith) (omega arith);
  exact = ops_then_ops old now new (w.pages + 2 * w.moved) 1 w.exact works.1 ∙ ap (ops_more old) (let e : w.pages + 2 * w.moved + 1 ≡ w.pages + 1 + 2 * (w.moved + 0) = omega arith in e);
}

-- ---- turns inside the group

pub under_way_turns : (old : Flash) (place : Place) (now : Flash) (at : Place) (new : Flash) (next : Place) (packer : Packed) (taken : List Entry) (due : ℕ)
    → IsUnderWay old place now at packer taken → ((rest : List Entry) → Carries due now.image at rest new.image next rest) → IsLogPlace new next → StaysOutside now.image new.image → IsBehind at 0 due next → Begins now new (2 * due)
    → IsUnderWay old place new next packer taken
under_way_turns old place now at new next packer taken due w carries is outside behind works = record {
  done = w.done;
  open_ = w.open_;
  pages = w.pages + 0;
  moved = w.moved + due;
  all = w.all;
  packed_is = w.packed_is;
  fits = w.fits;
  log = λ page number turns groups of few log.
      let was = w.log page number turns groups of (omega arith) log in
      let now_ = carries w.done page number (turns + w.moved) groups of (omega arith) was in
      subst (λ (t : ℕ). HasLog new.image page number groups w.done t next.page next.seq) (let e : turns + w.moved + due ≡ turns + (w.moved + due) = omega arith in e) now_;
  outside = λ q out. outside q out ∙ w.outside q out;
  place_is = is;
  behind = behind_then place at next w.pages w.moved 0 due w.behind behind;
  works = works_within old new (w.pages + 2 * w.moved + 2 * due) 0 (w.pages + 0 + 2 * (w.moved + due)) 0 (works_then_works old now new (w.pages + 2 * w.moved) 0 (2 * due) 0 w.works works.0) (omega arith) (omega arith);
  exact = ops_then_ops old now new (w.pages + 2 * w.moved) (2 * due) w.exact works.1 ∙ ap (ops_more old) (let e : w.pages + 2 * w.moved + 2 * due ≡ w.pages + 0 + 2 * (w.moved + due) = omega arith in e);
}

pub turn_fails : (old : Flash) (place : Place) (now : Flash) (at : Place) (new : Image) (packer : Packed) (taken others entries : List Entry) (total : ℕ)
    → (w : IsUnderWay old place now at packer taken) → ((rest : List Entry) → KeepsGroups (turns_due at) 0 now.image at rest new) → taken ++ others ≡ entries → w.pages + 1 ≤ total → 0 < room_of at
    → MayAppend (turns_for place total) total old.image place entries new
turn_fails old place now at new packer taken others entries total w keeps all less room page number turns groups of few log =
    let fit = turns_fit place at w.pages w.moved total w.behind less room in
    let was = w.log page number turns groups of (omega arith) log in
    let h = keeps w.done page number (turns + w.moved) groups of (omega arith) was in
    inl (record {
      first = w.done;
      others = w.open_ ++ others;
      all = sym (append_assoc w.done w.open_ others) ∙ ap (λ (xs : List Entry). xs ++ others) w.all ∙ all;
      has = record { turns = h.turns; end = h.end; next = h.next; log = h.log; few_turns = omega (arith, h.few_turns); next_fits = omega (arith, h.next_fits, w.behind.number) };
    })

-- ---- how many operations

pub turn_stops : (old : Flash) (place : Place) (now : Flash) (at : Place) (new : Flash) (packer : Packed) (taken : List Entry) (fault : FlashFault) (total : ℕ)
    → (w : IsUnderWay old place now at packer taken) → Stops now fault new (2 * turns_due at) 0 → w.pages + 1 ≤ total → 0 < room_of at → Stops old fault new (total + 2 * turns_for place total) 0
turn_stops old place now at new packer taken fault total w stops less room =
    let fit = turns_fit place at w.pages w.moved total w.behind less room in
    stops_within old new fault (w.pages + 2 * w.moved + 2 * turns_due at) 0 (total + 2 * turns_for place total) 0 (works_then_stops old now new fault (w.pages + 2 * w.moved) 0 (2 * turns_due at) 0 w.works stops) (omega arith) (omega arith)

pub put_stops : (old : Flash) (place : Place) (now : Flash) (at : Place) (new : Flash) (packer : Packed) (taken : List Entry) (fault : FlashFault) (total : ℕ)
    → (w : IsUnderWay old place now at packer taken) → Stops now fault new 1 0 → w.pages + 1 ≤ total → 0 < room_of at → Stops old fault new (total + 2 * turns_for place total) 0
put_stops old place now at new packer taken fault total w stops less room =
    let fit = turns_fit place at w.pages w.moved total w.behind less room in
    stops_within old new fault (w.pages + 2 * w.moved + 1) 0 (total + 2 * turns_for place total) 0 (works_then_stops old now new fault (w.pages + 2 * w.moved) 0 1 0 w.works stops) (omega arith) (omega arith)

-- ---- behind the turn that came before a page

pub record IsReady (old : Flash) (place : Place) (now : Flash) (at : Place) (packer : Packed) (taken : List Entry) (total : ℕ) : Type 0 where
  pub way : IsUnderWay old place now at packer taken
  pub inner : at.page % 32 < 31
  pub at_ring : IsInRing at
  pub room : 0 < room_of at
  pub less : way.pages + 1 ≤ total

pub ready : (old : Flash) (place : Place) (now : Flash) (at : Place) (new : Flash) (next : Place) (packer : Packed) (taken : List Entry) (total : ℕ)
    → (w : IsUnderWay old place now at packer taken) → ((rest : List Entry) → Carries (turns_due at) now.image at rest new.image next rest) → IsLogPlace new next → StaysOutside now.image new.image → IsBehind at 0 (turns_due at) next → Begins now new (2 * turns_due at)
    → next.page % 32 < 31 → IsInRing next → 0 < room_of at → w.pages + 1 ≤ total → IsReady old place new next packer taken total
ready old place now at new next packer taken total w carries is outside behind works inner ring room less =
    let way : IsUnderWay old place new next packer taken = under_way_turns old place now at new next packer taken (turns_due at) w carries is outside behind works in
    record { way = way; inner = inner; at_ring = ring; room = omega (arith, behind.room); less = omega (arith, way.behind.room, w.behind.room, behind.room) }

pub put_middle : (old : Flash) (place : Place) (now new : Flash) (at : Place) (packer : Packed) (taken : List Entry) (e : Entry) (total : ℕ)
    → (r : IsReady old place now at packer taken total) → LeftByProgram now.image at.page (page_bytes (log_head 0 at.seq) packer.bytes packer.count) new.image
    → FitsEntry e → 4096 < length packer.bytes + length (entry_bytes e) → length packer.bytes ≤ 4096 → IsInRing place → place.seq < 2 ^ 63 → IsPut 0 old place now new at packer total
put_middle old place now new at packer taken e total r left f more size ring number = record {
  left = left;
  inner = r.inner;
  low = omega arith;
  size = size;
  some = some_packed packer r.way.open_ e r.way.packed_is f more;
  ring = ring;
  at_ring = r.at_ring;
  number = number;
  room = r.room;
}

pub put_last : (old : Flash) (place : Place) (now new : Flash) (at : Place) (packer : Packed) (taken : List Entry) (total : ℕ)
    → (r : IsReady old place now at packer taken total) → LeftByProgram now.image at.page (page_bytes (log_head 1 at.seq) packer.bytes packer.count) new.image
    → 1 ≤ packer.count → length packer.bytes ≤ 4096 → IsInRing place → place.seq < 2 ^ 63 → IsPut 1 old place now new at packer total
put_last old place now new at packer taken total r left some size ring number = record {
  left = left;
  inner = r.inner;
  low = omega arith;
  size = size;
  some = some;
  ring = ring;
  at_ring = r.at_ring;
  number = number;
  room = r.room;
}

-- the whole group is there
pub group_behind : (old : Flash) (place : Place) (now : Flash) (at : Place) (packer : Packed) (taken : List Entry) (total : ℕ)
    → (r : IsReady old place now at packer taken total) → r.way.pages + 1 ≡ total → IsBehind place total (turns_for place total) (paged at)
group_behind old place now at packer taken total r all =
    let moved : r.way.moved ≡ turns_for place total = turns_are place at r.way.pages r.way.moved r.way.behind r.inner r.room ∙ ap (turns_for place) all in
    let b = behind_then place at (paged at) r.way.pages r.way.moved 1 0 r.way.behind (paged_behind at r.inner r.room) in
    record { room = omega (arith, b.room); blocks = omega (arith, b.blocks); number = omega (arith, b.number) }

pub group_begins : (old : Flash) (place : Place) (now new : Flash) (at : Place) (packer : Packed) (taken : List Entry) (total : ℕ)
    → (r : IsReady old place now at packer taken total) → r.way.pages + 1 ≡ total → Begins now new 1 → Begins old new (total + 2 * turns_for place total)
group_begins old place now new at packer taken total r all works =
    let moved : r.way.moved ≡ turns_for place total = turns_are place at r.way.pages r.way.moved r.way.behind r.inner r.room ∙ ap (turns_for place) all in
    let same : r.way.pages + 2 * r.way.moved + 1 ≡ total + 2 * turns_for place total = omega (arith, moved, all) in
    subst (Begins old new) same (begins_then old now new (r.way.pages + 2 * r.way.moved) 1 (r.way.works, r.way.exact) works)
