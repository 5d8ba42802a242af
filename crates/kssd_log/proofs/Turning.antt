-- A turn: the next block is erased, and then a turn page is programmed.
use Rattle.std.proofs.Common.{◌≡◌, ◌≢◌, ◌⊎◌, ◌∙◌, ℕ, ◌+◌, ◌*◌, ◌/◌, ◌<◌, ◌≤◌, ◌^◌, List, [], refl, sym, ap, subst, arith, inl, inr, Result, Ok, Err}
use Rattle.std.specs.Prelude.{OnErr}
use Rattle.std.proofs.lemmas.Bool.{eq-eqb, ne_eqb}
use Rattle.std.proofs.lemmas.List.{append-nil}
use Rattle.kv_nand.specs.Flash.{Flash, Image, Erased, Whole, Cut, LeftByProgram, LeftByErase}
use Rattle.kv_nand.specs.Calls.{programmed, erased}
use Rattle.kssd_entry.specs.declared.entry.Entry.{Entry}
use Rattle.kssd_entry.specs.Spelling.{is_head, IsPageOf}
use Rattle.kssd_model.specs.Groups.{LogPage, Holds, seen, next_block, log_bytes, HasLog, Avoids, log_head}
use Rattle.kssd_model.proofs.GroupsPaths.{log_stays, log_grows, log_after_erase, ring_block, next_in_ring, ends_in_ring, avoids_ring}
use Rattle.kssd_model.proofs.GroupsPages.{spelled_seen}
use Rattle.kssd_log.specs.declared.place.Place.{Place}
use Rattle.kssd_log.specs.Ring.{IsRingPage, IsInRing, turned}
use Rattle.kssd_log.specs.Append.{IsLogPlace, HasGroups, Carries, KeepsGroups, StaysOutside}

pub on_err : {A E : Type 0} (r : Result A E) (P : Type 0) → P → OnErr r P
on_err (Ok x) P p = tt
on_err (Err e) P p = p

-- the block that a turn erases
abbrev pub next_of : Place → ℕ
next_of place = next_block (place.page / 32)

pub next_differs : (place : Place) → IsRingPage place.page → (place.page / 32 ≢ next_of place) × (2 ≤ next_of place) × (next_of place < 20)
next_differs place ring =
    let n = next_in_ring (place.page / 32) (omega arith) (omega arith) in
    (λ e. absurd (omega (arith, n.0)), n.1, n.2)

avoids_next : (old : Image) (place : Place) (page number turns : ℕ) (groups : List (List Entry)) (rest : List Entry) → IsRingPage place.page → IsRingPage page → turns + 1 ≤ 17 → (log : HasLog old page number groups rest turns place.page place.seq) → Avoids (next_of place) page log.pages
avoids_next old place page number turns groups rest ring of few log =
    let ends = ends_in_ring old page number log.pages place.page place.seq log.path of.low of.high in
    let next = next_in_ring (place.page / 32) (omega (arith, ring.low)) (omega (arith, ring.high)) in
    let is : ring_block (page / 32) (turns + 1) ≡ next_of place = sym (next.0 ∙ ap (λ b. ring_block b 1) (ends.2 ∙ ap (ring_block (page / 32)) log.turns_are) ∙ (let e : ring_block (ring_block (page / 32) turns) 1 ≡ ring_block (page / 32) (turns + 1) = omega arith in e)) in
    subst (λ (b : ℕ). Avoids b page log.pages) is (avoids_ring old page number log.pages place.page place.seq (turns + 1) log.path of.low of.high (omega (arith, log.turns_are)) (omega arith))

pub erased_log : (old mid : Image) (place : Place) (page number turns : ℕ) (groups : List (List Entry)) (rest : List Entry) → IsRingPage place.page → LeftByErase old (next_of place) mid → IsRingPage page → turns + 1 ≤ 17
    → HasLog old page number groups rest turns place.page place.seq → HasLog mid page number groups rest turns place.page place.seq
erased_log old mid place page number turns groups rest ring by of few log =
    log_after_erase old mid (next_of place) page number groups rest turns place.page place.seq by log (avoids_next old place page number turns groups rest ring of few log) (next_differs place ring).0

pub erased_keeps : (old mid : Image) (place : Place) (rest : List Entry) → IsRingPage place.page → LeftByErase old (next_of place) mid → KeepsGroups 1 0 old place rest mid
erased_keeps old mid place rest ring by page first turns groups of few log = record {
  turns = turns;
  end = place.page;
  next = place.seq;
  log = erased_log old mid place page first turns groups rest ring by of few log;
  few_turns = omega arith;
  next_fits = omega arith;
}

pub erased_outside : (old mid : Image) (place : Place) → IsRingPage place.page → LeftByErase old (next_of place) mid → StaysOutside old mid
erased_outside old mid place ring by q out =
    let n = next_differs place ring in
    by.elsewhere q (λ e. elim out [ inl l ↦ absurd (omega (arith, n.1)) | inr l ↦ absurd (omega (arith, n.2)) ])

-- the place's own block is as before
pub erased_place : (old mid : Flash) (place : Place) → IsRingPage place.page → IsLogPlace old place → mid ≡ erased old (next_of place) → IsLogPlace mid place
erased_place old mid place ring at e = record {
  free = record {
    here = other place.page refl ∙ at.free.here;
    earlier = λ q same lt erased. at.free.earlier q same lt (sym (other q same) ∙ erased);
    later = λ q same lt. other q same ∙ at.free.later q same lt;
  };
  blocks = rw (ap (λ f. f.blocks) e) at.blocks;
}
  where
    other : (q : ℕ) → q / 32 ≡ place.page / 32 → mid.image q ≡ old.image q
    other q same = ap (λ f. f.image q) e ∙ rw (ne_eqb (q / 32) (next_of place) (λ h. (next_differs place ring).0 (sym same ∙ h))) refl

pub is_erased : (old mid : Flash) (block q : ℕ) → mid ≡ erased old block → q / 32 ≡ block → mid.image q ≡ Erased
is_erased old mid block q e same = ap (λ f. f.image q) e ∙ rw (eq-eqb (q / 32) block same) refl

-- ---- the turn page

-- a turn page as a page of the log
abbrev pub turn : LogPage
turn = record { flags = 2; entries = [] }

abbrev pub turn_page : ℕ → List ℕ
turn_page number = log_bytes number turn

turn_form : (number : ℕ) → number < 2 ^ 64 → IsPageOf 2 (log_head 2 number) []
unfolding is_head
turn_form number h = record { kind_is = refl; form = refl; number = h; index = omega arith; fits = tt; room = omega arith }

pub turn_seen : (page number : ℕ) → number < 2 ^ 64 → seen page number (Whole (turn_page number)) ≡ Holds turn
turn_seen page number h = spelled_seen page number turn (turn_form number h) (λ last. refl)

turn_grows : (mid new : Image) (place : Place) (page number turns : ℕ) (groups : List (List Entry)) (rest : List Entry) → mid place.page ≡ Erased → mid (32 * next_of place) ≡ Erased → 32 * next_of place ≢ place.page → place.seq + 1 < 2 ^ 64
    → LeftByProgram mid place.page (turn_page place.seq) new → new place.page ≡ Whole (turn_page place.seq)
    → HasLog mid page number groups rest turns place.page place.seq → HasLog new page number groups rest (turns + 1) (32 * next_of place) (place.seq + 1)
turn_grows mid new place page number turns groups rest free next other fits left whole log =
    let grown = log_grows mid new (turn_page place.seq) page number groups rest turns place.page place.seq turn left free whole (turn_seen place.page place.seq (omega arith)) (record { bytes = whole; form = turn_form place.seq (omega arith); turns = λ last. refl }) (left.elsewhere (32 * next_of place) other ∙ next) log in
    let t : turns + (1 + 0) ≡ turns + 1 = omega arith in
    subst (λ (p : List (List Entry) × List Entry × ℕ). HasLog new page number p.0 p.1 p.2 (32 * next_of place) (place.seq + 1)) (λ i. (append-nil groups i, append-nil rest i, t i)) grown

turn_left : (mid new : Image) (place : Place) (page number turns : ℕ) (groups : List (List Entry)) (rest : List Entry) → mid place.page ≡ Erased → mid (32 * next_of place) ≡ Erased → 32 * next_of place ≢ place.page → place.seq + 1 < 2 ^ 64
    → LeftByProgram mid place.page (turn_page place.seq) new
    → HasLog mid page number groups rest turns place.page place.seq → HasGroups new page number groups rest (turns + 1) (place.seq + 0 + 1)
turn_left mid new place page number turns groups rest free next other fits left log =
    elim left.here [
      | inl e ↦ stays (inl e)
      | inr r ↦ elim r [
        | inl e ↦ stays (inr e)
        | inr whole ↦ record { turns = turns + 1; end = 32 * next_of place; next = place.seq + 1; log = turn_grows mid new place page number turns groups rest free next other fits left whole log; few_turns = omega arith; next_fits = omega arith }
      ]
    ]
  where
    stays : (new place.page ≡ Erased) ⊎ (new place.page ≡ Cut) → HasGroups new page number groups rest (turns + 1) (place.seq + 0 + 1)
    stays state = record { turns = turns; end = place.page; next = place.seq; log = log_stays mid new (turn_page place.seq) page number groups rest turns place.page place.seq left free state log; few_turns = omega arith; next_fits = omega arith }

-- ---- the whole turn

other_page : (place : Place) → IsRingPage place.page → 32 * next_of place ≢ place.page
other_page place ring h = (next_differs place ring).0 (sym (ap (λ q. q / 32) h) ∙ (let s : 32 * next_of place / 32 ≡ next_of place = omega arith in s))

pub turned_keeps : (old mid : Flash) (new : Image) (place : Place) (rest : List Entry) → IsRingPage place.page → IsLogPlace old place → place.seq + 1 < 2 ^ 64 → mid ≡ erased old (next_of place) → LeftByErase old.image (next_of place) mid.image
    → LeftByProgram mid.image place.page (turn_page place.seq) new → KeepsGroups 1 0 old.image place rest new
turned_keeps old mid new place rest ring at number e by program page first turns groups of few log =
    let here = erased_place old mid place ring at e in
    turn_left mid.image new place page first turns groups rest here.free.here (is_erased old mid (next_of place) (32 * next_of place) e (omega arith)) (other_page place ring) number program
    (erased_log old.image mid.image place page first turns groups rest ring by of few log)

pub turned_carries : (old mid new : Flash) (place : Place) (rest : List Entry) → IsRingPage place.page → IsLogPlace old place → place.seq + 1 < 2 ^ 64 → mid ≡ erased old (next_of place) → LeftByErase old.image (next_of place) mid.image
    → LeftByProgram mid.image place.page (turn_page place.seq) new.image → new ≡ programmed mid place.page (turn_page place.seq) → Carries 1 old.image place rest new.image (turned place) rest
turned_carries old mid new place rest ring at number e by program p page first turns groups of few log =
    let here = erased_place old mid place ring at e in
    let whole : new.image place.page ≡ Whole (turn_page place.seq) = ap (λ f. f.image place.page) p ∙ rw (eq-eqb place.page place.page refl) refl in
    turn_grows mid.image new.image place page first turns groups rest here.free.here (is_erased old mid (next_of place) (32 * next_of place) e (omega arith)) (other_page place ring) number program whole
    (erased_log old.image mid.image place page first turns groups rest ring by of few log)

pub turned_ring : (place : Place) → IsInRing place → IsInRing (turned place)
turned_ring place ring =
    let n = next_differs place ring.page in
    record { page = record { low = omega (arith, n.1); high = omega (arith, n.2) }; few = omega (arith, ring.few) }

pub turned_place : (old mid new : Flash) (place : Place) (bytes : List ℕ) → IsRingPage place.page → IsLogPlace old place → mid ≡ erased old (next_of place) → new ≡ programmed mid place.page bytes → IsLogPlace new (turned place)
turned_place old mid new place bytes ring at e p = record {
  free = record {
    here = there (32 * next_of place) (omega arith);
    earlier = λ q same lt. absurd (omega arith);
    later = λ q same lt. there q (let h : 32 * next_of place / 32 ≡ next_of place = omega arith in same ∙ h);
  };
  blocks = let b : new.blocks ≡ old.blocks = ap (λ f. f.blocks) p ∙ ap (λ f. f.blocks) e in rw b at.blocks;
}
  where
    n : (place.page / 32 ≢ next_of place) × (2 ≤ next_of place) × (next_of place < 20)
    n = next_differs place ring

    there : (q : ℕ) → q / 32 ≡ next_of place → new.image q ≡ Erased
    there q same = ap (λ f. f.image q) p ∙ rw (ne_eqb q place.page (λ h. n.0 (sym (ap (λ k. k / 32) h) ∙ same))) (is_erased old mid (next_of place) q e same)

pub turned_outside : (old mid new : Image) (place : Place) (bytes : List ℕ) → IsRingPage place.page → LeftByErase old (next_of place) mid → LeftByProgram mid place.page bytes new → StaysOutside old new
turned_outside old mid new place bytes ring by program q out =
    program.elsewhere q (λ e. elim out [ inl l ↦ absurd (omega (arith, ring.low)) | inr l ↦ absurd (omega (arith, ring.high)) ]) ∙ erased_outside old mid place ring by q out
