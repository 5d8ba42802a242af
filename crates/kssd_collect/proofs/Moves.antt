-- Marks that go from pages to their copies, copy by copy.
use Rattle.std.proofs.Common.{◌≡◌, ◌∙◌, ℕ, zero, suc, ◌+◌, ◌/◌, ◌%◌, ◌<◌, ◌≤◌, inl, inr, Bool, true, false, cond, ◌||◌, ◌&&◌, eqb, ltb, List, [], ◌∷◌, length, get_or, take, map, Option, Some, None, option_map, refl, sym, ap, subst, arith}
use Rattle.std.specs.Prelude.{filter}
use Rattle.std.specs.List.{list_any}
use Rattle.std.proofs.lemmas.Bool.{and_parts, eqb-true, eq-eqb, ne_eqb, cases_eq}
use Rattle.std.proofs.lemmas.List.{get_or_default, length-map}
use Rattle.kv_nand.specs.Flash.{Image}
use Rattle.kssd_entry.specs.declared.entry.Entry.{Entry}
use Rattle.kssd_tx.specs.Lists.{Transactions, repointed, all_repointed}
use Rattle.kssd_values.specs.Marks.{is_live}
use Rattle.kssd_values.specs.declared.mark.Mark.{Mark}
use Rattle.kssd_values.specs.declared.mark.Mark.TheVariants.{Pending, Visible, Dead}
use Rattle.kssd_values.specs.declared.filling.Filling.{Filling}
use Rattle.kssd_values.specs.declared.values.Values.{Values}
use Rattle.kssd_values.specs.Places.{IsValueBlock, is_in, is_below_in}
use Rattle.kssd_values.specs.Blocks.{Free, Open, Closed, Target, device_of, mark_at, state_at, is_target_page}
use Rattle.kssd_values.specs.Changes.{SamePlaces}
use Rattle.kssd_values.proofs.States.{target_alone}
use Rattle.kssd_reclaim.specs.declared.copies.CopyOf.{CopyOf}
use Rattle.kssd_reclaim.specs.declared.reclaim.Reclaim.{Reclaim}
use Rattle.kssd_reclaim.specs.Reclaim.{block_of, copies_of}
use Rattle.kssd_reclaim.specs.Sources.{is_visible}
use Rattle.kssd_machine.specs.Names.{are_rising, are_valued}
use Rattle.kssd_machine.specs.Machines.{pending_in}
use Rattle.kssd_machine.specs.Marked.{is_pending, AreMarked}
use Rattle.kssd_machine.proofs.Tagging.{repoints}
use Rattle.kssd_machine.proofs.Valuing.{valued_repointed, rising_repointed}
use Rattle.kssd_machine.proofs.Moving.{repointed_same}
use Rattle.kssd_collect.specs.Moved.{CopiesStand, moved_mark, AreCopiesDead, HoldTheSame}

-- ---- lists of copies

-- none of the first copies has what no copy has
none_first : (p q : CopyOf → Bool) (n : ℕ) (cs : List CopyOf) → ((i : ℕ) (d : CopyOf) → i < n → i < length cs → p (get_or cs i d) ≡ false) → list_any p (filter q (take n cs)) ≡ false
none_first p q zero cs h = refl
none_first p q (suc n) [] h = refl
none_first p q (suc n) (x ∷ xs) h = by (q x) (none_first p q n xs (λ i d few low. h (suc i) d (omega arith) (omega arith)))
  where
    by : (b : Bool) → list_any p (filter q (take n xs)) ≡ false → list_any p (cond b (x ∷ filter q (take n xs)) (filter q (take n xs))) ≡ false
    by true rest = ap (λ b. b || list_any p (filter q (take n xs))) (h 0 x (omega arith) (omega arith)) ∙ rest
    by false rest = rest

-- one more copy
any_more : (p q : CopyOf → Bool) (n : ℕ) (cs : List CopyOf) (c : CopyOf) → n < length cs → c ≡ get_or cs n c → list_any p (filter q (take (suc n) cs)) ≡ (list_any p (filter q (take n cs)) || (q c && p c))
any_more p q n [] c low is = absurd (omega arith)
any_more p q zero (x ∷ xs) c low is = by (q x) refl ∙ ap (λ y. q y && p y) (sym is)
  where
    or_none : (b : Bool) → (b || false) ≡ b
    or_none true = refl
    or_none false = refl

    by : (b : Bool) → q x ≡ b → list_any p (cond b (x ∷ []) []) ≡ (q x && p x)
    by true e = or_none (p x) ∙ ap (λ b. b && p x) (sym e)
    by false e = ap (λ b. b && p x) (sym e)
any_more p q (suc n) (x ∷ xs) c low is = by (q x) (any_more p q n xs c (omega arith) is)
  where
    both : (a b d : Bool) → (a || (b || d)) ≡ ((a || b) || d)
    both true b d = refl
    both false b d = refl

    by : (b : Bool) → list_any p (filter q (take (suc n) xs)) ≡ (list_any p (filter q (take n xs)) || (q c && p c))
        → list_any p (cond b (x ∷ filter q (take (suc n) xs)) (filter q (take (suc n) xs))) ≡ (list_any p (cond b (x ∷ filter q (take n xs)) (filter q (take n xs))) || (q c && p c))
    by true rest = ap (λ b. p x || b) rest ∙ both (p x) (list_any p (filter q (take n xs))) (q c && p c)
    by false rest = rest

-- ---- the pages of copies

-- the block copied into
pub target_block : (v : Values) (page : ℕ) → is_target_page v page ≡ true → (state_at v (page / 32) ≡ Target) × IsValueBlock (device_of v) (page / 32)
target_block v page is = by v.target refl is
  where
    by : (o : Option Filling) → v.target ≡ o → is_below_in o page ≡ true → (state_at v (page / 32) ≡ Target) × IsValueBlock (device_of v) (page / 32)
    by None e h = absurd cc
    by (Some f) e h =
        let both = and_parts (eqb (page / 32) f.block) (ltb (page % 32) f.next) h in
        let block = eqb-true (page / 32) f.block both.0 in
        let here : is_in v.target (page / 32) ≡ true = ap (λ (o : Option Filling). is_in o (page / 32)) e ∙ eq-eqb f.block (page / 32) (sym block) in
        let alone = target_alone (device_of v) v.marks.items v.free.items v.opened v.target v.sound (page / 32) here in
        let filling = v.sound.target_is f e in (
          ap (λ b. cond b Open (cond (is_in v.target (page / 32)) Target (cond (get_or v.free.items (page / 32) false) Free Closed))) alone.0 ∙ ap (λ b. cond b Target (cond (get_or v.free.items (page / 32) false) Free Closed)) here,
          subst (IsValueBlock (device_of v)) (sym block) filling.value,
        )

-- a copy, its place among the others, and the pages that it is of
pub record IsAt (r : Reclaim) (v : Values) (n : ℕ) (c : CopyOf) : Type 0 where
  pub low : n < length (copies_of r)
  pub is : c ≡ get_or (copies_of r) n c
  pub stand : CopiesStand r v

pub at_from : (r : Reclaim) (v : Values) (items : List CopyOf) (n : ℕ) (c : CopyOf) → items ≡ copies_of r → CopiesStand r v → n < length items → c ≡ get_or items n c → IsAt r v n c
at_from r v items n c same stand low is = record {
  low = subst (λ (cs : List CopyOf). n < length cs) same low;
  is = is ∙ ap (λ (cs : List CopyOf). get_or cs n c) same;
  stand = stand;
}

pub target_is : (r : Reclaim) (v : Values) (n : ℕ) (c : CopyOf) → IsAt r v n c → is_target_page v c.target ≡ true
target_is r v n c at = subst (λ (x : CopyOf). is_target_page v x.target ≡ true) (sym at.is) (at.stand.filled n c at.low)

pub target_value : (r : Reclaim) (v : Values) (n : ℕ) (c : CopyOf) → IsAt r v n c → IsValueBlock (device_of v) (c.target / 32)
target_value r v n c at = (target_block v c.target (target_is r v n c at)).1

source_block : (r : Reclaim) (v : Values) (n : ℕ) (c : CopyOf) → IsAt r v n c → c.source / 32 ≡ block_of r
source_block r v n c at = ap (λ (x : CopyOf). x.source / 32) at.is ∙ r.sound.block_is n c at.low

pub source_value : (r : Reclaim) (v : Values) (n : ℕ) (c : CopyOf) → IsAt r v n c → IsValueBlock (device_of v) (c.source / 32)
source_value r v n c at = subst (IsValueBlock (device_of v)) (sym (source_block r v n c at)) at.stand.closed.value

-- a page of the block isn't a copy
pub apart : (r : Reclaim) (v : Values) (i : ℕ) (d : CopyOf) (page : ℕ) → CopiesStand r v → i < length (copies_of r) → page / 32 ≡ block_of r → eqb (get_or (copies_of r) i d).target page ≡ false
apart r v i d page stand low here = ne_eqb _ page (λ same.
    let state = (target_block v (get_or (copies_of r) i d).target (stand.filled i d low)).0 in
    let e : Closed ≡ Target = sym stand.closed.closed ∙ ap (state_at v) (sym here ∙ ap (λ (p : ℕ). p / 32) (sym same)) ∙ state in
    cc)

-- ---- the marks

abbrev pub picked : (Mark → Bool) → Values → ℕ → Reclaim → List CopyOf
picked test v n r = filter (λ copy. test (mark_at v copy.source)) (take n (copies_of r))

-- the copies of the first pages with such a mark have it, and these pages are dead
pub record IsMarked (test : Mark → Bool) (mark : Mark) (r : Reclaim) (old : Values) (n : ℕ) (v : Values) : Type 0 where
  pub marks : (page : ℕ) → mark_at v page ≡ moved_mark (picked test old n r) mark (mark_at old) page
  pub places : SamePlaces old v

pub same_places : (v : Values) → SamePlaces v v
same_places v = record {
  device = refl;
  blocks = record { states = λ block. refl; free = refl };
  opened = record { room = refl; next = refl };
  target = record { has = refl; next = refl; pages = λ q. refl };
  fills = λ image fills. fills;
}

pub places_then : (a b c : Values) → SamePlaces a b → SamePlaces b c → SamePlaces a c
places_then a b c x y = record {
  device = y.device ∙ x.device;
  blocks = record { states = λ block. y.blocks.states block ∙ x.blocks.states block; free = y.blocks.free ∙ x.blocks.free };
  opened = record { room = y.opened.room ∙ x.opened.room; next = y.opened.next ∙ x.opened.next };
  target = record { has = y.target.has ∙ x.target.has; next = y.target.next ∙ x.target.next; pages = λ q. y.target.pages q ∙ x.target.pages q };
  fills = λ image fills. y.fills image (x.fills image fills);
}

pub none_marked : (test : Mark → Bool) (mark : Mark) (r : Reclaim) (v : Values) → IsMarked test mark r v 0 v
none_marked test mark r v = record { marks = λ page. refl; places = same_places v }

neither : (test : Mark → Bool) (mark : Mark) (r : Reclaim) (old : Values) (n : ℕ) (page : ℕ) → list_any (λ d. eqb d.target page) (picked test old n r) ≡ false → list_any (λ d. eqb d.source page) (picked test old n r) ≡ false
    → moved_mark (picked test old n r) mark (mark_at old) page ≡ mark_at old page
neither test mark r old n page no_target no_source =
    ap (λ b. cond b mark (cond (list_any (λ d. eqb d.source page) (picked test old n r)) Dead (mark_at old page))) no_target ∙ ap (λ b. cond b Dead (mark_at old page)) no_source

no_target_source : (test : Mark → Bool) (r : Reclaim) (old : Values) (n : ℕ) (c : CopyOf) → IsAt r old n c → list_any (λ d. eqb d.target c.source) (picked test old n r) ≡ false
no_target_source test r old n c at = none_first (λ d. eqb d.target c.source) (λ copy. test (mark_at old copy.source)) n (copies_of r) (λ i d few low. apart r old i d c.source at.stand low (source_block r old n c at))

-- the page of a copy has its mark until the copy's turn comes
pub source_now : (test : Mark → Bool) (mark : Mark) (r : Reclaim) (old v : Values) (n : ℕ) (c : CopyOf) → IsAt r old n c → IsMarked test mark r old n v → mark_at v c.source ≡ mark_at old c.source
source_now test mark r old v n c at h = h.marks c.source ∙ neither test mark r old n c.source (no_target_source test r old n c at)
    (none_first (λ d. eqb d.source c.source) (λ copy. test (mark_at old copy.source)) n (copies_of r) (λ i d few low. ne_eqb (get_or (copies_of r) i d).source c.source (λ same.
    let less = r.sound.rising i n d few at.low in
    let here = ap (λ (x : CopyOf). x.source) (at.is ∙ other d) in
    absurd (omega arith))))
  where
    other : (d : CopyOf) → get_or (copies_of r) n c ≡ get_or (copies_of r) n d
    other d = get_or_default (copies_of r) n c d at.low

-- and so has the copy
pub target_now : (test : Mark → Bool) (mark : Mark) (r : Reclaim) (old v : Values) (n : ℕ) (c : CopyOf) → IsAt r old n c → IsMarked test mark r old n v → mark_at v c.target ≡ mark_at old c.target
target_now test mark r old v n c at h = h.marks c.target ∙ neither test mark r old n c.target
    (none_first (λ d. eqb d.target c.target) (λ copy. test (mark_at old copy.source)) n (copies_of r) (λ i d few low. ne_eqb (get_or (copies_of r) i d).target c.target (λ same.
    let less = at.stand.rising i n d few at.low in
    let here = ap (λ (x : CopyOf). x.target) (at.is ∙ other d) in
    absurd (omega arith))))
    (none_first (λ d. eqb d.source c.target) (λ copy. test (mark_at old copy.source)) n (copies_of r) (λ i d few low. ne_eqb (get_or (copies_of r) i d).source c.target (λ same.
    let state = (target_block old c.target (target_is r old n c at)).0 in
    let here = r.sound.block_is i d low in
    let e : Closed ≡ Target = sym at.stand.closed.closed ∙ ap (state_at old) (sym here ∙ ap (λ (p : ℕ). p / 32) same) ∙ state in
    absurd cc)))
  where
    other : (d : CopyOf) → get_or (copies_of r) n c ≡ get_or (copies_of r) n d
    other d = get_or_default (copies_of r) n c d at.low

turned : (a b : ℕ) → eqb a b ≡ eqb b a
turned a b = elim (cases_eq a b) [
  | inl same ↦ eq-eqb a b same ∙ sym (eq-eqb b a (sym same))
  | inr away ↦ ne_eqb a b away ∙ sym (ne_eqb b a (λ same. away (sym same)))
]

settled : (a b t s : Bool) (mark m x y : Mark) → x ≡ mark → (b ≡ true → t ≡ false) → y ≡ cond t mark (cond s Dead m) → cond a x (cond b Dead y) ≡ cond (t || a) mark (cond (s || b) Dead m)
settled true b true s mark m x y is none e = is
settled true b false s mark m x y is none e = is
settled false true true s mark m x y is none e = absurd (let f : true ≡ false = none refl in cc)
settled false true false true mark m x y is none e = refl
settled false true false false mark m x y is none e = refl
settled false false true s mark m x y is none e = e
settled false false false true mark m x y is none e = e
settled false false false false mark m x y is none e = e

more_marks : (test : Mark → Bool) (mark : Mark) (r : Reclaim) (old : Values) (n : ℕ) (c : CopyOf) (b : Bool) (page : ℕ) → IsAt r old n c → test (mark_at old c.source) ≡ b
    → moved_mark (picked test old (n + 1) r) mark (mark_at old) page
    ≡ cond (list_any (λ d. eqb d.target page) (picked test old n r) || (b && eqb c.target page)) mark (cond (list_any (λ d. eqb d.source page) (picked test old n r) || (b && eqb c.source page)) Dead (mark_at old page))
more_marks test mark r old n c b page at is =
    let q : CopyOf → Bool = λ copy. test (mark_at old copy.source) in
    let next : n + 1 ≡ suc n = omega arith in
    ap (λ k. moved_mark (picked test old k r) mark (mark_at old) page) next
    ∙ (λ i. cond (any_more (λ d. eqb d.target page) q n (copies_of r) c at.low at.is i) mark (cond (any_more (λ d. eqb d.source page) q n (copies_of r) c at.low at.is i) Dead (mark_at old page)))
    ∙ ap (λ x. cond (list_any (λ d. eqb d.target page) (picked test old n r) || (x && eqb c.target page)) mark (cond (list_any (λ d. eqb d.source page) (picked test old n r) || (x && eqb c.source page)) Dead (mark_at old page))) is

-- a page without such a mark is passed by
pub passed_by : (test : Mark → Bool) (mark : Mark) (r : Reclaim) (old v : Values) (n : ℕ) (c : CopyOf) → IsAt r old n c → IsMarked test mark r old n v → test (mark_at old c.source) ≡ false → IsMarked test mark r old (n + 1) v
passed_by test mark r old v n c at h is = record {
  marks = λ page. h.marks page ∙ same (list_any (λ d. eqb d.target page) (picked test old n r)) (list_any (λ d. eqb d.source page) (picked test old n r)) (mark_at old page) ∙ sym (more_marks test mark r old n c false page at is);
  places = h.places;
}
  where
    same : (t s : Bool) (m : Mark) → cond t mark (cond s Dead m) ≡ cond (t || false) mark (cond (s || false) Dead m)
    same true s m = refl
    same false true m = refl
    same false false m = refl

-- a page's mark goes to its copy
pub marked_more : (test : Mark → Bool) (mark : Mark) (r : Reclaim) (old v w : Values) (n : ℕ) (c : CopyOf) → IsAt r old n c → IsMarked test mark r old n v → test (mark_at old c.source) ≡ true → mark_at v c.source ≡ mark
    → ((q : ℕ) → mark_at w q ≡ cond (eqb q c.target) (mark_at v c.source) (cond (eqb q c.source) Dead (mark_at v q))) → SamePlaces v w → IsMarked test mark r old (n + 1) w
marked_more test mark r old v w n c at h is has marks places = record {
  marks = λ page.
      marks page
      ∙ (λ i. cond (turned page c.target i) (mark_at v c.source) (cond (turned page c.source i) Dead (mark_at v page)))
      ∙ settled (eqb c.target page) (eqb c.source page) (list_any (λ d. eqb d.target page) (picked test old n r)) (list_any (λ d. eqb d.source page) (picked test old n r)) mark (mark_at old page) (mark_at v c.source) (mark_at v page) has
      (λ same. ap (λ p. list_any (λ d. eqb d.target p) (picked test old n r)) (sym (eqb-true c.source page same)) ∙ no_target_source test r old n c at) (h.marks page)
      ∙ sym (more_marks test mark r old n c true page at is);
  places = places_then old v w h.places places;
}

take_whole : {X : Type 0} (n : ℕ) (xs : List X) → length xs ≤ n → take n xs ≡ xs
take_whole zero [] few = refl
take_whole zero (x ∷ xs) few = absurd (omega arith)
take_whole (suc n) [] few = refl
take_whole (suc n) (x ∷ xs) few = ap (λ ys. x ∷ ys) (take_whole n xs (omega arith))

pub not_visible : (a m : Mark) → a ≡ m → (a ≡ Visible → ⊥) → is_visible m ≡ false
not_visible a Visible is other = absurd (other is)
not_visible a Pending is other = refl
not_visible a Dead is other = refl

pub not_pending : (a m : Mark) → a ≡ m → (a ≡ Pending → ⊥) → is_pending m ≡ false
not_pending a Pending is other = absurd (other is)
not_pending a Visible is other = refl
not_pending a Dead is other = refl

-- all copies are looked at
pub marked_all : (test : Mark → Bool) (mark : Mark) (r : Reclaim) (old v : Values) (items : List CopyOf) (n : ℕ) → IsMarked test mark r old n v → items ≡ copies_of r → length items ≤ n
    → (page : ℕ) → mark_at v page ≡ moved_mark (filter (λ copy. test (mark_at old copy.source)) (copies_of r)) mark (mark_at old) page
marked_all test mark r old v items n h same all page =
    let few = ap (λ (cs : List CopyOf). length cs) same in
    h.marks page ∙ ap (λ (cs : List CopyOf). moved_mark (filter (λ copy. test (mark_at old copy.source)) cs) mark (mark_at old) page) (take_whole n (copies_of r) (omega arith))

-- ---- the lists of changes

-- what stays of the lists as changes name copies
pub record AreFollowed (r : Reclaim) (old : Values) (before : Transactions) (v : Values) (now : Transactions) : Type 0 where
  pub marked : (visible : List Entry) → AreMarked old visible before → AreMarked v visible now
  pub count : length now ≡ length before
  pub rising : are_rising before ≡ true → are_rising now ≡ true
  pub pending : (image : Image) → HoldTheSame r old image → pending_in image now ≡ pending_in image before
  pub valued : (image : Image) → HoldTheSame r old image → are_valued (device_of old) image before ≡ true → are_valued (device_of old) image now ≡ true

pub none_followed : (r : Reclaim) (v : Values) (lists : Transactions) → AreFollowed r v lists v lists
none_followed r v lists = record { marked = λ visible h. h; count = refl; rising = λ h. h; pending = λ image h. refl; valued = λ image h is. is }

pub followed_more : (r : Reclaim) (old v w : Values) (before now : Transactions) (n : ℕ) (c : CopyOf) → IsAt r old n c → IsMarked is_pending Pending r old n v → AreCopiesDead r old → mark_at v c.source ≡ Pending
    → ((q : ℕ) → mark_at w q ≡ cond (eqb q c.target) (mark_at v c.source) (cond (eqb q c.source) Dead (mark_at v q))) → AreFollowed r old before v now → AreFollowed r old before w (all_repointed c.source c.target now)
followed_more r old v w before now n c at h dead has marks follows =
    let was : mark_at old c.source ≡ Pending = sym (source_now is_pending Pending r old v n c at h) ∙ has in
    let copy : mark_at old c.target ≡ Dead = subst (λ (x : CopyOf). is_pending (mark_at old x.source) ≡ true → mark_at old x.target ≡ Dead) (sym at.is) (dead n c at.low) (ap is_pending was) in
    let same : (image : Image) → HoldTheSame r old image → image c.target ≡ image c.source = λ image hold.
    subst (λ (x : CopyOf). is_live (mark_at old x.source) ≡ true → image x.target ≡ image x.source) (sym at.is) (hold n c at.low) (ap is_live was) in
    record {
      marked = λ visible m. repoints v w visible now c.source c.target (follows.marked visible m) has (target_now is_pending Pending r old v n c at h ∙ copy) (λ q. marks q ∙ ap (λ x. cond (eqb q c.target) x (cond (eqb q c.source) Dead (mark_at v q))) has);
      count = length-map now (option_map (map (repointed c.source c.target))) ∙ follows.count;
      rising = λ rising. rising_repointed now c.source c.target (follows.rising rising);
      pending = λ image hold. repointed_same image now c.source c.target (same image hold) ∙ follows.pending image hold;
      valued = λ image hold valued. valued_repointed (device_of old) image now c.source c.target (follows.valued image hold valued) (target_value r old n c at) (same image hold);
    }
