-- The copies of a block are named in the place of its pages.
use Rattle.std.proofs.Common.{◌≡◌, ◌∙◌, ◌⊎◌, inl, inr, ℕ, suc, ◌+◌, ◌/◌, ◌<◌, ◌≤◌, ◌^◌, Bool, true, false, cond, ◌||◌, eqb, List, [], ◌∷◌, length, get_or, map, Option, Some, None, refl, sym, ap, subst, arith}
use Rattle.std.specs.Prelude.{filter}
use Rattle.std.specs.List.{AllByRecursion, list_any, list_all}
use Rattle.std.proofs.lemmas.Bool.{and_from, eqb-true, le-leb, lt-ltb, cases_eq, cases_lt, or_left, or_right}
use Rattle.kv_nand.specs.Flash.{Flash, Image, IsSound}
use Rattle.kv_nand.specs.Working.{Works}
use Rattle.kv_nand.proofs.Chaining.{works_blocks, works_powered}
use Rattle.kssd_layout.specs.Numbers.{max_keys_in, max_pages_in, first_value_block_in}
use Rattle.kssd_entry.specs.declared.entry.Entry.{Entry}
use Rattle.kssd_entry.specs.Spelling.{FitsEntry}
use Rattle.kssd_model.specs.Rising.{merged}
use Rattle.kssd_image.specs.Stages.{shown_in, objects_in}
use Rattle.kssd_image.specs.Whole.{pages_named, has_its_value, AreValuesWhole, IsWhole, age_in}
use Rattle.kssd_frames.specs.Logging.{shown_after}
use Rattle.kssd_frames.proofs.Changes.{values_merge, block_left}
use Rattle.kssd_frames.proofs.ShownLaws.{shown_in_rises}
use Rattle.kssd_tx.specs.Lists.{Transactions}
use Rattle.kssd_values.specs.Marks.{is_live}
use Rattle.kssd_values.specs.declared.mark.Mark.{Mark}
use Rattle.kssd_values.specs.declared.mark.Mark.TheVariants.{Pending, Visible, Dead}
use Rattle.kssd_values.specs.declared.filling.Filling.{Filling}
use Rattle.kssd_values.specs.declared.values.Values.{Values}
use Rattle.kssd_values.specs.Places.{IsValueBlock}
use Rattle.kssd_values.specs.Blocks.{device_of, mark_at, IsClosed}
use Rattle.kssd_values.specs.Pages.{Fills, FillsIn}
use Rattle.kssd_values.specs.Changes.{SamePlaces}
use Rattle.kssd_index.specs.declared.index.Index.{Index}
use Rattle.kssd_index.specs.Standing.{IsIndex}
use Rattle.kssd_root.specs.Mapping.{with_entries, IsBeforeOrAfter}
use Rattle.kssd_log.specs.Append.{pages_of}
use Rattle.kssd_index.specs.Costs.{group_cost}
use Rattle.kssd_root.proofs.Logs.{has_bytes}
use Rattle.kssd_reclaim.specs.declared.copies.CopyOf.{CopyOf}
use Rattle.kssd_reclaim.specs.declared.reclaim.Reclaim.{Reclaim}
use Rattle.kssd_reclaim.specs.Sources.{is_visible, move_of}
use Rattle.kssd_reclaim.specs.Reclaim.{block_of, copies_of, moves_of}
use Rattle.kssd_machine.specs.Names.{are_rising, are_valued, times_pending}
use Rattle.kssd_machine.specs.Machines.{machine_of, pending_in}
use Rattle.kssd_machine.specs.Marked.{is_pending, is_named, AreMarked, IsRemarked}
use Rattle.kssd_machine.specs.Sizes.{replaced}
use Rattle.kssd_machine.specs.Collecting.{AreMoves, visible_copies, is_source}
use Rattle.kssd_machine.proofs.Copying.{all_gone}
use Rattle.kssd_machine.proofs.Finishing as finishing
use Rattle.kssd_machine.proofs.Grouping as grouping
use Rattle.kssd_machine.proofs.Moving.{moves_are, block_left_empty}
use Rattle.kssd_machine.proofs.Tagging.{moved_marks}
use Rattle.kssd_machine.proofs.Keeping.{live_holds, still_valued}
use Rattle.kssd_machine.proofs.Remaining.{block_after_mark}
use Rattle.kssd_machine.proofs.Standing.{stays, works_same}
use Rattle.kssd_mounted.specs.declared.mounted.Mounted.{Mounted}
use Rattle.kssd_mounted.specs.Standing.{Leaves, mounted_age}
use Rattle.kssd_collect.specs.Moved.{CopiesStand, moved_mark, AreCopiesDead, HoldTheSame}
use Rattle.kssd_collect.specs.Collecting.{IsCopied, IsEmptied}
use Rattle.kssd_collect.proofs.Moves.{apart, target_block, places_then}
use Rattle.kssd_collect.proofs.Short.{group_in_a_page, group_is_short}

-- ---- the moves

pub few_copies : (r : Reclaim) (m : Mounted) (flash : Flash) → IsCopied r m flash → length (copies_of r) ≤ 31
few_copies r m flash h = let few = h.copies.few.fewer in omega arith

moves : (r : Reclaim) (m : Mounted) (flash : Flash) → IsCopied r m flash → AreMoves r m.values flash.image (moves_of r m.values)
moves r m flash h = moves_are r m.values flash.image m.changes h.busy.marked (subst (λ n. list_all (has_its_value n flash.image) (shown_in flash.image) ≡ true) (sym h.busy.device) h.busy.whole.values.pages) h.copies.collects h.copies.targets

-- the moves of a collection by rising keys
pub record AreOrdered (r : Reclaim) (m : Mounted) (flash : Flash) (es : List Entry) : Type 0 where
  pub copied : IsCopied r m flash
  pub is : es ≡ merged (moves_of r m.values) []
  pub fits : AllByRecursion FitsEntry es
  pub sound : IsSound flash

ordered : (r : Reclaim) (m : Mounted) (flash : Flash) (es : List Entry) → AreOrdered r m flash es → AreMoves r m.values flash.image es
ordered r m flash es h = subst (λ (xs : List Entry). AreMoves r m.values flash.image xs) (sym h.is) (grouping.ordered r m.values flash.image (moves_of r m.values) (moves r m flash h.copied))

ordered_valued : (r : Reclaim) (m : Mounted) (flash : Flash) (es : List Entry) → AreOrdered r m flash es → list_all (has_its_value flash.blocks flash.image) es ≡ true
ordered_valued r m flash es h = subst (λ n. list_all (has_its_value n flash.image) es ≡ true) h.copied.busy.device (ordered r m flash es h).valued

pub rising : (r : Reclaim) (m : Mounted) (flash : Flash) (es : List Entry) → AreOrdered r m flash es → Rattle.kssd_model.specs.Rising.is_rising es ≡ true
rising r m flash es h = ap Rattle.kssd_model.specs.Rising.is_rising h.is ∙ grouping.rises (moves_of r m.values)

pub few : (r : Reclaim) (m : Mounted) (flash : Flash) (es : List Entry) → AreOrdered r m flash es → length es ≤ 640
few r m flash es h =
    let size = ap (λ (xs : List Entry). length xs) h.is ∙ grouping.same_size (moves_of r m.values) (moves r m flash h.copied).differ in
    omega (arith, few_copies r m flash h.copied, grouping.few_moves r m.values)

keys_are : (r : Reclaim) (m : Mounted) (flash : Flash) (es : List Entry) → AreOrdered r m flash es → length (shown_after flash.image es) ≡ length (shown_in flash.image)
keys_are r m flash es h = grouping.keys_kept flash.image es (ordered r m flash es h).each

pages_are : (r : Reclaim) (m : Mounted) (flash : Flash) (es : List Entry) → AreOrdered r m flash es → length (pages_named (shown_after flash.image es)) ≡ length (pages_named (shown_in flash.image))
pages_are r m flash es h = grouping.pages_kept flash.blocks flash.image es (has_bytes flash h.sound) h.copied.busy.whole h.fits (ordered r m flash es h).each (ordered_valued r m flash es h)

pub keys_low : (r : Reclaim) (m : Mounted) (flash : Flash) (es : List Entry) → AreOrdered r m flash es → length (with_entries (shown_in flash.image) es) ≤ max_keys_in flash.blocks
unfolding shown_in
keys_low r m flash es h = subst (λ n. n ≤ max_keys_in flash.blocks) (sym (keys_are r m flash es h)) h.copied.busy.whole.index.room.keys

pub pages_low : (r : Reclaim) (m : Mounted) (flash : Flash) (es : List Entry) → AreOrdered r m flash es → length (pages_named (with_entries (shown_in flash.image) es)) ≤ max_pages_in flash.blocks
unfolding shown_in
pages_low r m flash es h = subst (λ n. n ≤ max_pages_in flash.blocks) (sym (pages_are r m flash es h)) h.copied.busy.whole.index.room.pages

-- the group of the moves is short
pub group_short : (r : Reclaim) (m : Mounted) (flash : Flash) (es : List Entry) → AreOrdered r m flash es → group_cost m.index es ≤ 3
group_short r m flash es h = subst (λ (xs : List Entry). group_cost m.index xs ≤ 3) (sym h.is) (group_is_short m.index r m.values flash.image (moves r m flash h.copied) (few_copies r m flash h.copied))

pub group_paged : (r : Reclaim) (m : Mounted) (flash : Flash) (es : List Entry) → AreOrdered r m flash es → pages_of es ≤ 1
group_paged r m flash es h = subst (λ (xs : List Entry). pages_of xs ≤ 1) (sym h.is) (group_in_a_page r m.values flash.image (moves r m flash h.copied) (few_copies r m flash h.copied))

-- ---- the log

pub objects_logged : (r : Reclaim) (m : Mounted) (old : Flash) (new : Image) (es : List Entry) → AreOrdered r m old es → IsBeforeOrAfter old.blocks old.image es new → objects_in new ≡ objects_in old.image
objects_logged r m old new es h kept = grouping.objects_kept old.blocks old.image new es h.copied.busy.whole.values (ordered r m old es h).each (ordered_valued r m old es h) kept.values kept.shown

whole_after : (r : Reclaim) (m : Mounted) (flash : Flash) (es : List Entry) → AreOrdered r m flash es → AreValuesWhole flash.blocks flash.image (shown_after flash.image es)
whole_after r m flash es h =
    let busy = h.copied.busy in
    let closed = subst (λ n. IsValueBlock n (block_of r)) busy.device h.copied.copies.closed.value in
    record {
      pages = values_merge flash.blocks flash.image es (shown_in flash.image) (ordered_valued r m flash es h) busy.whole.values.pages;
      spare = block_left flash.blocks (shown_after flash.image es) (block_of r) busy.least (and_from _ _ (le-leb _ _ closed.first) (lt-ltb _ _ closed.last))
          (block_left_empty r m.values flash.image m.changes es busy.marked h.copied.copies.collects h.copied.all h.copied.copies.closed.closed (ordered r m flash es h));
    }

whole_logged : (r : Reclaim) (m : Mounted) (old : Flash) (new : Image) (es : List Entry) → AreOrdered r m old es → IsBeforeOrAfter old.blocks old.image es new → IsWhole old.blocks new
whole_logged r m old new es h kept = record {
  found = kept.index.found;
  index = kept.index.index;
  values = finishing.whole_either old.blocks old.image new es h.copied.busy.whole.values (whole_after r m old es h) kept.values kept.shown;
}

pub leaves_logged : (r : Reclaim) (m : Mounted) (old new : Flash) (es : List Entry) (age : ℕ) → AreOrdered r m old es → IsBeforeOrAfter old.blocks old.image es new.image → new.blocks ≡ old.blocks → age_in new.image ≤ age → age ≤ mounted_age m + 2 ^ 9 → Leaves old (mounted_age m + 2 ^ 9) new
leaves_logged r m old new es age h kept same aged low = record {
  blocks = same;
  whole = subst (λ n. IsWhole n new.image) (sym same) (whole_logged r m old new.image es h kept);
  age_is = omega arith;
}

pub machine_logged : (r : Reclaim) (m : Mounted) (old new : Flash) (es : List Entry) (ops reads : ℕ) (lists : Transactions) → AreOrdered r m old es → IsBeforeOrAfter old.blocks old.image es new.image → Works old new ops reads
    → pending_in new.image lists ≡ pending_in new.image m.changes → machine_of new true lists ≡ machine_of old true m.changes
machine_logged r m old new es ops reads lists h kept works pending =
    (λ i. record (machine_of new true m.changes) { pending = pending i })
    ∙ stays old new true m.changes (works_same old new ops reads works) (objects_logged r m old new.image es h kept) (finishing.pending_kept old.blocks old.image new.image m.changes h.copied.busy.valued kept.values)

-- ---- lists of copies

none_filtered : (p q : CopyOf → Bool) (cs : List CopyOf) → ((i : ℕ) (d : CopyOf) → i < length cs → p (get_or cs i d) ≡ true → q (get_or cs i d) ≡ false) → list_any p (filter q cs) ≡ false
none_filtered p q [] h = refl
none_filtered p q (x ∷ xs) h = by (p x) (q x) refl refl (none_filtered p q xs (λ i d low. h (suc i) d (omega arith)))
  where
    by : (a b : Bool) → p x ≡ a → q x ≡ b → list_any p (filter q xs) ≡ false → list_any p (cond b (x ∷ filter q xs) (filter q xs)) ≡ false
    by a false e f rest = rest
    by false true e f rest = ap (λ b. b || list_any p (filter q xs)) e ∙ rest
    by true true e f rest = absurd (let t : true ≡ false = sym f ∙ h 0 x (omega arith) e in cc)

-- a list has what one of its copies has
at_some : (p : CopyOf → Bool) (cs : List CopyOf) → list_any p cs ≡ true → (i : ℕ) × ((d : CopyOf) → p (get_or cs i d) ≡ true) × (i < length cs)
at_some p [] is = absurd cc
at_some p (x ∷ xs) is = by (p x) refl is (λ h. at_some p xs h)
  where
    by : (b : Bool) → p x ≡ b → (b || list_any p xs) ≡ true → (list_any p xs ≡ true → (i : ℕ) × ((d : CopyOf) → p (get_or xs i d) ≡ true) × (i < length xs)) → (i : ℕ) × ((d : CopyOf) → p (get_or (x ∷ xs) i d) ≡ true) × (i < length (x ∷ xs))
    by true e h later = (0, λ d. e, omega arith)
    by false e h later =
        let rest = later h in
        let low = rest.2 in
        (suc rest.0, rest.1, omega arith)

-- what has a source with such a mark is among the copies of those
has_filtered : (test : Mark → Bool) (v : Values) (page : ℕ) (cs : List CopyOf) → list_any (λ c. eqb c.source page) cs ≡ true → test (mark_at v page) ≡ true → list_any (λ c. eqb c.source page) (filter (λ c. test (mark_at v c.source)) cs) ≡ true
has_filtered test v page [] is has = absurd cc
has_filtered test v page (c ∷ cs) is has = by (eqb c.source page) (test (mark_at v c.source)) refl refl is (λ h. has_filtered test v page cs h has)
  where
    by : (a b : Bool) → eqb c.source page ≡ a → test (mark_at v c.source) ≡ b → (a || list_any (λ c. eqb c.source page) cs) ≡ true
        → (list_any (λ c. eqb c.source page) cs ≡ true → list_any (λ c. eqb c.source page) (filter (λ c. test (mark_at v c.source)) cs) ≡ true)
        → list_any (λ c. eqb c.source page) (cond b (c ∷ filter (λ c. test (mark_at v c.source)) cs) (filter (λ c. test (mark_at v c.source)) cs)) ≡ true
    by true true e f h rest = or_left (eqb c.source page) (list_any (λ c. eqb c.source page) (filter (λ c. test (mark_at v c.source)) cs)) e
    by true false e f h rest = absurd (let t : false ≡ true = sym f ∙ ap (λ p. test (mark_at v p)) (eqb-true c.source page e) ∙ has in cc)
    by false true e f h rest = or_right (eqb c.source page) (list_any (λ c. eqb c.source page) (filter (λ c. test (mark_at v c.source)) cs)) (rest h)
    by false false e f h rest = rest h

fewer_filtered : (p q : CopyOf → Bool) (cs : List CopyOf) → list_any p cs ≡ false → list_any p (filter q cs) ≡ false
fewer_filtered p q [] none = refl
fewer_filtered p q (x ∷ xs) none = by (p x) (q x) refl none (λ h. fewer_filtered p q xs h)
  where
    by : (a b : Bool) → p x ≡ a → (a || list_any p xs) ≡ false → (list_any p xs ≡ false → list_any p (filter q xs) ≡ false) → list_any p (cond b (x ∷ filter q xs) (filter q xs)) ≡ false
    by true b e h rest = absurd cc
    by false true e h rest = ap (λ b. b || list_any p (filter q xs)) e ∙ rest h
    by false false e h rest = rest h

named_targets : (page : ℕ) (cs : List CopyOf) → is_named page (map move_of cs) ≡ list_any (λ c. eqb c.target page) cs
named_targets page [] = refl
named_targets page (c ∷ cs) = ap (λ b. eqb c.target page || b) (named_targets page cs)

-- ---- the marks

pub copies_stand : (r : Reclaim) (m : Mounted) (flash : Flash) → IsCopied r m flash → CopiesStand r m.values
copies_stand r m flash h = record {
  closed = h.copies.closed;
  filled = λ i d low. (h.copies.collects.each i d low).filled;
  rising = h.copies.targets.rising;
}

closed_at : (v w : Values) (block : ℕ) → SamePlaces v w → IsClosed v block → IsClosed w block
closed_at v w block same h = record { value = subst (λ n. IsValueBlock n block) (sym same.device) h.value; closed = same.blocks.states block ∙ h.closed }

pub stand_still : (r : Reclaim) (v w : Values) → SamePlaces v w → CopiesStand r v → CopiesStand r w
stand_still r v w same h = record {
  closed = closed_at v w (block_of r) same h.closed;
  filled = λ i d low. same.target.pages (get_or (copies_of r) i d).target ∙ h.filled i d low;
  rising = h.rising;
}

-- the marks after those of pages with such a mark have moved
abbrev Moved : (Mark → Bool) → Mark → Reclaim → Values → Values → Type 0
Moved test mark r v w = (page : ℕ) → mark_at w page ≡ moved_mark (filter (λ copy. test (mark_at v copy.source)) (copies_of r)) mark (mark_at v) page

-- a page of the block is dead, or has the mark that it had
in_block : (test : Mark → Bool) (mark : Mark) (r : Reclaim) (v w : Values) (page : ℕ) → CopiesStand r v → Moved test mark r v w → page / 32 ≡ block_of r
    → mark_at w page ≡ cond (list_any (λ c. eqb c.source page) (filter (λ copy. test (mark_at v copy.source)) (copies_of r))) Dead (mark_at v page)
in_block test mark r v w page stand moved here =
    moved page
    ∙ ap (λ b. cond b mark (cond (list_any (λ c. eqb c.source page) (filter (λ copy. test (mark_at v copy.source)) (copies_of r))) Dead (mark_at v page)))
    (fewer_filtered (λ c. eqb c.target page) (λ copy. test (mark_at v copy.source)) (copies_of r) (none (copies_of r) (λ i d low. apart r v i d page stand low here)))
  where
    none : (cs : List CopyOf) → ((i : ℕ) (d : CopyOf) → i < length cs → eqb (get_or cs i d).target page ≡ false) → list_any (λ c. eqb c.target page) cs ≡ false
    none [] h = refl
    none (x ∷ xs) h = ap (λ b. b || list_any (λ c. eqb c.target page) xs) (h 0 x (omega arith)) ∙ none xs (λ i d low. h (suc i) d (omega arith))

-- a page of which no copy was made has its mark
not_source : (test : Mark → Bool) (mark : Mark) (r : Reclaim) (v w : Values) (page : ℕ) → CopiesStand r v → Moved test mark r v w → page / 32 ≡ block_of r → is_source r page ≡ false → mark_at w page ≡ mark_at v page
not_source test mark r v w page stand moved here none =
    in_block test mark r v w page stand moved here
    ∙ ap (λ b. cond b Dead (mark_at v page)) (fewer_filtered (λ c. eqb c.source page) (λ copy. test (mark_at v copy.source)) (copies_of r) none)

-- one with such a mark is dead, and one without has its mark
source_gone : (test : Mark → Bool) (mark : Mark) (r : Reclaim) (v w : Values) (page : ℕ) → CopiesStand r v → Moved test mark r v w → page / 32 ≡ block_of r → is_source r page ≡ true → test (mark_at v page) ≡ true → mark_at w page ≡ Dead
source_gone test mark r v w page stand moved here is has =
    in_block test mark r v w page stand moved here ∙ ap (λ b. cond b Dead (mark_at v page)) (has_filtered test v page (copies_of r) is has)

source_or_dead : (test : Mark → Bool) (mark : Mark) (r : Reclaim) (v w : Values) (page : ℕ) → CopiesStand r v → Moved test mark r v w → page / 32 ≡ block_of r → (mark_at w page ≡ Dead) ⊎ (mark_at w page ≡ mark_at v page)
source_or_dead test mark r v w page stand moved here = by (list_any (λ c. eqb c.source page) (filter (λ copy. test (mark_at v copy.source)) (copies_of r))) (in_block test mark r v w page stand moved here)
  where
    by : (b : Bool) → mark_at w page ≡ cond b Dead (mark_at v page) → (mark_at w page ≡ Dead) ⊎ (mark_at w page ≡ mark_at v page)
    by true e = inl e
    by false e = inr e

-- all sources are dead in the end
sources_dead : (r : Reclaim) (v w u : Values) (page : ℕ) → CopiesStand r v → CopiesStand r w → Moved is_visible Visible r v w → Moved is_pending Pending r w u → page / 32 ≡ block_of r → is_source r page ≡ true → mark_at u page ≡ Dead
sources_dead r v w u page first second visible pending here is = by (mark_at w page) refl
  where
    still : is_pending (mark_at w page) ≡ false → mark_at w page ≡ Dead → mark_at u page ≡ Dead
    still none dead = elim (source_or_dead is_pending Pending r w u page second pending here) [
      | inl gone ↦ gone
      | inr same ↦ same ∙ dead
    ]

    never : mark_at w page ≡ Visible → ⊥
    never e = by_old (mark_at v page) refl
      where
        by_old : (m : Mark) → mark_at v page ≡ m → ⊥
        by_old Visible was = let t : Visible ≡ Dead = sym e ∙ source_gone is_visible Visible r v w page first visible here is (ap is_visible was) in cc
        by_old Pending was = elim (source_or_dead is_visible Visible r v w page first visible here) [
          | inl gone ↦ let t : Visible ≡ Dead = sym e ∙ gone in cc
          | inr same ↦ let t : Visible ≡ Pending = sym e ∙ same ∙ was in cc
        ]
        by_old Dead was = elim (source_or_dead is_visible Visible r v w page first visible here) [
          | inl gone ↦ let t : Visible ≡ Dead = sym e ∙ gone in cc
          | inr same ↦ let t : Visible ≡ Dead = sym e ∙ same ∙ was in cc
        ]

    by : (m : Mark) → mark_at w page ≡ m → mark_at u page ≡ Dead
    by Pending e = source_gone is_pending Pending r w u page second pending here is (ap is_pending e)
    by Dead e = still (ap is_pending e) e
    by Visible e = absurd (never e)

source_in_block : (r : Reclaim) (page : ℕ) → is_source r page ≡ true → page / 32 ≡ block_of r
source_in_block r page is =
    let some = at_some (λ c. eqb c.source page) (copies_of r) is in
    by (copies_of r) some.0 refl some.1 some.2
  where
    by : (cs : List CopyOf) (i : ℕ) → copies_of r ≡ cs → ((d : CopyOf) → eqb (get_or cs i d).source page ≡ true) → i < length cs → page / 32 ≡ block_of r
    by [] i e h low = absurd (omega arith)
    by (x ∷ xs) i e h low =
        ap (λ (p : ℕ). p / 32) (sym (eqb-true _ page (h x))) ∙ ap (λ (cs : List CopyOf). (get_or cs i x).source / 32) (sym e) ∙ r.sound.block_is i x (subst (λ (cs : List CopyOf). i < length cs) (sym e) low)

-- the copies of pending pages are dead before their turn
pub copies_dead : (r : Reclaim) (m : Mounted) (flash : Flash) (w : Values) → IsCopied r m flash → Moved is_visible Visible r m.values w → AreCopiesDead r w
copies_dead r m flash w h moved i d low pending =
    let v = m.values in
    let stand = copies_stand r m flash h in
    let c = get_or (copies_of r) i d in
    let target = target_block v c.target (stand.filled i d low) in
    let was : is_visible (mark_at v c.source) ≡ false = elim (source_or_dead is_visible Visible r v w c.source stand moved (r.sound.block_is i d low)) [
      | inl gone ↦ absurd (let t : false ≡ true = sym (ap is_pending gone) ∙ pending in cc)
      | inr same ↦ hidden (mark_at v c.source) (sym (ap is_pending same) ∙ pending)
    ] in
    moved c.target
    ∙ ap (λ b. cond b Visible (cond (list_any (λ x. eqb x.source c.target) (filter (λ copy. is_visible (mark_at v copy.source)) (copies_of r))) Dead (mark_at v c.target)))
    (none_filtered (λ x. eqb x.target c.target) (λ copy. is_visible (mark_at v copy.source)) (copies_of r) (λ j e within same. ap (λ (x : CopyOf). is_visible (mark_at v x.source)) (only stand j e within (eqb-true _ c.target same)) ∙ was))
    ∙ dead (list_any (λ x. eqb x.source c.target) (filter (λ copy. is_visible (mark_at v copy.source)) (copies_of r))) (h.copies.targets.dead c.target target.0)
  where
    hidden : (mark : Mark) → is_pending mark ≡ true → is_visible mark ≡ false
    hidden Pending e = refl
    hidden Visible e = absurd cc
    hidden Dead e = absurd cc

    dead : (b : Bool) {mark : Mark} → mark ≡ Dead → cond b Dead mark ≡ Dead
    dead true e = refl
    dead false e = e

    only : CopiesStand r m.values → (j : ℕ) (e : CopyOf) → j < length (copies_of r) → (get_or (copies_of r) j e).target ≡ (get_or (copies_of r) i d).target → get_or (copies_of r) j e ≡ get_or (copies_of r) i d
    only stand j e within same = elim (cases_eq j i) [
      | inl here ↦ Rattle.std.proofs.lemmas.List.get_or_default (copies_of r) j e d within ∙ ap (λ k. get_or (copies_of r) k d) here
      | inr away ↦ elim (cases_lt j i) [
        | inl less ↦ let rise = stand.rising j i d less low in let same_one = ap (λ (x : CopyOf). x.target) (Rattle.std.proofs.lemmas.List.get_or_default (copies_of r) j e d within) in absurd (omega arith)
        | inr more ↦ let rise = stand.rising i j d (omega arith) within in let same_one = ap (λ (x : CopyOf). x.target) (Rattle.std.proofs.lemmas.List.get_or_default (copies_of r) j e d within) in absurd (omega arith)
      ]
    ]

-- the marks follow the visible entries
pub visible_marked : (r : Reclaim) (m : Mounted) (old : Flash) (new : Image) (es : List Entry) (w : Values) → AreOrdered r m old es → shown_in new ≡ with_entries (shown_in old.image) es → Moved is_visible Visible r m.values w → AreMarked w (shown_in new) m.changes
visible_marked r m old new es w h shown moved =
    let v = m.values in
    let ms = moves_of r v in
    let are = moves r m old h.copied in
    let rises = shown_in_rises old.image in
    let remarked : IsRemarked v (replaced (shown_in old.image) ms) ms Visible w = λ page.
    moved page ∙ (λ i. cond (sym (named_targets page (visible_copies r v)) i) Visible (cond (sym (are.sources page) i) Dead (mark_at v page))) in
    let same : shown_in new ≡ shown_after old.image ms = shown ∙ ap (shown_after old.image) h.is ∙ ap Rattle.kssd_image.specs.Stages.without_marks (grouping.same_outcome ms (shown_in old.image) rises) in
    subst (λ (xs : List Entry). AreMarked w xs m.changes) (sym same)
    (moved_marks v w (shown_in old.image) ms m.changes rises are.differ h.copied.busy.marked are.dead are.once remarked)

-- ---- the copies hold what the pages hold

pub copies_hold : (r : Reclaim) (m : Mounted) (old : Flash) (new : Image) (es : List Entry) (w : Values) → AreOrdered r m old es → IsBeforeOrAfter old.blocks old.image es new → Moved is_visible Visible r m.values w → HoldTheSame r w new
copies_hold r m old new es w h kept moved i d low live =
    let v = m.values in
    let c = get_or (copies_of r) i d in
    let stand = copies_stand r m old h.copied in
    let copy = h.copied.copies.collects.each i d low in
    let was : is_live (mark_at v c.source) ≡ true = elim (source_or_dead is_visible Visible r v w c.source stand moved (r.sound.block_is i d low)) [
      | inl gone ↦ absurd (let t : false ≡ true = sym (ap is_live gone) ∙ live in cc)
      | inr same ↦ sym (ap is_live same) ∙ live
    ] in
    let device = h.copied.busy.device in
    let first = subst (λ n. first_value_block_in n ≤ c.target / 32) device (target_block v c.target (stand.filled i d low)).1.first in
    let second = subst (λ n. first_value_block_in n ≤ c.source / 32) device (subst (IsValueBlock (device_of v)) (sym (r.sound.block_is i d low)) stand.closed.value).first in
    kept.values c.target first ∙ copy.page was ∙ sym (kept.values c.source second)

-- ---- the device

fills_same : (v : Values) (old new : Image) → ((q : ℕ) → IsValueBlock (device_of v) (q / 32) → new q ≡ old q) → Fills v old → Fills v new
fills_same v old new same h = record {
  opened = by v.opened (λ f e. (v.sound.opened_is f e).value) h.opened;
  target = by v.target (λ f e. (v.sound.target_is f e).value) h.target;
}
  where
    by : (o : Option Filling) → ((f : Filling) → o ≡ Some f → IsValueBlock (device_of v) f.block) → FillsIn o old → FillsIn o new
    by None lies h = tt
    by (Some f) lies h = record {
      below = λ q here low e. h.below q here low (sym (same q (subst (IsValueBlock (device_of v)) (sym here) (lies f refl))) ∙ e);
      behind = λ q here low. same q (subst (IsValueBlock (device_of v)) (sym here) (lies f refl)) ∙ h.behind q here low;
    }

-- what pending changes name is whole after the log
pub pending_valued : (r : Reclaim) (m : Mounted) (old : Flash) (new : Image) (es : List Entry) → AreOrdered r m old es → IsBeforeOrAfter old.blocks old.image es new → are_valued old.blocks new m.changes ≡ true
pending_valued r m old new es h kept =
    let busy = h.copied.busy in
    still_valued old.blocks old.image new m.changes busy.valued (λ page some. kept.values page
    (live_holds old.blocks m.values old.image (shown_in old.image) m.changes page busy.marked busy.whole.values.pages busy.valued (live (mark_at m.values page) (times_pending page m.changes) (busy.marked.pending page) some)).0.first)
  where
    live : (mark : Mark) (n : ℕ) → n ≡ cond (is_pending mark) 1 0 → 1 ≤ n → is_live mark ≡ true
    live Pending n e one = refl
    live Visible n e one = absurd (omega arith)
    live Dead n e one = absurd (omega arith)

-- the copies are named, and the block's pages aren't
pub emptied : (r : Reclaim) (m : Mounted) (old new : Flash) (es : List Entry) (index : Index) (w u : Values) (lists : Transactions) (ops reads : ℕ) → AreOrdered r m old es → IsBeforeOrAfter old.blocks old.image es new.image → Works old new ops reads
    → IsIndex index new.blocks new.image → shown_in new.image ≡ with_entries (shown_in old.image) es → Moved is_visible Visible r m.values w → SamePlaces m.values w → Moved is_pending Pending r w u → SamePlaces w u
    → length lists ≡ length m.changes → are_rising lists ≡ true → are_valued old.blocks new.image lists ≡ true → AreMarked u (shown_in new.image) lists → IsEmptied r (record m { index = index; values = u; changes = lists }) new
emptied r m old new es index w u lists ops reads h kept works stands shown visible places pending others count rises valued marked =
    let busy = h.copied.busy in
    let v = m.values in
    let blocks = works_blocks old new ops reads works in
    let same = places_then v w u places others in
    let stand = copies_stand r m old h.copied in
    let next = stand_still r v w places stand in
    record {
      busy = record {
        powered = works_powered old new ops reads works ∙ busy.powered;
        taken = busy.taken;
        least = subst (λ n. 256 ≤ n) (sym blocks) busy.least;
        most = subst (λ n. n ≤ 2048) (sym blocks) busy.most;
        whole = subst (λ n. IsWhole n new.image) (sym blocks) (whole_logged r m old new.image es h kept);
        index = stands;
        device = same.device ∙ busy.device ∙ sym blocks;
        fills = same.fills new.image (fills_same v old.image new.image (λ q is. kept.values q (subst (λ n. first_value_block_in n ≤ q / 32) busy.device is.first)) busy.fills);
        four = count ∙ busy.four;
        rising = rises;
        valued = subst (λ n. are_valued n new.image lists ≡ true) (sym blocks) valued;
        marked = marked;
        block = block_after_mark v u same busy.block;
        keys = busy.keys ∙ sym (ap (λ (xs : List Entry). length xs) shown ∙ keys_are r m old es h);
        pages = busy.pages ∙ sym (ap (λ (xs : List Entry). length (pages_named xs)) shown ∙ pages_are r m old es h);
      };
      closed = closed_at v u (block_of r) same stand.closed;
      dead = all_gone r v u old.image h.copied.copies.collects h.copied.all
          (λ page is. sources_dead r v w u page stand next visible pending (source_in_block r page is) is)
          (λ page here none. not_source is_pending Pending r w u page next pending here none ∙ not_source is_visible Visible r v w page stand visible here none);
      room = let used = h.copied.copies.few.used in let low = few_copies r m old h.copied in let now = same.target.next in omega arith;
    }
