-- What copies hold, from one call to the next.
use Rattle.std.proofs.Common.{◌≡◌, ◌∙◌, ℕ, ◌/◌, ◌%◌, ◌<◌, ◌≤◌, ◌⊎◌, true, false, List, [], ◌∷◌, length, get_or, Option, Some, None, refl, sym, ap, subst, arith, inl, inr}
use Rattle.std.specs.Prelude.{◌||◌, eqb, is_some}
use Rattle.std.specs.List.{list_any}
use Rattle.std.proofs.lemmas.Bool.{cases_lt, cases_eq, false≢true, true≢false, eq-eqb, or_left, or_right}
use Rattle.std.proofs.lemmas.List.{get_or_append_left, get_or_push, length_push}
use Rattle.std.proofs.lemmas.List.Folds.{list_any-append}
use Rattle.kv_nand.specs.Flash.{Image}
use Rattle.kssd_values.proofs.Standing.{not_erased}
use Rattle.kssd_values.specs.declared.values.Values.{Values}
use Rattle.kssd_values.specs.declared.filling.Filling.{Filling}
use Rattle.kssd_values.specs.Marks.{is_live}
use Rattle.kssd_values.specs.Places.{is_below_in}
use Rattle.kssd_values.specs.Blocks.{is_live_at, is_target_page, has_target}
use Rattle.kssd_values.specs.Pages.{KeepsPages, is_value, key_in, size_in}
use Rattle.kssd_values.specs.Changes.{Copies, CopiesPage}
use Rattle.kssd_reclaim.specs.declared.copies.CopyOf.{CopyOf}
use Rattle.kssd_reclaim.specs.declared.reclaim.Reclaim.{Reclaim}
use Rattle.kssd_reclaim.specs.Reclaim.{block_of, next_of, copies_of, IsNext, IsCopy, Collects}
use Rattle.kssd_reclaim.specs.Steps.{Adds}

-- a call that keeps pages and makes no more pages of the block live keeps what copies hold
pub collects_stays : (r : Reclaim) (v w : Values) (before after : Image) → Collects r v before
    → ((q : ℕ) → is_target_page v q ≡ true → is_target_page w q ≡ true)
    → ((q : ℕ) → q / 32 ≡ block_of r → is_live_at w q ≡ true → is_live_at v q ≡ true)
    → ((q : ℕ) → q / 32 ≡ block_of r → is_live_at v q ≡ true → is_value (before q) ≡ true)
    → KeepsPages v before after → Collects r w after
collects_stays r v w before after h pages live stands keeps = record {
  each = λ i d lt.
      let copy : CopyOf = get_or (copies_of r) i d in
      let c = h.each i d lt in
      let here = r.sound.block_is i d lt in
      let target : after copy.target ≡ before copy.target = keeps.filled copy.target (or_right (is_below_in v.opened copy.target) (is_target_page v copy.target) c.filled) in
      let source : is_live_at w copy.source ≡ true → after copy.source ≡ before copy.source = λ l.
      let was = live copy.source here l in
      keeps.live copy.source was (not_erased (before copy.source) (stands copy.source here was)) in
      record {
        filled = pages copy.target c.filled;
        page = λ l. target ∙ c.page (live copy.source here l) ∙ sym (source l);
        key = λ l. c.key (live copy.source here l) ∙ sym (ap key_in (source l));
        size = λ l. c.size (live copy.source here l) ∙ sym (ap size_in (source l));
      };
  complete = λ q b lt l. h.complete q b lt (live q b l);
}

-- one more copy is among them
pub collects_more : (r s : Reclaim) (w : Values) (image : Image) (source target : ℕ) → Collects r w image → IsNext r w source → Adds r (image source) source target s → is_target_page w target ≡ true → image target ≡ image source → Collects s w image
collects_more r s w image source target h next adds filled same = record {
  each = λ i d lt. elim (cases_lt i (length (copies_of r))) [
    | inl low ↦ subst (IsCopy w image) (sym (at_old i d low)) (h.each i d low)
    | inr past ↦ subst (IsCopy w image) (sym (at_new i d (last i d lt past))) added
  ];
  complete = λ q b lt l. complete q (b ∙ adds.block) lt l (cases_lt (q % 32) (next_of r));
}
  where
    last : (i : ℕ) (d : CopyOf) → i < length (copies_of s) → length (copies_of r) ≤ i → length (copies_of r) ≡ i
    last i d lt past = omega (arith, ap (λ (xs : List CopyOf). length xs) adds.copies, length_push (copies_of r) adds.copy)

    at_old : (i : ℕ) (d : CopyOf) → i < length (copies_of r) → get_or (copies_of s) i d ≡ get_or (copies_of r) i d
    at_old i d low = ap (λ (xs : List CopyOf). get_or xs i d) adds.copies ∙ get_or_append_left (copies_of r) (adds.copy ∷ []) d i low

    at_new : (i : ℕ) (d : CopyOf) → length (copies_of r) ≡ i → get_or (copies_of s) i d ≡ adds.copy
    at_new i d e = ap (λ (xs : List CopyOf). get_or xs i d) adds.copies ∙ get_or_push (copies_of r) adds.copy d i e

    added : IsCopy w image adds.copy
    added = record {
      filled = ap (is_target_page w) adds.target_is ∙ filled;
      page = λ l. ap image adds.target_is ∙ same ∙ sym (ap image adds.source_is);
      key = λ l. adds.key_is ∙ sym (ap (λ q. key_in (image q)) adds.source_is);
      size = λ l. adds.size_is ∙ sym (ap (λ q. size_in (image q)) adds.source_is);
    }

    all : (q : ℕ) → list_any (λ copy. eqb copy.source q) (copies_of s) ≡ (list_any (λ copy. eqb copy.source q) (copies_of r) || (eqb adds.copy.source q || false))
    all q = ap (λ (xs : List CopyOf). list_any (λ copy. eqb copy.source q) xs) adds.copies ∙ list_any-append (λ (copy : CopyOf). eqb copy.source q) (copies_of r) (adds.copy ∷ [])

    complete : (q : ℕ) → q / 32 ≡ block_of r → q % 32 < next_of s → is_live_at w q ≡ true → (q % 32 < next_of r) ⊎ (next_of r ≤ q % 32) → list_any (λ copy. eqb copy.source q) (copies_of s) ≡ true
    complete q b lt l (inl low) = all q ∙ or_left _ _ (h.complete q b low l)
    complete q b lt l (inr from) = elim (cases_eq q source) [
      | inl e ↦ all q ∙ or_right _ _ (or_left _ _ (eq-eqb adds.copy.source q (adds.source_is ∙ sym e)))
      | inr ne ↦
          let less : q < source = omega (arith, next.ahead.block_is, adds.next) in
          absurd (true≢false (sym l ∙ next.first q (record { block_is = b; from = from }) less))
    ]

none_filled : (o : Option Filling) (q : ℕ) → is_some o ≡ false → is_below_in o q ≡ false
none_filled None q h = refl
none_filled (Some f) q h = absurd (true≢false h)

-- where nothing is copied into yet there are no copies
pub begins_pages : (v w : Values) → has_target v ≡ false → (q : ℕ) → is_target_page v q ≡ true → is_target_page w q ≡ true
begins_pages v w none q h = absurd (false≢true (sym (none_filled v.target q none) ∙ h))

-- a block to copy into was taken
pub collects_begun : (r : Reclaim) (v w : Values) (before after : Image) (answer : Option ℕ) → answer ≡ None → Copies v answer w → ((q : ℕ) → q / 32 ≡ block_of r → is_live_at v q ≡ true → is_value (before q) ≡ true) → KeepsPages v before after → Collects r v before → Collects r w after
collects_begun r v w before after answer e copies stands keeps h =
    collects_stays r v w before after h (begins_pages v w (copies.begins e).0) (λ q b l. sym (ap is_live (copies.marks q)) ∙ l) stands keeps

-- the next page was copied and added
pub collects_added : (r s : Reclaim) (v w : Values) (before after last : Image) (source target : ℕ) (answer : Option ℕ) → answer ≡ Some target → Copies v answer w → CopiesPage before source target after → ((q : ℕ) → q / 32 ≡ block_of r → is_live_at v q ≡ true → is_value (before q) ≡ true) → KeepsPages v before after → IsNext r v source → last ≡ after → Adds r (after source) source target s → Collects r v before → Collects s w last
collects_added r s v w before after last source target answer e copies page stands keeps next same adds h =
    let goes = copies.goes_on target e in
    let back : (q : ℕ) → is_live_at w q ≡ true → is_live_at v q ≡ true = λ q l. sym (ap is_live (copies.marks q)) ∙ l in
    let stays = collects_stays r v w before after h goes.pages (λ q b l. back q l) stands keeps in
    let source_is : after source ≡ before source = keeps.live source next.live (not_erased (before source) (stands source next.ahead.block_is next.live)) in
    let next_now : IsNext r w source = record {
      ahead = next.ahead;
      live = ap is_live (copies.marks source) ∙ next.live;
      first = λ q a lt. ap is_live (copies.marks q) ∙ next.first q a lt;
    } in
    subst (Collects s w) (sym same) (collects_more r s w after source target stays next_now adds goes.page_is (page.now ∙ sym source_is))
