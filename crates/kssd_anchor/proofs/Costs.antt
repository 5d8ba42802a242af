-- What an anchor's write costs, by the pages of the last anchor's block.
use Rattle.std.proofs.Common.{◌≡◌, ◌≢◌, ◌∙◌, ℕ, zero, suc, ◌+◌, ◌*◌, ◌/◌, ◌<◌, ◌≤◌, Bool, true, false, Option, Some, None, cond, refl, sym, ap, subst, arith, inl, inr}
use Rattle.std.specs.Prelude.{◌&&◌, is_some}
use Rattle.std.specs.Option.{ForSome}
use Rattle.std.proofs.lemmas.Bool.{true≢false, false≢true, cases_eq, cases_Bool, and_from, and_parts, cond-true, cond-false, false_from_ne_true}
use Rattle.kv_nand.specs.Flash.{Image, PageState, Erased, Whole, Cut, MayProgram}
use Rattle.kssd_anchor.specs.Places.{IsFree, is_erased, are_erased, has_free, erases_before, write_cost}

erased_is : (state : PageState) → is_erased state ≡ true → state ≡ Erased
erased_is Erased e = refl
erased_is (Whole bytes) e = absurd (false≢true e)
erased_is Cut e = absurd (false≢true e)

isn't_erased : (state : PageState) → is_erased state ≡ false → state ≢ Erased
isn't_erased state e is = absurd (true≢false (sym (ap is_erased is) ∙ e))

all_erased : (image : Image) (page n : ℕ) → ((q : ℕ) → page ≤ q → q < page + n → image q ≡ Erased) → are_erased image page n ≡ true
unfolding are_erased
all_erased image page zero h = refl
all_erased image page (suc n) h = and_from _ _ (ap is_erased (h page (omega arith) (omega arith))) (all_erased image (page + 1) n (λ q le lt. h q (omega arith) (omega arith)))

each_erased : (image : Image) (page n : ℕ) → are_erased image page n ≡ true → (q : ℕ) → page ≤ q → q < page + n → image q ≡ Erased
unfolding are_erased
each_erased image page zero e q le lt = absurd (omega arith)
each_erased image page (suc n) e q le lt =
    let both = and_parts _ _ e in
    elim (cases_eq q page) [
      | inl here ↦ ap image here ∙ erased_is _ both.0
      | inr ne ↦ each_erased image (page + 1) n both.1 q (omega arith) (omega arith)
    ]

-- where a page of the block may be programmed, the block has one
free_by : (image : Image) (block page n q : ℕ) → page + n ≡ 32 * block + 32 → 32 * block ≤ page → page ≤ q → q / 32 ≡ block → MayProgram image q → has_free image page n ≡ true
unfolding has_free
free_by image block page zero q all low le here may = absurd (omega arith)
free_by image block page (suc n) q all low le here may = elim (cases_eq q page) [
  | inl same ↦
      cond-true _ _ _ (ap is_erased (ap image (sym same) ∙ may.here))
      ∙ all_erased image (page + 1) n (λ p lep ltp. may.later p (omega arith) (omega arith))
  | inr ne ↦
      cond-false _ _ _ (false_from_ne_true _ (λ e. may.earlier page (omega arith) (omega arith) (erased_is _ e)))
      ∙ free_by image block (page + 1) n q (omega arith) (omega arith) (omega arith) here may
]

-- a page of this block that may be programmed
record FreeIn (image : Image) (block : ℕ) : Type 0 where
  page : ℕ
  here : page / 32 ≡ block
  may : MayProgram image page

-- where the block has one, it may be programmed
free_is : (image : Image) (block page n : ℕ) → page + n ≡ 32 * block + 32 → 32 * block ≤ page → ((q : ℕ) → 32 * block ≤ q → q < page → image q ≢ Erased) → has_free image page n ≡ true → FreeIn image block
unfolding has_free
free_is image block page zero all low before e = absurd (false≢true e)
free_is image block page (suc n) all low before e = elim (cases_Bool (is_erased (image page))) [
  | inl is_free ↦
      let rest = sym (cond-true _ _ _ is_free) ∙ e in
      record {
        page = page;
        here = omega arith;
        may = record {
          here = erased_is _ is_free;
          earlier = λ q same lt. before q (omega arith) lt;
          later = λ q same lt. each_erased image (page + 1) n rest q (omega arith) (omega arith);
        };
      }
  | inr isn't ↦
      free_is image block (page + 1) n (omega arith) (omega arith)
      (λ q le lt. elim (cases_eq q page) [ inl same ↦ subst (λ p. image p ≢ Erased) (sym same) (isn't_erased _ isn't) | inr ne ↦ before q le (omega arith) ])
      (sym (cond-false _ _ _ isn't) ∙ e)
]

-- what the search for a page tells
pub free_known : (image : Image) (block : ℕ) (free : Option ℕ) → IsFree image block free → has_free image (32 * block) 32 ≡ is_some free
free_known image block None none = false_from_ne_true _ (λ e.
    let free = free_is image block (32 * block) 32 (omega arith) (omega arith) (λ q le lt. absurd (omega arith)) e in
    none free.page free.here free.may)
free_known image block (Some page) h = free_by image block (32 * block) 32 page (omega arith) (omega arith) (omega (arith, h.0)) h.0 h.1

pub erases_known : (image : Image) (last free : Option ℕ) (page block : ℕ) → last ≡ Some page → block ≡ page / 32 → IsFree image block free → erases_before image last ≡ cond (is_some free) 0 1
erases_known image last free page block last_is block_is h =
    ap (erases_before image) last_is
    ∙ ap (λ (b : Bool). cond b 0 1) (free_known image (page / 32) free (subst (λ (b : ℕ). IsFree image b free) block_is h))

-- ---- what the cost depends on

same_erased : (old new : Image) (page n : ℕ) → ((q : ℕ) → q < page + n → new q ≡ old q) → are_erased new page n ≡ are_erased old page n
unfolding are_erased
same_erased old new page zero same = refl
same_erased old new page (suc n) same = λ i. is_erased (same page (omega arith) i) && same_erased old new (page + 1) n (λ q lt. same q (omega arith)) i

same_free : (old new : Image) (page n : ℕ) → ((q : ℕ) → q < page + n → new q ≡ old q) → has_free new page n ≡ has_free old page n
unfolding has_free
same_free old new page zero same = refl
same_free old new page (suc n) same = λ i. cond (is_erased (same page (omega arith) i)) (same_erased old new (page + 1) n (λ q lt. same q (omega arith)) i) (same_free old new (page + 1) n (λ q lt. same q (omega arith)) i)

-- a cost stays wherever the pages of blocks 0 and 1 are as they are
pub cost_stays : (old new : Image) (last : Option ℕ) → ForSome last (λ page. page < 64) → ((q : ℕ) → q < 64 → new q ≡ old q) → write_cost new last ≡ write_cost old last
cost_stays old new None below same = refl
cost_stays old new (Some last) below same = λ i. 1 + cond (same_free old new (32 * (last / 32)) 32 (λ q lt. same q (let low : last < 64 = below last refl in omega arith)) i) 0 1
