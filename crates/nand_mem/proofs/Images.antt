-- The image that the places in memory show.
use Rattle.std.proofs.Common.{◌≡◌, ◌≢◌, ◌∙◌, ℕ, zero, suc, ◌+◌, ◌*◌, ◌/◌, ◌<◌, ◌≤◌, eqb, List, [], ◌∷◌, ◌++◌, length, get_or, set, Some, refl, ap, sym, arith, inl, inr}
use Rattle.std.specs.Prelude.{slice_get}
use Rattle.std.proofs.lemmas.Bool.{cases_eq, cases_lt, cases_Bool, eqb-true, eqb-false, eq-eqb, ne_eqb}
use Rattle.std.proofs.lemmas.Option.{slice_get_read}
use Rattle.kv_nand.specs.Flash.{Image, PageState, Erased, with_page}
use Rattle.nand_mem.specs.declared.slot.Slot.{Slot}
use Rattle.nand_mem.specs.Slots.{state_of, state_at, image_of}
use Rattle.nand_mem.specs.Left.{with_block}

slice_get-set_same : {A : Type 0} (xs : List A) (i : ℕ) (y : A) → i < length xs → slice_get (set xs i y) i ≡ Some y
slice_get-set_same [] i y h = absurd (omega arith)
slice_get-set_same (x ∷ xs) zero y h = refl
slice_get-set_same (x ∷ xs) (suc i) y h = slice_get-set_same xs i y (omega arith)

slice_get-set_other : {A : Type 0} (xs : List A) (i q : ℕ) (y : A) → q ≢ i → slice_get (set xs i y) q ≡ slice_get xs q
slice_get-set_other [] i q y h = refl
slice_get-set_other (x ∷ xs) zero zero y h = absurd (h refl)
slice_get-set_other (x ∷ xs) zero (suc q) y h = refl
slice_get-set_other (x ∷ xs) (suc i) zero y h = refl
slice_get-set_other (x ∷ xs) (suc i) (suc q) y h = slice_get-set_other xs i q y (λ e. h (ap suc e))

pub image_of-set_same : (slots : List Slot) (i : ℕ) (s : Slot) → i < length slots → image_of (set slots i s) i ≡ state_of s
image_of-set_same slots i s h = rw (slice_get-set_same slots i s h) refl

pub image_of-set_other : (slots : List Slot) (i q : ℕ) (s : Slot) → q ≢ i → image_of (set slots i s) q ≡ image_of slots q
image_of-set_other slots i q s h = rw (slice_get-set_other slots i q s h) refl

-- after a page is set: what is asked of that page and of each other one
pub image_of-set : (slots : List Slot) (i q : ℕ) (s : Slot) (target : PageState) → i < length slots → (q ≡ i → state_of s ≡ target) → (q ≢ i → image_of slots q ≡ target) → image_of (set slots i s) q ≡ target
image_of-set slots i q s target h same other =
    elim (cases_eq q i) [
      | inl e ↦ rw e (image_of-set_same slots i s h) ∙ same e
      | inr ne ↦ image_of-set_other slots i q s ne ∙ other ne
    ]

-- the element that was read is that of the image
pub image_of-read : (slots : List Slot) (i : ℕ) (s : Slot) → i < length slots → s ≡ get_or slots i s → state_of (get_or slots i s) ≡ image_of slots i
image_of-read slots i s h e = sym (ap state_at (slice_get_read slots (length slots) i s refl h e) ∙ ap state_of e)

-- a block that is changed page by page is the block changed
pub is_with_block : (old new : Image) (block : ℕ) (f : ℕ → PageState → PageState)
    → ((q : ℕ) → block * 32 ≤ q → q < block * 32 + 32 → new q ≡ f q (old q))
    → ((q : ℕ) → q < block * 32 → new q ≡ old q)
    → ((q : ℕ) → block * 32 + 32 ≤ q → new q ≡ old q)
    → new ≡ with_block old block f
is_with_block old new block f inside below above i q = at_page i
  where
    at_page : new q ≡ with_block old block f q
    at_page =
        elim (cases_Bool (eqb (q / 32) block)) [
          | inl e ↦ let d : q / 32 ≡ block = eqb-true _ _ e in rw e (inside q (omega arith) (omega arith))
          | inr e ↦ rw e (elim (cases_lt q (block * 32)) [
            | inl lt ↦ below q lt
            | inr ge ↦ let ne : q / 32 ≢ block = eqb-false _ _ e in above q (omega arith)
          ])
        ]

-- one more Erased page
pub image_of-push : (slots : List Slot) (s : Slot) (q : ℕ) → state_of s ≡ Erased → image_of slots q ≡ Erased → image_of (slots ++ s ∷ []) q ≡ Erased
image_of-push [] s zero e h = e
image_of-push [] s (suc q) e h = refl
image_of-push (x ∷ slots) s zero e h = h
image_of-push (x ∷ slots) s (suc q) e h = image_of-push slots s q e h

pub is_with_page : (slots : List Slot) (i : ℕ) (s : Slot) (state : PageState) → i < length slots → state_of s ≡ state → image_of (set slots i s) ≡ with_page (image_of slots) i state
is_with_page slots i s state h e j q = at_page j
  where
    at_page : image_of (set slots i s) q ≡ with_page (image_of slots) i state q
    at_page = image_of-set slots i q s (with_page (image_of slots) i state q) h (λ same. rw (eq-eqb _ _ same) e) (λ ne. rw (ne_eqb _ _ ne) refl)
