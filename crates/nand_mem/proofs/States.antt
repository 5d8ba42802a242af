-- What an operation leaves alone.
use Rattle.std.proofs.Common.{◌≡◌, ◌∙◌, ◌⊎◌, ℕ, ◌/◌, ◌%◌, true, false, cond, eqb, refl, sym, ap, subst, inl, inr, List}
use Rattle.std.proofs.lemmas.Bool.{eq-eqb, ne_eqb}
use Rattle.kv_nand.specs.declared.nand.Outcome.{Outcome}
use Rattle.kv_nand.specs.declared.nand.Outcome.TheVariants as outcomes
use Rattle.kv_nand.specs.Flash.{Image, PageState, Erased, Whole, LeftByProgram, LeftByErase, with_page}
use Rattle.kv_nand.specs.Flash as states
use Rattle.nand_mem.specs.Left.{program_left, erase_left, with_block}

abbrev IsOneOf : List ℕ → PageState → Type 0
IsOneOf bytes s = (s ≡ Erased) ⊎ ((s ≡ states.Cut) ⊎ (s ≡ Whole bytes))

-- an image that a program leaves, whatever its outcome
pub left_by_program : (outcome : Outcome) (old new : Image) (page : ℕ) (bytes : List ℕ) → old page ≡ Erased → new ≡ with_page old page (program_left outcome (old page) bytes) → LeftByProgram old page bytes new
left_by_program outcome old new page bytes erased e = record {
  elsewhere = λ q ne. ap (λ f. f q) e ∙ rw (ne_eqb q page ne) refl;
  here = subst (IsOneOf bytes) (sym (ap (λ f. f page) e ∙ rw (eq-eqb page page refl) refl)) (by outcome);
}
  where
    by : (o : Outcome) → IsOneOf bytes (program_left o (old page) bytes)
    by outcomes.None = inl erased
    by outcomes.Part = inr (inl refl)
    by outcomes.Mix = inr (inl refl)
    by outcomes.All = inr (inr refl)

left_of_page : (outcome : Outcome) (q : ℕ) (s : PageState) → (erase_left outcome q s ≡ s) ⊎ ((erase_left outcome q s ≡ Erased) ⊎ (erase_left outcome q s ≡ states.Cut))
left_of_page outcomes.None q s = inl refl
left_of_page outcomes.Part q s = inr (inr refl)
left_of_page outcomes.Mix q s = elim (eqb (q % 2) 0) as (λ b. (cond b Erased s ≡ s) ⊎ ((cond b Erased s ≡ Erased) ⊎ (cond b Erased s ≡ states.Cut))) [ true ↦ inr (inl refl) | false ↦ inl refl ]
left_of_page outcomes.All q s = inr (inl refl)

pub left_by_erase : (outcome : Outcome) (old new : Image) (block : ℕ) → new ≡ with_block old block (erase_left outcome) → LeftByErase old block new
left_by_erase outcome old new block e = record {
  elsewhere = λ q ne. ap (λ f. f q) e ∙ rw (ne_eqb (q / 32) block ne) refl;
  here = λ q same.
      let there : new q ≡ erase_left outcome q (old q) = ap (λ f. f q) e ∙ rw (eq-eqb (q / 32) block same) refl in
      subst (λ (s : PageState). (s ≡ old q) ⊎ ((s ≡ Erased) ⊎ (s ≡ states.Cut))) (sym there) (left_of_page outcome q (old q));
}
