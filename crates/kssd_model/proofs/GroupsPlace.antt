-- The pages before the end of a log in its block.
use Rattle.std.proofs.Common.{◌≡◌, ◌≢◌, ◌∙◌, ℕ, ◌+◌, ◌*◌, ◌/◌, ◌%◌, ◌<◌, ◌≤◌, eqb, List, [], ◌∷◌, refl, sym, ap, subst, arith, inl, inr}
use Rattle.std.proofs.lemmas.Bool.{cases_Bool, cases_eq}
use Rattle.kv_nand.specs.Flash.{Image, Erased, MayProgram}
use Rattle.kssd_model.specs.Groups.{LogPage, Holds, seen, next_place, Path}
use Rattle.kssd_model.proofs.GroupsPaths.{not_erased, not_last}

-- no page of the block before this one is Erased
abbrev pub AreTaken : Image → ℕ → Type 0
AreTaken image page = (q : ℕ) → q / 32 ≡ page / 32 → q < page → image q ≢ Erased

taken_more : (image : Image) (page number : ℕ) (x : LogPage) → AreTaken image page → seen page number (image page) ≡ Holds x → AreTaken image (next_place page x)
taken_more image page number x taken h = elim (cases_Bool (eqb x.flags 2)) [
  | inl e ↦ rw e (λ q same lt. absurd (omega arith))
  | inr e ↦
      let inner : page % 32 ≢ 31 = not_last page number (image page) x h e in
      rw e (λ q same lt. elim (cases_eq q page) [
        | inl here ↦ λ erased. not_erased page number (image page) x h (sym (ap image here) ∙ erased)
        | inr other ↦ taken q (omega arith) (omega arith)
      ])
]

taken_at_end : (image : Image) (page number : ℕ) (xs : List LogPage) (end next : ℕ) → Path image page number xs end next → AreTaken image page → AreTaken image end
taken_at_end image page number [] end next path taken = subst (AreTaken image) (sym path.0) taken
taken_at_end image page number (x ∷ xs) end next path taken = taken_at_end image (next_place page x) (number + 1) xs end next path.1 (taken_more image page number x taken path.0)

pub may_program_end : (image : Image) (block number : ℕ) (xs : List LogPage) (end next : ℕ) → Path image (32 * block) number xs end next → ((q : ℕ) → q / 32 ≡ end / 32 → end ≤ q → image q ≡ Erased) → MayProgram image end
may_program_end image block number xs end next path free = record {
  here = free end refl (omega arith);
  earlier = taken_at_end image (32 * block) number xs end next path (λ q same lt. absurd (omega arith));
  later = λ q same lt. free q same (omega arith);
}
