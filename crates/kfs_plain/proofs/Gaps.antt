-- The lowest number that no description has.
use Rattle.std.proofs.Common.{◌≡◌, ℕ, ◌+◌, ◌≤◌, true, false, cond, T, List, [], ◌∷◌, Some, refl, ap, subst, ◌∙◌, arith, eqb}
use Rattle.std.specs.Prelude.{◌==◌}
use Rattle.std.specs.Ordering.{nat_cmp}
use Rattle.std.specs.FinMap.{find, is_sorted}
use Rattle.std.proofs.lemmas.Bool.Decides.{nat_tests}
use Rattle.kfs_model.specs.declared.Description.{Description}
use Rattle.kfs_plain.specs.Tables.{first_gap}
use Rattle.kfs_plain.proofs.Entries.{Lacks, AtLeast, AtLeast-zero, AtLeast-above, Lacks-lower, and_first, and_second, untied_above}

le_first_gap : (n : ℕ) (es : List (ℕ × Description)) → n ≤ first_gap n es
le_first_gap n [] = omega arith
le_first_gap n (e ∷ es) = let rest = le_first_gap (n + 1) es in elim (e.0 == n) as (λ b. n ≤ cond b (first_gap (n + 1) es) n) [ true ↦ omega arith | false ↦ omega arith ]

next_up : (n y : ℕ) → n ≤ y → eqb y n ≡ false → n + 1 ≤ y
next_up n y le e = grind (arith, nat_tests)

same_up : (n y : ℕ) → eqb y n ≡ true → y ≡ n
same_up n y e = grind (arith, nat_tests)

AtLeast-lower : (m n : ℕ) (es : List (ℕ × Description)) → m ≤ n → AtLeast n es → AtLeast m es
AtLeast-lower m n [] le h = tt
AtLeast-lower m n (e ∷ es) le h = let here = h.0 in (omega arith, AtLeast-lower m n es le h.1)

lacks_gap : (n : ℕ) (es : List (ℕ × Description)) → T (is_sorted nat_cmp es) → AtLeast n es → Lacks nat_cmp (first_gap n es) es
lacks_gap n [] sorted h = refl
lacks_gap n (e ∷ es) sorted h =
    let above = AtLeast-above e.0 es (and_first _ _ sorted) in
    elim (e.0 == n) as (λ b. (e.0 == n) ≡ b → Lacks nat_cmp (cond b (first_gap (n + 1) es) n) (e ∷ es)) [
      | true ↦ λ is.
          let same = same_up n e.0 is in
          let higher = le_first_gap (n + 1) es in
          ap (λ b. cond b (Some e.1) (find nat_cmp (first_gap (n + 1) es) es)) (untied_above (first_gap (n + 1) es) e.0 (omega arith))
          ∙ lacks_gap (n + 1) es (and_second _ _ sorted) (subst (λ m. AtLeast m es) (ap (λ m. m + 1) same) above)
      | false ↦ λ is.
          let more = next_up n e.0 h.0 is in
          Lacks-lower n (e ∷ es) (more, AtLeast-lower (n + 1) (e.0 + 1) es (omega arith) above)
    ] refl

pub Lacks-first_gap : (es : List (ℕ × Description)) → T (is_sorted nat_cmp es) → Lacks nat_cmp (first_gap 0 es) es
Lacks-first_gap es sorted = lacks_gap 0 es sorted (AtLeast-zero es)
