-- The number of bytes that fit is the most that does, and how long a file becomes by them.
use Rattle.std.proofs.Common.{◌≡◌, ℕ, zero, suc, ◌+◌, ◌-◌, ◌==◌, length, take, ◌≤◌, inl, inr, Bool, true, false, cond, refl, sym, ap, ◌∙◌, arith, List}
use Rattle.std.proofs.lemmas.Bool.Decides.{nat_tests}
use Rattle.std.proofs.lemmas.List.{length-take-le}
use Rattle.kfs_model.specs.Tree.{Tree, Limits, fits, fits_at, written}
use Rattle.kfs_model.proofs.Written.{length_written}
use Rattle.kfs_laws.specs.Laws.{IsMost}
use Rattle.kfs_laws.proofs.Lookups.{decide_number}

pub fits_most : (k : Limits) (t : Tree) (n : ℕ) (bytes : List ℕ) (p m : ℕ) → IsMost (fits_at k t n bytes p) m (fits k t n bytes p m)
fits_most k t n bytes p zero = record { within = omega arith; passes = inl refl; most = λ i le test. le }
fits_most k t n bytes p (suc m) = by (fits_at k t n bytes p (suc m)) refl (fits_most k t n bytes p m)
  where
    by : (b : Bool) → fits_at k t n bytes p (suc m) ≡ b → IsMost (fits_at k t n bytes p) m (fits k t n bytes p m) → IsMost (fits_at k t n bytes p) (suc m) (cond b (suc m) (fits k t n bytes p m))
    by true e rest = record { within = omega arith; passes = inr e; most = λ i le test. le }
    by false e rest = record {
      within = let h = rest.within in omega arith;
      passes = rest.passes;
      most = λ i le test. elim (decide_number i (suc m)) [
        | inl is ↦ absurd (let bad : true ≡ false = sym test ∙ ap (fits_at k t n bytes p) is ∙ e in cc)
        | inr other ↦ rest.most i (let t : i ≤ m = grind (arith) in t) test
      ];
    }

-- where some bytes fit, they pass the test
pub fits_pass : (k : Limits) (t : Tree) (n : ℕ) (bytes : List ℕ) (p m : ℕ) → (fits k t n bytes p m == 0) ≡ false → fits_at k t n bytes p (fits k t n bytes p m) ≡ true
fits_pass k t n bytes p m some = elim (fits_most k t n bytes p m).passes [
  | inl none ↦ absurd (let bad : (fits k t n bytes p m == 0) ≡ true = grind (arith, nat_tests) in let worse : true ≡ false = sym bad ∙ some in cc)
  | inr test ↦ test
]

-- how long a file becomes by the bytes that fit
pub length_fitting : (k : Limits) (t : Tree) (n : ℕ) (bytes : List ℕ) (p : ℕ) (given : List ℕ)
    → length (written bytes p (take (fits k t n bytes p (length given)) given)) ≡ p + fits k t n bytes p (length given) + (length bytes - (p + fits k t n bytes p (length given)))
length_fitting k t n bytes p given =
    let j = fits k t n bytes p (length given) in
    length_written bytes p (take j given) ∙ ap (λ m. p + m + (length bytes - (p + m))) (length-take-le j given (fits_most k t n bytes p (length given)).within)
