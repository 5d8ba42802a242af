-- Lists of blocks of runs.
use Rattle.std.proofs.Common.{◌≡◌, ◌∙◌, ℕ, zero, suc, false, List, [], ◌∷◌, take, ap, arith}
use Rattle.std.specs.Prelude.{nat_eq}
use Rattle.std.specs.List.{AllByRecursion, IsDistinct}
use Rattle.std.proofs.lemmas.List.{get_or-take, length-take}
use Rattle.kssd_layout.specs.Numbers.{region_in}
use Rattle.kssd_model.specs.RunPages.{AreRunBlocks}

all_take : (P : ℕ → Type 0) (n : ℕ) (xs : List ℕ) → AllByRecursion P xs → AllByRecursion P (take n xs)
all_take P zero xs h = tt
all_take P (suc n) [] h = tt
all_take P (suc n) (x ∷ xs) h = (h.0, all_take P n xs h.1)

distinct_take : (n : ℕ) (xs : List ℕ) → IsDistinct nat_eq xs → IsDistinct nat_eq (take n xs)
unfolding IsDistinct
distinct_take zero xs h = tt
distinct_take (suc n) [] h = tt
distinct_take (suc n) (x ∷ xs) h = (all_take (λ y. nat_eq x y ≡ false) n xs h.0, distinct_take n xs h.1)

-- the first of them
pub first_run_blocks : (device n : ℕ) (blocks : List ℕ) → AreRunBlocks device blocks → AreRunBlocks device (take n blocks)
first_run_blocks device n blocks h = record {
  distinct = distinct_take n blocks h.distinct;
  region = λ i lt. ap (region_in device) (get_or-take n blocks i 0 (omega (arith, length-take n blocks))) ∙ h.region i (omega (arith, length-take n blocks));
}
