-- Lists in the order of their keys: what the first has, and what the rest has, the whole has.
use Rattle.std.proofs.Common.{◌≡◌, ◌&&◌, true, false, cond, Bool, T, refl, sym, ◌∙◌, ap, List, ◌∷◌, Some, None}
use Rattle.std.specs.declared.cmp.Ordering.{Ordering}
use Rattle.std.specs.Cmp.{IsTotalOrder}
use Rattle.std.specs.FinMap.{IsAntisymmetric, find, is_sorted}
use Rattle.kfs_shows.proofs.Lookups.{tie_test, apart_test}
use Rattle.kfs_shows.proofs.Sweeping.{missing}
pub use Rattle.kfs_model.proofs.Tests.{first_of, second_of}

pub left : (a b : Bool) → (a && b) ≡ true → a ≡ true
left true b e = refl
left false b e = e

pub right : (a b : Bool) → (a && b) ≡ true → b ≡ true
right true b e = e
right false b e = absurd (cc)

module _ {K X : Type 0} {R : K → K → Ordering} (total : IsTotalOrder R) (same : IsAntisymmetric R) where
  pub found_first : (x : K × X) (es : List (K × X)) → find R x.0 (x ∷ es) ≡ Some x.1
  found_first x es = ap (λ b. cond b (Some x.1) (find R x.0 es)) (tie_test total same x.0)

  pub found_later : (x : K × X) (es : List (K × X)) → T (is_sorted R (x ∷ es)) → (q : K) (v : X) → find R q es ≡ Some v → find R q (x ∷ es) ≡ Some v
  found_later x es h q v e =
      ap (λ b. cond b (Some x.1) (find R q es)) (apart_test total same q x.0 (λ is. let bad : Some v ≡ None = sym e ∙ ap (λ k. find R k es) is ∙ missing R x.0 es (first_of _ _ h) in cc)) ∙ e
