-- A tree with no nameless node loses none.
use Rattle.std.proofs.Common.{◌≡◌, ℕ, ◌==◌, ◌||◌, inl, inr, true, false, cond, Bool, refl, ◌∙◌, ap, arith, List, [], ◌∷◌, filter, Some}
use Rattle.std.specs.Ordering.{nat_cmp, eq_by_cmp}
use Rattle.std.specs.Cmp.{nat_cmp_total}
use Rattle.std.specs.List.{list_any}
use Rattle.std.specs.FinMap.{find, nat_cmp-IsAntisymmetric}
use Rattle.std.proofs.lemmas.Bool.Decides.{nat_tests}
use Rattle.std.proofs.lemmas.Option.{same_Some}
use Rattle.kfs_model.specs.declared.Node.{Node}
use Rattle.kfs_model.specs.Tree.{Place, Tree, place_cmp, is_named, named}
use Rattle.kfs_shows.specs.Named.{AllNamed}
use Rattle.kfs_shows.proofs.Lookups.{decide_number, apart_test, tie_test}

or_right : (a b : Bool) → b ≡ true → (a || b) ≡ true
or_right true b e = refl
or_right false b e = e

or_left : (a b : Bool) → a ≡ true → (a || b) ≡ true
or_left a b e = ap (λ x. x || b) e

some_named : (names : List (Place × ℕ)) (place : Place) (n : ℕ) → find place_cmp place names ≡ Some n → list_any (λ e. e.1 == n) names ≡ true
some_named [] place n e = absurd (cc)
some_named (x ∷ es) place n e = by (eq_by_cmp place_cmp place x.0) (some_named es place n) e
  where
    by : (b : Bool) → (find place_cmp place es ≡ Some n → list_any (λ e. e.1 == n) es ≡ true) → cond b (Some x.1) (find place_cmp place es) ≡ Some n → ((x.1 == n) || list_any (λ e. e.1 == n) es) ≡ true
    by true rest e = let h : x.1 ≡ n = same_Some _ _ e in let t : (x.1 == n) ≡ true = grind (arith, nat_tests) in or_left (x.1 == n) (list_any (λ e. e.1 == n) es) t
    by false rest e = or_right (x.1 == n) (list_any (λ e. e.1 == n) es) (rest e)

keep_all : (f : ℕ → Bool) (es : List (ℕ × Node)) → ((n : ℕ) (x : Node) → find nat_cmp n es ≡ Some x → f n ≡ true) → filter (λ e. f e.0) es ≡ es
keep_all f [] h = refl
keep_all f (x ∷ es) h =
    let first : f x.0 ≡ true = h x.0 x.1 (ap (λ b. cond b (Some x.1) (find nat_cmp x.0 es)) (tie_test nat_cmp_total nat_cmp-IsAntisymmetric x.0)) in
    let later : (n : ℕ) (y : Node) → find nat_cmp n es ≡ Some y → f n ≡ true = λ n y e. elim (decide_number n x.0) [
      | inl is ↦ ap f is ∙ first
      | inr d ↦ h n y (ap (λ b. cond b (Some x.1) (find nat_cmp n es)) (apart_test nat_cmp_total nat_cmp-IsAntisymmetric n x.0 d) ∙ e)
    ] in
    ap (λ b. cond b (x ∷ filter (λ e. f e.0) es) (filter (λ e. f e.0) es)) first ∙ ap (λ xs. x ∷ xs) (keep_all f es later)

pub named_whole : (t : Tree) → AllNamed t → named t ≡ t
named_whole t all =
    let kept = keep_all (is_named t) t.nodes (λ n x e. let at = all n x e in some_named t.names at.0 n at.1) in
    λ i. record { names = t.names; nodes = kept i; next = t.next }
