-- A tree whose nodes all have a name loses none where those without one are left out.
use Rattle.std.proofs.Common.{◌≡◌, ◌∙◌, ℕ, Bool, true, false, cond, List, [], ◌∷◌, filter, Some, inl, inr, refl, ap, sym}
use Rattle.std.specs.Ordering.{nat_cmp, eq_by_cmp}
use Rattle.std.specs.FinMap.{find}
use Rattle.kfs_model.specs.declared.Node.{Node}
use Rattle.kfs_model.specs.Tree.{Tree, node_of, is_named, named}
use Rattle.kfs_laws.proofs.Lookups.{decide_number, number_apart, number_tied}

keep_all : (f : ℕ → Bool) (es : List (ℕ × Node)) → ((n : ℕ) (x : Node) → find nat_cmp n es ≡ Some x → f n ≡ true) → filter (λ e. f e.0) es ≡ es
keep_all f [] h = refl
keep_all f (x ∷ es) h =
    let first : f x.0 ≡ true = h x.0 x.1 (ap (λ b. cond b (Some x.1) (find nat_cmp x.0 es)) (number_tied x.0)) in
    let later : (n : ℕ) (y : Node) → find nat_cmp n es ≡ Some y → f n ≡ true = λ n y e. elim (decide_number n x.0) [
      | inl is ↦ ap f is ∙ first
      | inr d ↦ h n y (ap (λ b. cond b (Some x.1) (find nat_cmp n es)) (number_apart n x.0 d) ∙ e)
    ] in
    ap (λ b. cond b (x ∷ filter (λ e. f e.0) es) (filter (λ e. f e.0) es)) first ∙ ap (λ xs. x ∷ xs) (keep_all f es later)

pub named_all : (t : Tree) → ((n : ℕ) (node : Node) → node_of t n ≡ Some node → is_named t n ≡ true) → named t ≡ t
named_all t all = let kept = keep_all (is_named t) t.nodes all in λ i. record { names = t.names; nodes = kept i; next = t.next }
