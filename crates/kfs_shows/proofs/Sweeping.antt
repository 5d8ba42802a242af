-- What is swept where each nameless node is open, or each but one.
use Rattle.std.proofs.Common.{◌≡◌, ℕ, ◌+◌, ◌*◌, ◌==◌, ◌||◌, ◌&&◌, inl, inr, not, true, false, cond, Bool, T, refl, sym, ◌∙◌, ap, arith, List, [], ◌∷◌, length, filter, sum_by, Some, None}
use Rattle.std.specs.List.{list_any}
use Rattle.std.specs.Ordering.{nat_cmp, is_eq, is_lt, eq_by_cmp}
use Rattle.std.specs.declared.cmp.Ordering.{Ordering}
use Rattle.std.specs.declared.cmp.Ordering.TheVariants.{Less, Equal, Greater}
use Rattle.std.specs.Cmp.{nat_cmp_total}
use Rattle.std.specs.FinMap.{find, is_sorted, nat_cmp-IsAntisymmetric}
use Rattle.std.specs.FinMap.Entries.{below_all}
use Rattle.std.proofs.lemmas.Bool.Decides.{nat_tests}
use Rattle.std.proofs.lemmas.List.Sums.{sum_by-cons}
use Rattle.std.proofs.lemmas.Option.{same_Some}
use Rattle.kfs_model.specs.declared.Node.{Node}
use Rattle.kfs_model.specs.Tree.{Place, Tree, place_cmp, is_named, chunks, chunks_of, IsTree, IsNameless, node_of}
use Rattle.kfs_model.specs.Desk.{is_open}
use Rattle.kfs_model.specs.Step.{World, swept}
use Rattle.kfs_model.proofs.Tests.{first_of, second_of, lt_apart}
use Rattle.kfs_laws.proofs.Lookups.{some_found}
use Rattle.kfs_shows.specs.Laws.{without_node}
use Rattle.kfs_shows.specs.Sweeping.{AllOpen, OpenBut, Frees, keys_of}
use Rattle.kfs_shows.proofs.Lookups.{places_total, same_places, tie_test, apart_test, decide_number}

-- what is below all has no entry
pub missing : {K X : Type 0} (R : K → K → Ordering) (k : K) (es : List (K × X)) → T (below_all R k es) → find R k es ≡ None
missing R k [] h = refl
missing R k (e ∷ es) h = ap (λ b. cond b (Some e.1) (find R k es)) (lt_apart (R k e.0) (first_of _ _ h)) ∙ missing R k es (second_of _ _ h)

-- some place has a number that some entry has
pub any_found : (n : ℕ) (es : List (Place × ℕ)) → T (is_sorted place_cmp es) → list_any (λ e. e.1 == n) es ≡ true → (q : Place) × (find place_cmp q es ≡ Some n)
any_found n [] sorted e = absurd (cc)
any_found n (x ∷ es) sorted e = by (x.1 == n) refl (any_found n es (second_of _ _ sorted)) e
  where
    by : (b : Bool) → (x.1 == n) ≡ b → (list_any (λ e. e.1 == n) es ≡ true → (q : Place) × (find place_cmp q es ≡ Some n)) → (b || list_any (λ e. e.1 == n) es) ≡ true → (q : Place) × (find place_cmp q (x ∷ es) ≡ Some n)
    by true is rest e = let same : x.1 ≡ n = grind (arith, nat_tests) in (x.0, ap (λ b. cond b (Some x.1) (find place_cmp x.0 es)) (tie_test places_total same_places x.0) ∙ ap Some same)
    by false is rest e =
        let f = rest e in (
          f.0,
          ap (λ b. cond b (Some x.1) (find place_cmp f.0 es)) (apart_test places_total same_places f.0 x.0 (λ s. let bad : Some n ≡ None = sym f.1 ∙ ap (λ q. find place_cmp q es) s ∙ missing place_cmp x.0 es (first_of _ _ sorted) in cc)) ∙ f.1,
        )

pub nameless_test : (t : Tree) → IsTree t → (n : ℕ) → IsNameless t n → is_named t n ≡ false
nameless_test t tree n none = by (is_named t n) refl
  where
    by : (b : Bool) → is_named t n ≡ b → b ≡ false
    by false e = refl
    by true e = absurd (let f = any_found n t.names tree.sorted_names e in none f.0 f.1)

pub test_nameless : (t : Tree) (n : ℕ) → is_named t n ≡ false → IsNameless t n
test_nameless t n e place f = let bad : true ≡ false = sym (some_found place_cmp t.names place n f) ∙ e in cc

-- tests that agree on what is found leave the same
alike : (f g : ℕ → Bool) (es : List (ℕ × Node)) → ((n : ℕ) (x : Node) → find nat_cmp n es ≡ Some x → f n ≡ g n) → filter (λ e. f e.0) es ≡ filter (λ e. g e.0) es
alike f g [] h = refl
alike f g (x ∷ es) h =
    let first : f x.0 ≡ g x.0 = h x.0 x.1 (ap (λ b. cond b (Some x.1) (find nat_cmp x.0 es)) (tie_test nat_cmp_total nat_cmp-IsAntisymmetric x.0)) in
    let later : (n : ℕ) (y : Node) → find nat_cmp n es ≡ Some y → f n ≡ g n = λ n y e. elim (decide_number n x.0) [
      | inl is ↦ ap f is ∙ first ∙ sym (ap g is)
      | inr d ↦ h n y (ap (λ b. cond b (Some x.1) (find nat_cmp n es)) (apart_test nat_cmp_total nat_cmp-IsAntisymmetric n x.0 d) ∙ e)
    ] in
    let rest = alike f g es later in
    λ i. cond (first i) (x ∷ rest i) (rest i)

all_pass : (es : List (ℕ × Node)) → filter (λ e. true) es ≡ es
all_pass [] = refl
all_pass (x ∷ es) = ap (λ xs. x ∷ xs) (all_pass es)

module _ (w : World) (tree : IsTree w.tree) where
  or_open : (n : ℕ) → (IsNameless w.tree n → is_open w.desk n ≡ true) → (is_named w.tree n || is_open w.desk n) ≡ true
  or_open n h = by (is_named w.tree n) refl
    where
      by : (b : Bool) → is_named w.tree n ≡ b → (b || is_open w.desk n) ≡ true
      by true e = refl
      by false e = h (test_nameless w.tree n e)

  pub sweeps_none : AllOpen w → (swept w).tree ≡ w.tree
  sweeps_none opened =
      let kept = alike (λ n. is_named w.tree n || is_open w.desk n) (λ n. true) w.tree.nodes (λ n x e. or_open n (opened n x e)) ∙ all_pass w.tree.nodes in
      λ i. record { names = w.tree.names; nodes = kept i; next = w.tree.next }

  pub sweeps_one : (n : ℕ) → OpenBut w n → IsNameless w.tree n → is_open w.desk n ≡ false → (swept w).tree ≡ without_node w.tree n
  sweeps_one n opened none shut =
      let kept = alike (λ k. is_named w.tree k || is_open w.desk k) (λ k. not (k == n)) w.tree.nodes (λ k x e. elim (decide_number k n) [
        | inl is ↦
            let test : (k == n) ≡ true = grind (arith, nat_tests) in
            ap (λ j. is_named w.tree j || is_open w.desk j) is ∙ (λ i. nameless_test w.tree tree n none i || shut i) ∙ sym (ap not test)
        | inr d ↦
            let test : (k == n) ≡ false = grind (arith, nat_tests) in
            or_open k (opened k x d e) ∙ sym (ap not test)
      ]) in
      λ i. record { names = w.tree.names; nodes = kept i; next = w.tree.next }

-- one entry less
module _ (f : ℕ × Node → ℕ) (n : ℕ) where
  abbrev others : List (ℕ × Node) → List (ℕ × Node)
  others es = filter (λ e. not (e.0 == n)) es

  all_others : (es : List (ℕ × Node)) → find nat_cmp n es ≡ None → others es ≡ es
  all_others es none = alike (λ k. not (k == n)) (λ k. true) es (λ k x e. elim (decide_number k n) [
    | inl is ↦ let bad : Some x ≡ None = sym e ∙ ap (λ j. find nat_cmp j es) is ∙ none in absurd (cc)
    | inr d ↦ let test : (k == n) ≡ false = grind (arith, nat_tests) in ap not test
  ]) ∙ all_pass es

  taken_out : (node : Node) (es : List (ℕ × Node)) → T (is_sorted nat_cmp es) → find nat_cmp n es ≡ Some node → (sum_by f (others es) + f (n, node) ≡ sum_by f es) × (length (others es) + 1 ≡ length es)
  taken_out node [] sorted e = absurd (cc)
  taken_out node (x ∷ es) sorted e = elim (decide_number n x.0) [
    | inl is ↦
        let test : (x.0 == n) ≡ true = grind (arith, nat_tests) in
        let rest : others (x ∷ es) ≡ es = ap (λ b. cond (not b) (x ∷ others es) (others es)) test ∙ all_others es (ap (λ j. find nat_cmp j es) is ∙ missing nat_cmp x.0 es (first_of _ _ sorted)) in
        let value : node ≡ x.1 = same_Some node x.1 (sym e ∙ ap (λ b. cond b (Some x.1) (find nat_cmp n es)) (ap (eq_by_cmp nat_cmp n) (sym is) ∙ tie_test nat_cmp_total nat_cmp-IsAntisymmetric n)) in
        let same : f (n, node) ≡ f x = ap f (λ i. (is i, value i)) in
        let sums = ap (sum_by f) rest in
        let whole = sum_by-cons f x es in
        let long = ap length rest in
        (omega arith, omega arith)
    | inr d ↦
        let test : (x.0 == n) ≡ false = grind (arith, nat_tests) in
        let more = taken_out node es (second_of _ _ sorted) (sym (ap (λ b. cond b (Some x.1) (find nat_cmp n es)) (apart_test nat_cmp_total nat_cmp-IsAntisymmetric n x.0 d)) ∙ e) in
        let rest : others (x ∷ es) ≡ x ∷ others es = ap (λ b. cond (not b) (x ∷ others es) (others es)) test in
        let sums = ap (sum_by f) rest ∙ sum_by-cons f x (others es) in
        let whole = sum_by-cons f x es in
        let long = ap length rest in
        let a = more.0 in
        let b = more.1 in
        (omega arith, omega arith)
  ]

pub frees_nothing : (t : Tree) → Frees t t 0 0
frees_nothing t = record { keys = omega arith; pages = omega arith }

pub frees_node : (t : Tree) → IsTree t → (n : ℕ) (node : Node) → node_of t n ≡ Some node → Frees t (without_node t n) (keys_of node) (chunks_of node)
frees_node t tree n node e =
    let out = taken_out (λ e. chunks_of e.1) n node t.nodes tree.sorted_nodes e in
    record { keys = joined (length (without_node t n).nodes) (chunks (without_node t n)) (chunks_of node) (length t.nodes) (chunks t) out.1 out.0; pages = out.0 }
  where
    joined : (l c d m e : ℕ) → l + 1 ≡ m → c + d ≡ e → 1 + 2 * l + c + (2 + d) ≡ 1 + 2 * m + e
    joined l c d m e p q = omega arith
