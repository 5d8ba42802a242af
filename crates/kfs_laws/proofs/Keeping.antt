-- A tree without some nodes that no place names.
use Rattle.std.proofs.Common.{◌≡◌, ℕ, ◌||◌, ◌⊎◌, inl, inr, Bool, true, false, cond, refl, sym, ap, ◌∙◌, List, [], ◌∷◌, Some, None}
use Rattle.std.specs.Ordering.{nat_cmp}
use Rattle.std.specs.List.{filter}
use Rattle.std.specs.FinMap.{nat_cmp-IsAntisymmetric}
use Rattle.std.specs.FinMap.Entries.{is_sorted-where_key, find-where_key}
use Rattle.kfs_model.specs.declared.Node.{Node}
use Rattle.kfs_model.specs.declared.Node.TheVariants.{File}
use Rattle.kfs_model.specs.Tree.{Tree, Place, place_cmp, number_at, node_of, is_named, named, IsTree, IsKept, IsNameless}
use Rattle.kfs_model.specs.Desk.{is_open}
use Rattle.kfs_model.specs.Step
use Rattle.kfs_laws.proofs.Lookups.{some_found, or_left}

filter_again : {X : Type 0} (p : X → Bool) (xs : List X) → filter p (filter p xs) ≡ filter p xs
filter_again p [] = refl
filter_again p (x ∷ xs) =
    let rest = filter_again p xs in
    elim (p x) as (λ b. p x ≡ b → filter p (cond b (x ∷ filter p xs) (filter p xs)) ≡ cond b (x ∷ filter p xs) (filter p xs)) [
      | true ↦ λ e. ap (λ b. cond b (x ∷ filter p (filter p xs)) (filter p (filter p xs))) e ∙ ap (λ ys. x ∷ ys) rest
      | false ↦ λ e. rest
    ] refl

-- what is found where only the nodes stay whose numbers pass
pub node_passes : (t : Tree) (f : ℕ → Bool) (k : ℕ) → node_of (record { names = t.names; nodes = filter (λ e. f e.0) t.nodes; next = t.next }) k ≡ cond (f k) (node_of t k) None
node_passes t f k = find-where_key nat_cmp f k (λ x e. ap f (sym (nat_cmp-IsAntisymmetric k x e))) t.nodes

module _ (t : Tree) (tree : IsTree t) (f : ℕ → Bool) (stays : (place : Place) (n : ℕ) → number_at t place ≡ Some n → f n ≡ true) where
  abbrev now : Tree
  now = record { names = t.names; nodes = filter (λ e. f e.0) t.nodes; next = t.next }

  node_old : (k : ℕ) → f k ≡ true → node_of now k ≡ node_of t k
  node_old k is = node_passes t f k ∙ ap (λ b. cond b (node_of t k) None) is

  node_before : (k : ℕ) (x : Node) → node_of now k ≡ Some x → node_of t k ≡ Some x
  node_before k x e = by (f k) (sym (node_passes t f k) ∙ e)
    where
      by : (b : Bool) → cond b (node_of t k) None ≡ Some x → node_of t k ≡ Some x
      by true e = e
      by false e = absurd (cc)

  pub still_tree : IsTree now
  still_tree = record {
    root = tree.root;
    root_dir = node_old 1 (stays [] 1 tree.root) ∙ tree.root_dir;
    parents = λ q x k e. let m = tree.parents q x k e in (m.0, m.1, node_old m.0 (stays q m.0 m.1) ∙ m.2);
    names = tree.names;
    apart = tree.apart;
    there = λ q k e. let x = tree.there q k e in (x.0, node_old k (stays q k e) ∙ x.1);
    numbers = λ k x e. tree.numbers k x (node_before k x e);
    lengths = λ k b e. tree.lengths k b (node_before k (File b) e);
    sorted_names = tree.sorted_names;
    sorted_nodes = is_sorted-where_key nat_cmp f t.nodes tree.sorted_nodes;
  }

  pub is_kept : IsKept t now
  is_kept = record {
    names = refl;
    next = refl;
    sorted = is_sorted-where_key nat_cmp f t.nodes tree.sorted_nodes;
    nodes = λ k. by k (f k) refl;
  }
    where
      by : (k : ℕ) (b : Bool) → f k ≡ b → (node_of now k ≡ node_of t k) ⊎ (IsNameless t k × (node_of now k ≡ None))
      by k true is = inl (node_old k is)
      by k false is = inr ((λ place e. let bad : true ≡ false = sym (stays place k e) ∙ is in cc), node_passes t f k ∙ ap (λ b. cond b (node_of t k) None) is)

named_stay : (t : Tree) (place : Place) (n : ℕ) → number_at t place ≡ Some n → is_named t n ≡ true
named_stay t place n e = some_found place_cmp t.names place n e

pub named_tree : (t : Tree) → IsTree t → IsTree (named t)
named_tree t tree = still_tree t tree (is_named t) (named_stay t)

pub named_kept : (t : Tree) → IsTree t → IsKept t (named t)
named_kept t tree = is_kept t tree (is_named t) (named_stay t)

pub named_again : (t : Tree) → named (named t) ≡ named t
named_again t = λ i. record { names = t.names; nodes = filter_again (λ e. is_named t e.0) t.nodes i; next = t.next }

-- what is found among the nodes that stay
pub swept_node : (w : Step.World) (n : ℕ) → node_of (Step.swept w).tree n ≡ cond (is_named w.tree n || is_open w.desk n) (node_of w.tree n) None
swept_node w n = node_passes w.tree (λ m. is_named w.tree m || is_open w.desk m) n

swept_stay : (w : Step.World) (place : Place) (n : ℕ) → number_at w.tree place ≡ Some n → (is_named w.tree n || is_open w.desk n) ≡ true
swept_stay w place n e = or_left (is_named w.tree n) (is_open w.desk n) (named_stay w.tree place n e)

pub swept_tree : (w : Step.World) → IsTree w.tree → IsTree (Step.swept w).tree
swept_tree w tree = still_tree w.tree tree (λ n. is_named w.tree n || is_open w.desk n) (swept_stay w)

pub swept_kept : (w : Step.World) → IsTree w.tree → IsKept w.tree (Step.swept w).tree
swept_kept w tree = is_kept w.tree tree (λ n. is_named w.tree n || is_open w.desk n) (swept_stay w)
