-- A new node, and a node's new content, leave a tree.
use Rattle.std.proofs.Common.{◌≡◌, ◌≢◌, ℕ, ◌<◌, ◌≤◌, ◌⊎◌, inl, inr, sym, ◌∙◌, ap, subst, arith, List, [], ◌∷◌, ◌++◌, length, Some, None}
use Rattle.std.specs.Ordering.{nat_cmp}
use Rattle.std.specs.Cmp.{nat_cmp_total}
use Rattle.std.specs.FinMap.Entries.{is_sorted-put}
use Rattle.std.proofs.lemmas.List.{same_from_push}
use Rattle.std.proofs.lemmas.Option.{same_Some}
use Rattle.kfs_model.specs.declared.Node.{Node}
use Rattle.kfs_model.specs.declared.Node.TheVariants.{Dir, File}
use Rattle.kfs_model.specs.Tree.{Place, Name, Tree, with_new, with_node, place_cmp, greatest_length, IsTree, IsName, number_at, node_of}
use Rattle.kfs_laws.proofs.Lookups.{place_put, place_other, number_put, number_other, places_total, decide_place, decide_number, none_some}

-- where a new node goes
pub record IsFreePlace (t : Tree) (place : Place) (name : Name) (p : ℕ) : Type 0 where
  pub at : number_at t place ≡ Some p
  pub dir : node_of t p ≡ Some Dir
  pub free : number_at t (place ++ name ∷ []) ≡ None
  pub named : IsName name

module _ (t : Tree) (tree : IsTree t) (place : Place) (name : Name) (p : ℕ) (spot : IsFreePlace t place name p) (node : Node) (short : (bytes : List ℕ) → node ≡ File bytes → length bytes ≤ greatest_length) where
  abbrev new : Place
  new = place ++ name ∷ []

  abbrev after : Tree
  after = with_new t new node

  pub number_new : number_at after new ≡ Some t.next
  number_new = place_put new t.next t.names

  pub number_old : (q : Place) → q ≢ new → number_at after q ≡ number_at t q
  number_old q d = place_other q new t.next t.names d

  -- what is named was named before, or is new
  pub named_before : (q : Place) (n : ℕ) → number_at after q ≡ Some n → ((q ≡ new) × (n ≡ t.next)) ⊎ ((q ≢ new) × (number_at t q ≡ Some n))
  named_before q n e = elim (decide_place q new) [
    | inl same ↦ inl (same, same_Some n t.next (sym e ∙ ap (number_at after) same ∙ number_new))
    | inr other ↦ inr (other, sym (number_old q other) ∙ e)
  ]

  pub node_new : node_of after t.next ≡ Some node
  node_new = number_put t.next node t.nodes

  pub node_old : (n : ℕ) → n ≢ t.next → node_of after n ≡ node_of t n
  node_old n d = number_other n t.next node t.nodes d

  pub below : (n : ℕ) (x : Node) → node_of t n ≡ Some x → n ≢ t.next
  below n x e same = let h = (tree.numbers n x e).1 in absurd (omega arith)

  pub named_below : (q : Place) (n : ℕ) → number_at t q ≡ Some n → n < t.next
  named_below q n e = let x = tree.there q n e in (tree.numbers n x.0 x.1).1

  node_kept : (n : ℕ) (x : Node) → node_of t n ≡ Some x → node_of after n ≡ Some x
  node_kept n x e = node_old n (below n x e) ∙ e

  root_old : [] ≢ new
  root_old e = none_some _ 1 (ap (number_at t) e ∙ spot.free) tree.root

  pub new_tree : IsTree after
  new_tree = record {
    root = number_old [] root_old ∙ tree.root;
    root_dir = node_kept 1 Dir tree.root_dir;
    parents = λ q x n e. elim (named_before (q ++ x ∷ []) n e) [
      | inl (is, _) ↦ let f = (same_from_push q place x name is).0 in (p, number_old q (λ g. none_some _ p (sym (ap (number_at t) f) ∙ ap (number_at t) g ∙ spot.free) spot.at) ∙ ap (number_at t) f ∙ spot.at, node_kept p Dir spot.dir)
      | inr (_, was) ↦ let m = tree.parents q x n was in (m.0, number_old q (λ g. none_some _ m.0 (ap (number_at t) g ∙ spot.free) m.1) ∙ m.1, node_kept m.0 Dir m.2)
    ];
    names = λ q x n e. elim (named_before (q ++ x ∷ []) n e) [
      | inl (is, _) ↦ subst IsName (sym (same_from_push q place x name is).1) spot.named
      | inr (_, was) ↦ tree.names q x n was
    ];
    apart = λ q r n e f. elim (named_before q n e) [
      | inl (is, new_q) ↦ elim (named_before r n f) [
        | inl (js, new_r) ↦ is ∙ sym js
        | inr (_, was) ↦ let low = named_below r n was in absurd (omega arith)
      ]
      | inr (_, was) ↦ elim (named_before r n f) [
        | inl (js, new_r) ↦ let low = named_below q n was in absurd (omega arith)
        | inr (_, has) ↦ tree.apart q r n was has
      ]
    ];
    there = λ q n e. elim (named_before q n e) [
      | inl (_, is) ↦ (node, ap (node_of after) is ∙ node_new)
      | inr (_, was) ↦ let x = tree.there q n was in (x.0, node_kept n x.0 x.1)
    ];
    numbers = λ n x e. elim (decide_number n t.next) [
      | inl is ↦ let low = (tree.numbers 1 Dir tree.root_dir).1 in (omega arith, omega arith)
      | inr other ↦ let h = tree.numbers n x (sym (node_old n other) ∙ e) in (h.0, omega arith)
    ];
    lengths = λ n bytes e. elim (decide_number n t.next) [
      | inl is ↦ short bytes (same_Some _ _ (sym node_new ∙ sym (ap (node_of after) is) ∙ e))
      | inr other ↦ tree.lengths n bytes (sym (node_old n other) ∙ e)
    ];
    sorted_names = is_sorted-put place_cmp places_total new t.next t.names tree.sorted_names;
    sorted_nodes = is_sorted-put nat_cmp nat_cmp_total t.next node t.nodes tree.sorted_nodes;
  }

module _ (t : Tree) (tree : IsTree t) (n : ℕ) (was bytes : List ℕ) (file : node_of t n ≡ Some (File was)) where
  abbrev now : Tree
  now = with_node t n (File bytes)

  pub node_here : node_of now n ≡ Some (File bytes)
  node_here = number_put n (File bytes) t.nodes

  pub node_other : (k : ℕ) → k ≢ n → node_of now k ≡ node_of t k
  node_other k d = number_other k n (File bytes) t.nodes d

  dir_kept : (k : ℕ) → node_of t k ≡ Some Dir → node_of now k ≡ Some Dir
  dir_kept k dir = node_other k (λ e. let bad : Some Dir ≡ Some (File was) = sym dir ∙ ap (node_of t) e ∙ file in absurd (cc)) ∙ dir

  -- a node was there before
  pub node_before : (k : ℕ) (x : Node) → node_of now k ≡ Some x → (y : Node) × (node_of t k ≡ Some y)
  node_before k x e = elim (decide_number k n) [
    | inl is ↦ (File was, ap (node_of t) is ∙ file)
    | inr other ↦ (x, sym (node_other k other) ∙ e)
  ]

  pub content_tree : length bytes ≤ greatest_length → IsTree now
  content_tree short = record {
    root = tree.root;
    root_dir = dir_kept 1 tree.root_dir;
    parents = λ q x k e. let m = tree.parents q x k e in (m.0, m.1, dir_kept m.0 m.2);
    names = tree.names;
    apart = tree.apart;
    there = λ q k e. elim (decide_number k n) [
      | inl is ↦ (File bytes, ap (node_of now) is ∙ node_here)
      | inr other ↦ let x = tree.there q k e in (x.0, node_other k other ∙ x.1)
    ];
    numbers = λ k x e. let y = node_before k x e in tree.numbers k y.0 y.1;
    lengths = λ k b e. elim (decide_number k n) [
      | inl is ↦ let same : File bytes ≡ File b = same_Some _ _ (sym (ap (node_of now) is ∙ node_here) ∙ e) in let f : bytes ≡ b = cc in subst (λ l. length l ≤ greatest_length) f short
      | inr other ↦ tree.lengths k b (sym (node_other k other) ∙ e)
    ];
    sorted_names = tree.sorted_names;
    sorted_nodes = is_sorted-put nat_cmp nat_cmp_total n (File bytes) t.nodes tree.sorted_nodes;
  }
