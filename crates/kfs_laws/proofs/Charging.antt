-- The charge and the chunks after each kind of change.
use Rattle.std.proofs.Common.{◌≡◌, ℕ, suc, ◌+◌, ◌*◌, ◌||◌, not, cond, refl, arith, List, [], ◌∷◌, length, sum_by, Option, Some, None}
use Rattle.std.specs.Ordering.{nat_cmp, is_eq}
use Rattle.std.specs.declared.cmp.Ordering.{Ordering}
use Rattle.std.specs.declared.cmp.Ordering.TheVariants.{Less, Equal, Greater}
use Rattle.std.specs.FinMap.{find, put}
use Rattle.std.specs.FinMap.Entries.{by_order}
use Rattle.std.proofs.lemmas.List.Sums.{sum_by-cons}
use Rattle.std.proofs.lemmas.List.Filters.{sum_by-filter_both, length-filter_both}
use Rattle.kfs_model.specs.declared.Node.{Node}
use Rattle.kfs_model.specs.declared.Node.TheVariants.{File}
use Rattle.kfs_model.specs.Tree.{Tree, Place, charge, chunks, chunks_of, with_new, with_node, IsTree, node_of, is_named}
use Rattle.kfs_model.proofs.Fits.{charge_written}
use Rattle.kfs_model.specs.Desk.{is_open}
use Rattle.kfs_model.specs.Step
use Rattle.kfs_laws.specs.Laws.{unreached}
use Rattle.kfs_laws.proofs.Lookups.{length_put}

-- an entry under a number that has none adds itself
added : (f : ℕ × Node → ℕ) (n : ℕ) (v : Node) (es : List (ℕ × Node)) → find nat_cmp n es ≡ None → (sum_by f (put nat_cmp n v es) ≡ sum_by f es + f (n, v)) × (length (put nat_cmp n v es) ≡ length es + 1)
added f n v [] e = (let a = sum_by-cons f (n, v) [] in let s : sum_by f ((n, v) ∷ []) ≡ sum_by f [] + f (n, v) = omega arith in s, refl)
added f n v (x ∷ es) e = by (nat_cmp n x.0) (added f n v es) e
  where
    by : (r : Ordering) → (find nat_cmp n es ≡ None → (sum_by f (put nat_cmp n v es) ≡ sum_by f es + f (n, v)) × (length (put nat_cmp n v es) ≡ length es + 1)) → cond (is_eq r) (Some x.1) (find nat_cmp n es) ≡ None
        → (sum_by f (by_order r ((n, v) ∷ x ∷ es) ((x.0, v) ∷ es) (x ∷ put nat_cmp n v es)) ≡ sum_by f (x ∷ es) + f (n, v)) × (length (by_order r ((n, v) ∷ x ∷ es) ((x.0, v) ∷ es) (x ∷ put nat_cmp n v es)) ≡ length (x ∷ es) + 1)
    by Less rest e = (let a = sum_by-cons f (n, v) (x ∷ es) in let s : sum_by f ((n, v) ∷ x ∷ es) ≡ sum_by f (x ∷ es) + f (n, v) = omega arith in s, let l : suc (suc (length es)) ≡ suc (length es) + 1 = omega arith in l)
    by Equal rest e = absurd (cc)
    by Greater rest e =
        let t = rest e in
        let t0 = t.0 in
        let t1 = t.1 in
        let a = sum_by-cons f x (put nat_cmp n v es) in
        let b = sum_by-cons f x es in
        (let s : sum_by f (x ∷ put nat_cmp n v es) ≡ sum_by f (x ∷ es) + f (n, v) = omega arith in s, let l : suc (length (put nat_cmp n v es)) ≡ suc (length es) + 1 = omega arith in l)

no_node : (t : Tree) → IsTree t → node_of t t.next ≡ None
no_node t tree = by (node_of t t.next) refl
  where
    by : (o : Option Node) → node_of t t.next ≡ o → o ≡ None
    by None e = refl
    by (Some x) e = let h = (tree.numbers t.next x e).1 in absurd (omega arith)

pub chunks_new : (t : Tree) (place : Place) (node : Node) → IsTree t → chunks (with_new t place node) ≡ chunks t + chunks_of node
chunks_new t place node tree = (added (λ e. chunks_of e.1) t.next node t.nodes (no_node t tree)).0

pub charge_new : (t : Tree) (place : Place) (node : Node) → IsTree t → charge (with_new t place node) ≡ charge t + 2 + chunks_of node
charge_new t place node tree =
    let sums = chunks_new t place node tree in
    let many : length (put nat_cmp t.next node t.nodes) ≡ length t.nodes + 1 = (added (λ e. chunks_of e.1) t.next node t.nodes (no_node t tree)).1 in
    let s : 1 + 2 * length (put nat_cmp t.next node t.nodes) + chunks (with_new t place node) ≡ 1 + 2 * length t.nodes + chunks t + 2 + chunks_of node = omega arith in s

pub charge_content : (t : Tree) (n : ℕ) (was bytes : List ℕ) → IsTree t → node_of t n ≡ Some (File was) → charge (with_node t n (File bytes)) + chunks_of (File was) ≡ charge t + chunks_of (File bytes)
charge_content t n was bytes tree e = charge_written t n was bytes tree.sorted_nodes e

pub chunks_content : (t : Tree) (n : ℕ) (was bytes : List ℕ) → IsTree t → node_of t n ≡ Some (File was) → chunks (with_node t n (File bytes)) + chunks_of (File was) ≡ chunks t + chunks_of (File bytes)
chunks_content t n was bytes tree e =
    let all : 1 + 2 * length (with_node t n (File bytes)).nodes + chunks (with_node t n (File bytes)) + chunks_of (File was) ≡ 1 + 2 * length t.nodes + chunks t + chunks_of (File bytes) = charge_content t n was bytes tree e in
    let many : length (with_node t n (File bytes)).nodes ≡ length t.nodes = length_put n (File bytes) (File was) t.nodes tree.sorted_nodes e in
    rest _ _ _ _ _ _ all many
  where
    rest : (l c a m d z : ℕ) → 1 + 2 * l + c + a ≡ 1 + 2 * m + d + z → l ≡ m → c + a ≡ d + z
    rest l c a m d z all many = omega arith

-- the nodes that neither a place nor a description names
pub chunks_swept : (w : Step.World) → chunks (Step.swept w).tree + sum_by (λ e. chunks_of e.1) (unreached w) ≡ chunks w.tree
chunks_swept w = sum_by-filter_both (λ (e : ℕ × Node). is_named w.tree e.0 || is_open w.desk e.0) (λ (e : ℕ × Node). not (is_named w.tree e.0 || is_open w.desk e.0)) (λ e. refl) (λ e. chunks_of e.1) w.tree.nodes

pub charge_swept : (w : Step.World) → charge (Step.swept w).tree + (2 * length (unreached w) + sum_by (λ e. chunks_of e.1) (unreached w)) ≡ charge w.tree
charge_swept w = joined (length (Step.swept w).tree.nodes) (chunks (Step.swept w).tree) (length (unreached w)) (sum_by (λ e. chunks_of e.1) (unreached w)) (length w.tree.nodes) (chunks w.tree) many (chunks_swept w)
  where
    many : length (Step.swept w).tree.nodes + length (unreached w) ≡ length w.tree.nodes
    many = length-filter_both (λ (e : ℕ × Node). is_named w.tree e.0 || is_open w.desk e.0) (λ (e : ℕ × Node). not (is_named w.tree e.0 || is_open w.desk e.0)) (λ e. refl) w.tree.nodes

    joined : (l c m d n e : ℕ) → l + m ≡ n → c + d ≡ e → 1 + 2 * l + c + (2 * m + d) ≡ 1 + 2 * n + e
    joined l c m d n e p q = omega arith
