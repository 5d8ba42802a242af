-- What is open is there after each kind of change.
use Rattle.std.proofs.Common.{◌≡◌, ℕ, ◌==◌, inl, inr, Bool, true, cond, refl, sym, ◌∙◌, ap, arith, List, Some, None}
use Rattle.std.specs.Ordering.{nat_cmp}
use Rattle.std.specs.FinMap.{find, put}
use Rattle.std.proofs.lemmas.Bool.{or_right}
use Rattle.std.proofs.lemmas.Bool.Decides.{nat_tests}
use Rattle.std.proofs.lemmas.Option.{same_Some}
use Rattle.kfs_model.specs.declared.Description.{Description}
use Rattle.kfs_model.specs.declared.Node.{Node}
use Rattle.kfs_model.specs.declared.Node.TheVariants.{File}
use Rattle.kfs_model.specs.Tree.{Tree, Place, with_new, with_node, is_named, IsTree, node_of}
use Rattle.kfs_model.specs.Desk.{Desk, is_open}
use Rattle.kfs_model.specs.Step.{World, swept}
use Rattle.kfs_laws.specs.Worlds.{WritesFiles}
use Rattle.kfs_laws.proofs.Keeping.{swept_node}
use Rattle.kfs_laws.proofs.Lookups.{number_put, number_other, decide_number, some_passes}
use Rattle.kfs_laws.specs.WholeCalls.{OpensNodes}

-- the node is there, as a file where it may be written
abbrev pub Has : Tree → ℕ → Bool → Type 0
Has t n write = (node : Node) × (node_of t n ≡ Some node) × (write ≡ true → (bytes : List ℕ) × (node ≡ File bytes))

-- so are those of all descriptions
abbrev pub Opens : Tree → Desk → Type 0
Opens t desk = (d : ℕ) (it : Description) → find nat_cmp d desk.descriptions ≡ Some it → Has t it.node it.write

pub opens_of : (w : World) → OpensNodes w → WritesFiles w → Opens w.tree w.desk
opens_of w there files d it e =
    let x = there d it e in
    (x.0, x.1, λ may. let f = files d it e may in (f.0, same_Some x.0 (File f.0) (sym x.1 ∙ f.1)))

pub nodes_of : (w : World) → Opens w.tree w.desk → OpensNodes w
nodes_of w open' d it e = let h = open' d it e in (h.0, h.1)

pub files_of : (w : World) → Opens w.tree w.desk → WritesFiles w
files_of w open' d it e may = let h = open' d it e in let f = h.2 may in (f.0, h.1 ∙ ap Some f.1)

-- ---- the tree changes

-- what was there is there
abbrev pub Carries : Tree → Tree → Type 0
Carries t u = (n : ℕ) (write : Bool) → Has t n write → Has u n write

pub carries_new : (t : Tree) → IsTree t → (place : Place) (node : Node) → Carries t (with_new t place node)
carries_new t tree place node n write h =
    let lt = (tree.numbers n h.0 h.1).1 in
    (h.0, number_other n t.next node t.nodes (λ e. omega arith) ∙ h.1, h.2)

pub new_there : (t : Tree) (place : Place) (node : Node) → node_of (with_new t place node) t.next ≡ Some node
new_there t place node = number_put t.next node t.nodes

pub carries_content : (t : Tree) (n : ℕ) (bytes : List ℕ) → Carries t (with_node t n (File bytes))
carries_content t n bytes k write h = elim (decide_number k n) [
  | inl is ↦ (File bytes, ap (node_of (with_node t n (File bytes))) is ∙ number_put n (File bytes) t.nodes, λ may. (bytes, refl))
  | inr other ↦ (h.0, number_other k n (File bytes) t.nodes other ∙ h.1, h.2)
]

pub carried : (t u : Tree) (desk : Desk) → Carries t u → Opens t desk → Opens u desk
carried t u desk more open' d it e = more it.node it.write (open' d it e)

-- ---- the open files change

-- a description is put, of a node that is there
pub opens_put : (t : Tree) (desk : Desk) (d : ℕ) (new : Description) (after : Desk) → after.descriptions ≡ put nat_cmp d new desk.descriptions → Has t new.node new.write → Opens t desk → Opens t after
opens_put t desk d new after is has open' e it f = elim (decide_number e d) [
  | inl same ↦
      let one : new ≡ it = same_Some new it (sym (ap (λ n. find nat_cmp n (put nat_cmp d new desk.descriptions)) same ∙ number_put d new desk.descriptions) ∙ ap (find nat_cmp e) (sym is) ∙ f) in
      by one
  | inr other ↦ open' e it (sym (number_other e d new desk.descriptions other) ∙ ap (find nat_cmp e) (sym is) ∙ f)
]
  where
    by : new ≡ it → Has t it.node it.write
    by one = (has.0, ap (λ (x : Description). node_of t x.node) (sym one) ∙ has.1, λ may. has.2 (ap (λ (x : Description). x.write) one ∙ may))

-- ---- what nothing names goes

pub opens_swept : (w : World) → Opens w.tree w.desk → Opens (swept w).tree (swept w).desk
opens_swept w open' d it e =
    let h = open' d it e in
    let some = some_passes nat_cmp (λ (x : Description). x.node == it.node) w.desk.descriptions d it e (same_test it.node) in
    let test = or_right (is_named w.tree it.node) (is_open w.desk it.node) some in
    (h.0, swept_node w it.node ∙ ap (λ b. cond b (node_of w.tree it.node) None) test ∙ h.1, h.2)
  where
    same_test : (n : ℕ) → (n == n) ≡ true
    same_test n = grind (arith, nat_tests)
