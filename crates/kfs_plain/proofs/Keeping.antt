-- What is kept of the tables after each kind of change.
use Rattle.std.proofs.Common.{◌≡◌, ℕ, ◌+◌, ◌*◌, ◌≤◌, ◌||◌, Bool, true, false, cond, T, List, [], ◌∷◌, sum_by, filter, Option, Some, None, refl, ap, sym, subst, ◌∙◌, arith, eqb}
use Rattle.std.specs.Prelude.{IsSome}
use Rattle.std.specs.Ordering.{is_eq, nat_cmp}
use Rattle.std.specs.FinMap.{find, put, is_sorted}
use Rattle.std.proofs.lemmas.Bool.Decides.{nat_tests}
use Rattle.kfs_model.specs.declared.Node.{Node}
use Rattle.kfs_model.specs.declared.Node.TheVariants.{Dir, File}
use Rattle.kfs_model.specs.declared.Description.{Description}
use Rattle.kfs_model.specs.Tree.{Tree, Place, Limits, charge, chunks, chunks_of, with_new, with_node, is_named, node_of}
use Rattle.kfs_model.specs.Desk.{Desk, is_open}
use Rattle.kfs_model.specs.Step.{World, swept}
use Rattle.std.proofs.lemmas.List.Sums.{sum_by-cons}
use Rattle.kfs_plain.specs.Plain.{bytes_in}
use Rattle.kfs_plain.specs.declared.tables.Tables.{Tables}
use Rattle.kfs_plain.specs.Tables.{IsSound, IsKept, world_of, limits_of}
use Rattle.kfs_plain.proofs.Entries.{sum_by-put_new, length-put_new, Lacks-put, IsSome-find_put, find-put_nat, find-filter, sum_by-filter_le, length-filter_le, list_any-found}

-- a new node that takes no chunk
pub chunks-with_new : (t : Tree) (place : Place) (node : Node) → node_of t t.next ≡ None → chunks_of node ≡ 0 → chunks (with_new t place node) ≡ chunks t
chunks-with_new t place node none empty = let more = sum_by-put_new (λ (e : ℕ × Node). chunks_of e.1) nat_cmp t.next node t.nodes none in omega arith

pub charge-with_new : (t : Tree) (place : Place) (node : Node) → node_of t t.next ≡ None → chunks_of node ≡ 0 → charge (with_new t place node) ≡ charge t + 2
charge-with_new t place node none empty =
    let more = chunks-with_new t place node none empty in
    let longer = length-put_new nat_cmp t.next node t.nodes none in
    omega arith

pub sound-with_new : (k : Limits) (w : World) (place : Place) (node : Node) → IsSound k w → chunks_of node ≡ 0 → charge w.tree + 2 ≤ k.keys → IsSound k (record { tree = with_new w.tree place node; desk = w.desk })
sound-with_new k w place node s empty room =
    let none : node_of w.tree w.tree.next ≡ None = s.free w.tree.next (omega arith) in
    let more = charge-with_new w.tree place node none empty in
    record {
      few = s.few;
      within = omega arith;
      free = λ n le. Lacks-put n w.tree.next node w.tree.nodes (omega arith) (s.free n (omega arith));
      there = λ d it e. IsSome-find_put it.node w.tree.next node w.tree.nodes (s.there d it e);
      rising = s.rising;
    }

not_there : (n next : ℕ) (nodes : List (ℕ × Node)) → ((m : ℕ) → next ≤ m → find nat_cmp m nodes ≡ None) → IsSome (find nat_cmp n nodes) → next ≤ n → ⊥
not_there n next nodes free there le = let gone : IsSome {T = Node} None = subst IsSome (free n le) there in absurd (cc)

apart_put : (m n : ℕ) (node : Node) (nodes : List (ℕ × Node)) (next : ℕ) → next ≤ m → (next ≤ n → ⊥) → find nat_cmp m nodes ≡ None → find nat_cmp m (put nat_cmp n node nodes) ≡ None
apart_put m n node nodes next le apart none = find-put_nat m n node nodes ∙ grind (arith, nat_tests, none, apart)

pub sound-with_node : (k : Limits) (w : World) (n : ℕ) (node : Node) → IsSound k w → IsSome (node_of w.tree n) → charge (with_node w.tree n node) ≤ k.keys + 3 → IsSound k (record { tree = with_node w.tree n node; desk = w.desk })
sound-with_node k w n node s there room = record {
  few = s.few;
  within = room;
  free = λ m le. apart_put m n node w.tree.nodes w.tree.next le (not_there n w.tree.next w.tree.nodes s.free there) (s.free m le);
  there = λ d it e. IsSome-find_put it.node n node w.tree.nodes (s.there d it e);
  rising = s.rising;
}

cond_none : {X : Type 0} (b : Bool) (o : Option X) → o ≡ None → cond b o None ≡ None
cond_none true o e = e
cond_none false o e = refl

cond_kept : {X : Type 0} (b : Bool) (o : Option X) → b ≡ true → IsSome o → IsSome (cond b o None)
cond_kept true o e h = h
cond_kept false o e h = absurd (cc)

or_right : (a b : Bool) → b ≡ true → (a || b) ≡ true
or_right true b e = refl
or_right false b e = e

same_number : (n : ℕ) → eqb n n ≡ true
same_number n = grind (arith, nat_tests)

abbrev stays : World → ℕ → Bool
stays w n = is_named w.tree n || is_open w.desk n

pub sound-swept : (k : Limits) (w : World) → IsSound k w → IsSound k (swept w)
sound-swept k w s =
    let fewer = length-filter_le (λ (e : ℕ × Node). stays w e.0) w.tree.nodes in
    let less = sum_by-filter_le (λ (e : ℕ × Node). chunks_of e.1) (λ e. stays w e.0) w.tree.nodes in
    let within = s.within in
    record {
      few = s.few;
      within = omega arith;
      free = λ n le. find-filter (stays w) n w.tree.nodes ∙ cond_none (stays w n) (find nat_cmp n w.tree.nodes) (s.free n le);
      there = λ d it e.
          subst IsSome (sym (find-filter (stays w) it.node w.tree.nodes))
          (cond_kept (stays w it.node) (find nat_cmp it.node w.tree.nodes)
          (or_right (is_named w.tree it.node) (is_open w.desk it.node) (list_any-found (λ (f : Description). eqb f.node it.node) d it w.desk.descriptions e (same_number it.node)))
          (s.there d it e));
      rising = s.rising;
    }

-- another desk whose nodes are there
pub sound-desk : (k : Limits) (w : World) (desk : Desk) → IsSound k w → ((d : ℕ) (it : Description) → find nat_cmp d desk.descriptions ≡ Some it → IsSome (node_of w.tree it.node)) → T (is_sorted nat_cmp desk.descriptions) → IsSound k (record { tree = w.tree; desk = desk })
sound-desk k w desk s there rising = record { few = s.few; within = s.within; free = s.free; there = there; rising = rising }

there_cond : (w : World) (b : Bool) (new it : Description) (o : Option Description) → IsSome (node_of w.tree new.node) → (o ≡ Some it → IsSome (node_of w.tree it.node)) → cond b (Some new) o ≡ Some it → IsSome (node_of w.tree it.node)
there_cond w true new it o there old e = let same : new ≡ it = cc in subst (λ (x : Description). IsSome (node_of w.tree x.node)) same there
there_cond w false new it o there old e = old e

-- a description whose node is there
pub there-put : (k : Limits) (w : World) (number : ℕ) (new : Description) → IsSound k w → IsSome (node_of w.tree new.node) → (d : ℕ) (it : Description) → find nat_cmp d (put nat_cmp number new w.desk.descriptions) ≡ Some it → IsSome (node_of w.tree it.node)
there-put k w number new s there d it e = there_cond w (is_eq (nat_cmp d number)) new it (find nat_cmp d w.desk.descriptions) there (s.there d it) (sym (find-put_nat d number new w.desk.descriptions) ∙ e)

cond_some : {X : Type 0} (b : Bool) (o : Option X) (x : X) → cond b o None ≡ Some x → o ≡ Some x
cond_some true o x e = e
cond_some false o x e = absurd (cc)

-- fewer descriptions
pub there-filter : (k : Limits) (w : World) (p : ℕ → Bool) → IsSound k w → (d : ℕ) (it : Description) → find nat_cmp d (filter (λ e. p e.0) w.desk.descriptions) ≡ Some it → IsSome (node_of w.tree it.node)
there-filter k w p s d it e = s.there d it (cond_some (p d) (find nat_cmp d w.desk.descriptions) it (sym (find-filter p d w.desk.descriptions) ∙ e))

-- the tables that show a world, and count its chunks
pub kept_at : (t : Tables) (w : World) → world_of t ≡ w → t.files.chunks ≡ chunks w.tree → IsSound (limits_of t) w → IsKept t
kept_at t w is count s = record {
  counted = count ∙ ap (λ (v : World). chunks v.tree) (sym is);
  sound = subst (IsSound (limits_of t)) (sym is) s;
}

bytes_in-le : (node : Node) → bytes_in node ≤ 4096 * chunks_of node
bytes_in-le Dir = omega arith
bytes_in-le (File bytes) = omega arith

-- a file has no more bytes than its chunks
pub bytes-le : (es : List (ℕ × Node)) → sum_by (λ e. bytes_in e.1) es ≤ 4096 * sum_by (λ e. chunks_of e.1) es
bytes-le [] = omega arith
bytes-le (e ∷ es) =
    let rest = bytes-le es in
    let here = bytes_in-le e.1 in
    let a = sum_by-cons (λ (e : ℕ × Node). bytes_in e.1) e es in
    let b = sum_by-cons (λ (e : ℕ × Node). chunks_of e.1) e es in
    omega arith
