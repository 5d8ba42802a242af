-- What is open, and what is known of it, as nodes lose their names.
use Rattle.std.proofs.Common.{◌≡◌, ◌≢◌, ℕ, ◌<◌, ◌^◌, ◌==◌, ◌||◌, ◌&&◌, inl, inr, true, false, cond, not, Bool, refl, sym, ◌∙◌, ap, subst, arith, List, [], ◌∷◌, map, T, Option, Some, None}
use Rattle.std.specs.Ordering.{nat_cmp, is_lt, eq_by_cmp}
use Rattle.std.specs.List.{list_any}
use Rattle.std.specs.Str.{bytes_eq}
use Rattle.std.specs.Option.{option_map}
use Rattle.std.specs.FinMap.{find, is_sorted, nat_cmp-IsAntisymmetric}
use Rattle.std.specs.FinMap.Entries.{below_all, find-where_key}
use Rattle.std.proofs.lemmas.Bool.Decides.{nat_tests}
use Rattle.std.proofs.lemmas.Slice.Eq.{bytes_eq-Decides}
use Rattle.std.proofs.lemmas.Option.{same_Some}
use Rattle.kfs_objects.specs.Keys.{be64}
use Rattle.kfs_objects.proofs.KeyLaws.{same64}
use Rattle.kfs_model.specs.declared.Node.{Node}
use Rattle.kfs_model.specs.declared.Description.{Description}
use Rattle.kfs_model.specs.Tree.{Tree, Place, node_of, is_named, without_place, IsTree}
use Rattle.kfs_model.specs.Desk.{Desk, is_open}
use Rattle.kfs_model.specs.Step.{swept}
use Rattle.kfs_laws.specs.Worlds.{IsDesk}
use Rattle.kfs_laws.proofs.Lookups.{decide_number, number_apart, number_tied}
use Rattle.kfs_shows.proofs.StillNamed.{swept_open}
use Rattle.kfs_core.specs.declared.removing.Leaf.{Leaf}
use Rattle.kfs_core.specs.Removing.{is_open_in}
use Rattle.kfs_core.proofs.RemovingJudges.{IsLeaf}
use Rattle.kfs_core.proofs.NamesAfter.{leaf_others, leaf_nameless}
use Rattle.kfs_core.proofs.Ways.{bytes_eq_refl}
use Rattle.kfs_posix.specs.declared.open_files.OpenFile.{OpenFile}
use Rattle.kfs_posix.specs.Opens.{Opens, desk_of, nodes_of, unnamed, without_name}
use Rattle.kfs_posix.specs.Holding.{Holds, Knows}
use Rattle.kfs_posix.proofs.Maps.{mapped, find-map}
use Rattle.kfs_posix.proofs.Held.{world_in, description}

pub both_of : (a b : Bool) → T (a && b) → T a × T b
both_of true b h = (tt, h)
both_of false b h = absurd h

-- no key is below itself
pub below_none : {X : Type 0} (k : ℕ) (es : List (ℕ × X)) → T (below_all nat_cmp k es) → find nat_cmp k es ≡ None
below_none k [] h = refl
below_none k (x ∷ es) h =
    let parts = both_of (is_lt (nat_cmp k x.0)) (below_all nat_cmp k es) h in
    elim (decide_number k x.0) [
      | inl is ↦ absurd (let t : is_lt (nat_cmp k x.0) ≡ false = grind (arith, nat_tests) in subst T t parts.0)
      | inr apart ↦ ap (λ b. cond b (Some x.1) (find nat_cmp k es)) (number_apart k x.0 apart) ∙ below_none k es parts.1
    ]

-- sorted by the same keys
below_mapped : {A B : Type 0} (f : A → B) (k : ℕ) (es : List (ℕ × A)) → below_all nat_cmp k (mapped f es) ≡ below_all nat_cmp k es
below_mapped f k [] = refl
below_mapped f k (x ∷ es) = ap (λ b. is_lt (nat_cmp k x.0) && b) (below_mapped f k es)

pub sorted_mapped : {A B : Type 0} (f : A → B) (es : List (ℕ × A)) → is_sorted nat_cmp (mapped f es) ≡ is_sorted nat_cmp es
sorted_mapped f [] = refl
sorted_mapped f (x ∷ es) = λ i. below_mapped f x.0 es i && sorted_mapped f es i

-- ---- the list of open nodes

from_eq : (a b : List ℕ) → bytes_eq a b ≡ true → a ≡ b
from_eq a b e = (bytes_eq-Decides a b).0 e

bytes_same : (n m : ℕ) → n < 2 ^ 64 → m < 2 ^ 64 → bytes_eq (be64 n) (be64 m) ≡ (n == m)
bytes_same n m a b = elim (decide_number n m) [
  | inl is ↦ let t : (n == m) ≡ true = grind (arith, nat_tests) in ap (λ k. bytes_eq (be64 n) (be64 k)) (sym is) ∙ bytes_eq_refl (be64 n) ∙ sym t
  | inr apart ↦ let t : (n == m) ≡ false = grind (arith, nat_tests) in by (bytes_eq (be64 n) (be64 m)) refl apart ∙ sym t
]
  where
    by : (c : Bool) → bytes_eq (be64 n) (be64 m) ≡ c → n ≢ m → c ≡ false
    by true e d = absurd (d (same64 n m a b (from_eq (be64 n) (be64 m) e)))
    by false e d = refl

same_any : (n : ℕ) → n < 2 ^ 64 → (es : List (ℕ × OpenFile)) → T (is_sorted nat_cmp es) → ((d : ℕ) (f : OpenFile) → find nat_cmp d es ≡ Some f → f.it.node < 2 ^ 64)
    → list_any (λ x. bytes_eq x (be64 n)) (map (λ (e : ℕ × OpenFile). be64 e.1.it.node) es) ≡ list_any (λ e. e.1.node == n) (mapped description es)
same_any n low [] sorted small = refl
same_any n low (x ∷ es) sorted small =
    let parts = both_of (below_all nat_cmp x.0 es) (is_sorted nat_cmp es) sorted in
    let first = small x.0 x.1 (ap (λ b. cond b (Some x.1) (find nat_cmp x.0 es)) (number_tied x.0)) in
    let rest = same_any n low es parts.1 (λ d f e. elim (decide_number d x.0) [
      | inl is ↦ absurd (let bad : None ≡ Some f = sym (below_none x.0 es parts.0) ∙ ap (λ k. find nat_cmp k es) (sym is) ∙ e in cc)
      | inr apart ↦ small d f (ap (λ b. cond b (Some x.1) (find nat_cmp d es)) (number_apart d x.0 apart) ∙ e)
    ]) in
    λ i. bytes_same x.1.it.node n first low i || rest i

-- the list has the nodes that are open
pub listed_same : (o : Opens) (t : Tree) → IsTree t → t.next < 2 ^ 63 → Holds o t → (n : ℕ) → n < 2 ^ 64 → is_open_in (nodes_of o) n ≡ is_open (desk_of o) n
listed_same o t tree low holds n small = same_any n small o.files (subst T (sorted_mapped description o.files) holds.desk.sorted_descriptions) (λ d f e.
    let knows = holds.known d f e in
    let h = (tree.numbers f.it.node knows.node knows.there).1 in
    omega arith)

-- ---- without a name

-- which description has which node doesn't change
pub forgets : (o : Opens) (n : ℕ) → desk_of (without_name o n) ≡ desk_of o
forgets o n = λ i. record { descriptors = o.descriptors; descriptions = by o.files i }
  where
    by : (es : List (ℕ × OpenFile)) → mapped description (mapped (λ f. unnamed f n) es) ≡ mapped description es
    by [] = refl
    by (x ∷ es) = ap (λ xs. (x.0, x.1.it) ∷ xs) (by es)

pub some_any : {X : Type 0} (p : X → Bool) (d : ℕ) (x : X) (es : List (ℕ × X)) → find nat_cmp d es ≡ Some x → p x ≡ true → list_any (λ e. p e.1) es ≡ true
some_any p d x [] e t = absurd (cc)
some_any {X} p d x (y ∷ es) e t = elim (decide_number d y.0) [
  | inl is ↦
      let k : Some y.1 ≡ Some x = sym (ap (λ b. cond b (Some y.1) (find nat_cmp d es)) (ap (λ q. eq_by_cmp nat_cmp d q) (sym is) ∙ number_tied d)) ∙ e in
      ap (λ b. b || list_any (λ e. p e.1) es) (ap p (same_Some y.1 x k) ∙ t)
  | inr apart ↦ later (p y.1) (some_any p d x es (sym (ap (λ b. cond b (Some y.1) (find nat_cmp d es)) (number_apart d y.0 apart)) ∙ e) t)
]
  where
    later : (a : Bool) → list_any (λ e. p e.1) es ≡ true → (a || list_any (λ e. p e.1) es) ≡ true
    later true h = refl
    later false h = h

-- what a description has is open
pub open_is : (o : Opens) (d : ℕ) (f : OpenFile) → find nat_cmp d o.files ≡ Some f → is_open (desk_of o) f.it.node ≡ true
open_is o d f e = some_any (λ (it : Description). it.node == f.it.node) d f.it (mapped description o.files) (find-map description d o.files ∙ ap (option_map description) e) (let n = f.it.node in let t : (n == n) ≡ true = grind (arith, nat_tests) in t)

-- a node that is left without a name is open
pub swept_kept : (u : Tree) (desk : Desk) (n : ℕ) (node : Node) → node_of (swept (record { tree = u; desk = desk })).tree n ≡ Some node → is_named u n ≡ false → is_open desk n ≡ true
swept_kept u desk n node there none = by (is_named u n) (is_open desk n) none (sym (find-where_key nat_cmp (λ k. is_named u k || is_open desk k) n (λ x e. ap (λ k. is_named u k || is_open desk k) (sym (nat_cmp-IsAntisymmetric n x e))) u.nodes) ∙ there)
  where
    by : (a b : Bool) → a ≡ false → cond (a || b) (node_of u n) None ≡ Some node → b ≡ true
    by true b none e = absurd (cc)
    by false true none e = refl
    by false false none e = absurd (cc)

-- a node that was known stays while it is open
pub swept_knows : (t u : Tree) (o : Opens) (f : OpenFile) (named : Bool) → u.nodes ≡ t.nodes → Knows t f → is_open (desk_of o) f.it.node ≡ true → named ≡ is_named u f.it.node → Knows (swept (world_in u o)).tree (record f { named = named })
swept_knows t u o f named same knows opened is = record {
  node = knows.node;
  there = swept_open (world_in u o) f.it.node opened ∙ ap (λ es. find nat_cmp f.it.node es) same ∙ knows.there;
  kind = knows.kind;
  length = knows.length;
  named = is;
  writes = knows.writes;
  low = knows.low;
}

-- the node n alone lost its name
pub forgets_holds : (t u : Tree) (o : Opens) (n : ℕ) → u.nodes ≡ t.nodes → ((k : ℕ) → k ≢ n → is_named u k ≡ is_named t k) → is_named u n ≡ false → Holds o t → Holds (without_name o n) (swept (world_in u o)).tree
forgets_holds t u o n nodes others none holds = record {
  desk = subst IsDesk (sym (forgets o n)) holds.desk;
  known = λ d f e. by d f (find nat_cmp d o.files) refl (sym (find-map (λ f. unnamed f n) d o.files) ∙ e);
  kept = λ k node there unnamed. ap (λ (desk : Desk). is_open desk k) (forgets o n) ∙ swept_kept u (desk_of o) k node there unnamed;
}
  where
    named : (f : OpenFile) → f.named ≡ is_named t f.it.node → (f.named && not (f.it.node == n)) ≡ is_named u f.it.node
    named f is = elim (decide_number f.it.node n) [
      | inl same ↦
          let q : (f.it.node == n) ≡ true = let k = f.it.node in grind (arith, nat_tests) in
          ap (λ b. f.named && not b) q ∙ no f.named ∙ sym none ∙ ap (is_named u) (sym same)
      | inr apart ↦
          let q : (f.it.node == n) ≡ false = let k = f.it.node in grind (arith, nat_tests) in
          ap (λ b. f.named && not b) q ∙ yes f.named ∙ is ∙ sym (others f.it.node apart)
    ]
      where
        no : (b : Bool) → (b && false) ≡ false
        no true = refl
        no false = refl

        yes : (b : Bool) → (b && true) ≡ b
        yes true = refl
        yes false = refl

    by : (d : ℕ) (g : OpenFile) (x : Option OpenFile) → find nat_cmp d o.files ≡ x → option_map (λ f. unnamed f n) x ≡ Some g → Knows (swept (world_in u o)).tree g
    by d g None is e = absurd (cc)
    by d g (Some f) is e =
        let knows = holds.known d f is in
        subst (Knows (swept (world_in u o)).tree) (same_Some (unnamed f n) g e) (swept_knows t u o f (f.named && not (f.it.node == n)) nodes knows (open_is o d f is) (named f knows.named))

-- no name is lost
pub keeps_holds : (t u : Tree) (o : Opens) → u.nodes ≡ t.nodes → ((k : ℕ) → is_named u k ≡ is_named t k) → Holds o t → Holds o (swept (world_in u o)).tree
keeps_holds t u o nodes same holds = record {
  desk = holds.desk;
  known = λ d f is. let knows = holds.known d f is in swept_knows t u o f f.named nodes knows (open_is o d f is) (knows.named ∙ sym (same f.it.node));
  kept = λ n node there none. swept_kept u (desk_of o) n node there none;
}

-- an entry's node lost its name
pub leaf_holds : (t : Tree) (o : Opens) (place : Place) (leaf : Leaf) → IsTree t → IsLeaf t place leaf → Holds o t → Holds (without_name o leaf.node) (swept (world_in (without_place t place) o)).tree
leaf_holds t o place leaf tree is holds = forgets_holds t (without_place t place) o leaf.node refl (leaf_others t tree place leaf is) (leaf_nameless t tree place leaf is) holds
