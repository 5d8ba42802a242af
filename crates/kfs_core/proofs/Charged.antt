-- The charge and the chunks that a mount counts are the tree's.
use Rattle.std.proofs.Common.{◌≡◌, ◌≢◌, ℕ, suc, ◌<◌, ◌≤◌, ◌+◌, ◌-◌, ◌*◌, ◌^◌, true, false, cond, Bool, T, refl, sym, ◌∙◌, ap, arith, List, [], ◌∷◌, ◌++◌, length, map, min, filter, take, sum_by, Option, Some, None}
use Rattle.std.specs.Ordering.{nat_cmp}
use Rattle.std.specs.Cmp.{nat_cmp_total}
use Rattle.std.specs.Cmp.Lexicographic.{nat_list_cmp_total}
use Rattle.std.specs.FinMap as objects
use Rattle.std.specs.FinMap.{find, is_sorted}
use Rattle.std.specs.FinMap.Entries.{same_entries, is_sorted-where_key, find-where_key}
use Rattle.std.proofs.lemmas.List.{take_all, length-map, length-take}
use Rattle.std.proofs.lemmas.List.Sums.{sum_by-cons}
use Rattle.kv_base.specs.declared.pairs.Pair.{Pair}
use Rattle.kv_device.specs.Bytes.{bytes_cmp}
use Rattle.kv_device.specs.Objects.{Objects, pairs_from, is_wanted, pair_of}
use Rattle.kfs_objects.specs.Keys.{be64, inode_front, inode_key, IsObjectKey, is_super, is_inode, is_entry, is_chunk, is_orphan}
use Rattle.kfs_objects.specs.Records.{read_inode}
use Rattle.kfs_model.specs.declared.Node.{Node}
use Rattle.kfs_model.specs.declared.Node.TheVariants.{Dir, File}
use Rattle.kfs_model.specs.Tree.{Tree, chunks_of, chunks, charge, greatest_length, node_of}
use Rattle.kfs_model.proofs.Tests.{first_of, second_of}
use Rattle.kfs_shows.specs.Shows.{inode_of}
use Rattle.kfs_shows.proofs.Lookups.{same_bytes, tie_test, apart_test}
use Rattle.kfs_shows.proofs.KeysApart.{kinds}
use Rattle.kfs_shows.proofs.Sweeping.{missing}
use Rattle.kfs_damages.specs.Damages.{keys_of}
use Rattle.kfs_damages.specs.Damages as damages
use Rattle.kfs_damages.proofs.Counts.{inodes, AllLow, inode_found, inode_find, sum_entries}
use Rattle.kfs_core.specs.Stands.{Stands}
use Rattle.kfs_core.specs.Counted.{charge_in, chunks_in}
use Rattle.kfs_core.proofs.Ways.{kind_of, read_inode_of}

sum_map : {X Y : Type 0} (f : X → Y) (g : Y → ℕ) (xs : List X) → sum_by (λ x. g (f x)) xs ≡ sum_by g (map f xs)
sum_map f g [] = refl
sum_map f g (x ∷ xs) = sum_by-cons (λ x. g (f x)) x xs ∙ ap (λ n. g (f x) + n) (sum_map f g xs) ∙ sym (sum_by-cons g (f x) (map f xs))

pub all_weighed : (weight : Option (ℕ × ℕ) → ℕ) (pairs : List Pair) (es : List (List ℕ × List ℕ)) (i : ℕ) → map pair_of pairs ≡ es → length pairs ≤ i
    → sum_by (λ (p : Pair). weight (read_inode p.value)) (take i pairs) ≡ sum_by (λ (e : List ℕ × List ℕ). weight (read_inode e.1)) es
all_weighed weight pairs es i e le =
    ap (sum_by (λ (p : Pair). weight (read_inode p.value))) (take_all i pairs le) ∙ sum_map pair_of (λ (e : List ℕ × List ℕ). weight (read_inode e.1)) pairs ∙ ap (sum_by (λ (e : List ℕ × List ℕ). weight (read_inode e.1))) e

pub few_taken : (pairs : List Pair) (es : List (List ℕ × List ℕ)) (n : ℕ) → map pair_of pairs ≡ take n es → length pairs ≤ n
few_taken pairs es n e =
    let long : length pairs ≡ min n (length es) = sym (length-map pairs pair_of) ∙ ap (λ (l : List (List ℕ × List ℕ)). length l) e ∙ length-take n es in
    omega arith

abbrev weighed : (Option (ℕ × ℕ) → ℕ) → List ℕ × List ℕ → ℕ
weighed weight e = weight (read_inode e.1)

abbrev AllShort : List (ℕ × Node) → Type 0
AllShort [] = Unit {0}
AllShort (e ∷ es) = ((bytes : List ℕ) → e.1 ≡ File bytes → length bytes ≤ greatest_length) × AllShort es

keys_of_node : (x : Node) → keys_of (Some (kind_of x)) ≡ 2 + chunks_of x
keys_of_node Dir = refl
keys_of_node (File bytes) = refl

sum_nodes : (es : List (ℕ × Node)) → AllShort es → sum_by (weighed keys_of) (inodes es) ≡ 2 * length es + sum_by (λ e. chunks_of e.1) es
sum_nodes [] h = refl
sum_nodes (x ∷ es) h =
    let w : weighed keys_of (inode_key x.0, inode_of x.1) ≡ 2 + chunks_of x.1 = ap keys_of (read_inode_of x.1 h.0) ∙ keys_of_node x.1 in
    let r = sum_nodes es h.1 in
    sum_by-cons (weighed keys_of) (inode_key x.0, inode_of x.1) (inodes es)
    ∙ (let s : weighed keys_of (inode_key x.0, inode_of x.1) + sum_by (weighed keys_of) (inodes es) ≡ 2 * suc (length es) + (chunks_of x.1 + sum_by (λ e. chunks_of e.1) es) = omega arith in s)
    ∙ ap (λ n. 2 * suc (length es) + n) (sym (sum_by-cons (λ (e : ℕ × Node). chunks_of e.1) x es))

chunks_of_node : (x : Node) → damages.chunks_of (Some (kind_of x)) ≡ chunks_of x
chunks_of_node Dir = refl
chunks_of_node (File bytes) = refl

sum_chunks : (es : List (ℕ × Node)) → AllShort es → sum_by (weighed damages.chunks_of) (inodes es) ≡ sum_by (λ e. chunks_of e.1) es
sum_chunks [] h = refl
sum_chunks (x ∷ es) h =
    let w : weighed damages.chunks_of (inode_key x.0, inode_of x.1) ≡ chunks_of x.1 = ap damages.chunks_of (read_inode_of x.1 h.0) ∙ chunks_of_node x.1 in
    sum_by-cons (weighed damages.chunks_of) (inode_key x.0, inode_of x.1) (inodes es)
    ∙ (λ i. w i + sum_chunks es h.1 i)
    ∙ sym (sum_by-cons (λ (e : ℕ × Node). chunks_of e.1) x es)

shift : (a b : ℕ) → 1 + (2 * a + b) ≡ 1 + 2 * a + b
shift a b = omega arith

module _ (m : Objects) (t : Tree) (stands : Stands m t) where
  -- a fact of each node in the list, from the look-ups
  node_facts : (es : List (ℕ × Node)) → T (is_sorted nat_cmp es) → ((n : ℕ) (x : Node) → find nat_cmp n es ≡ Some x → node_of t n ≡ Some x) → AllLow es × AllShort es
  node_facts [] h f = (tt, tt)
  node_facts (x ∷ es) h f =
      let here = f x.0 x.1 (ap (λ b. cond b (Some x.1) (find nat_cmp x.0 es)) (tie_test nat_cmp_total objects.nat_cmp-IsAntisymmetric x.0)) in
      let later : (n : ℕ) (y : Node) → find nat_cmp n es ≡ Some y → node_of t n ≡ Some y = λ n y e. f n y (ap (λ b. cond b (Some x.1) (find nat_cmp n es)) (apart_test nat_cmp_total objects.nat_cmp-IsAntisymmetric n x.0 (λ same. let bad : Some y ≡ None = sym e ∙ ap (λ k. find nat_cmp k es) same ∙ missing nat_cmp x.0 es (first_of _ _ h) in cc)) ∙ e) in
      let rest = node_facts es (second_of _ _ h) later in
      (((let b = (stands.tree.numbers x.0 x.1 here).1 in let l = stands.low in omega arith), rest.0), ((λ bytes e. stands.tree.lengths x.0 bytes (here ∙ ap Some e)), rest.1))

  facts : AllLow t.nodes × AllShort t.nodes
  facts = node_facts t.nodes stands.tree.sorted_nodes (λ n x e. e)

  abbrev wanted : List ℕ → Bool
  wanted q = is_wanted inode_front inode_front q

  wanted_inode : (n : ℕ) → wanted (inode_key n) ≡ true
  wanted_inode n = by (be64 n)
    where
      by : (xs : List ℕ) → wanted (105 ∷ xs) ≡ true
      by [] = refl
      by (x ∷ xs) = refl

  absent : (q : List ℕ) → objects.get m q ≡ None → find bytes_cmp q (inodes t.nodes) ≡ None
  absent q e = by (find bytes_cmp q (inodes t.nodes)) refl
    where
      by : (o : Option (List ℕ)) → find bytes_cmp q (inodes t.nodes) ≡ o → o ≡ None
      by None f = refl
      by (Some v) f =
          let n = inode_found t.nodes q v facts.0 f in
          sym f ∙ ap (λ k. find bytes_cmp k (inodes t.nodes)) n.1 ∙ inode_find t.nodes n.0 n.2 facts.0 ∙ sym (stands.shows.inodes n.0 n.2) ∙ ap (objects.get m) (sym n.1) ∙ e

  found_same : (q : List ℕ) → find bytes_cmp q (filter (λ e. wanted e.0) (objects.entries m)) ≡ find bytes_cmp q (objects.entries (objects.from_entries {R = bytes_cmp} (inodes t.nodes)))
  found_same q = find-where_key bytes_cmp wanted q (λ x e. ap wanted (sym (same_bytes q x e))) (objects.entries m) ∙ ap (λ o. cond (wanted q) o None) (sym (objects.get-entries m q)) ∙ by (objects.get m q) refl
      ∙ sym (sym (objects.get-entries _ q) ∙ objects.get-from_entries nat_list_cmp_total (inodes t.nodes) q)
    where
      none : (b : Bool) → cond {A = Option (List ℕ)} b None None ≡ None
      none true = refl
      none false = refl

      other : (v xs : List ℕ) (k : ℕ) → k ≢ 105 → q ≡ k ∷ xs → wanted q ≡ false → cond (wanted q) (Some v) None ≡ find bytes_cmp q (inodes t.nodes)
      other v xs k d is isnt = ap (λ b. cond b (Some v) None) isnt ∙ sym (miss (find bytes_cmp q (inodes t.nodes)) refl)
        where
          miss : (o : Option (List ℕ)) → find bytes_cmp q (inodes t.nodes) ≡ o → o ≡ None
          miss None f = refl
          miss (Some w) f = let n = inode_found t.nodes q w facts.0 f in absurd (kinds k 105 xs (be64 n.0) d (sym is ∙ n.1))

      key : (v : List ℕ) → objects.get m q ≡ Some v → (p : List ℕ) → q ≡ p → IsObjectKey p → cond (wanted q) (Some v) None ≡ find bytes_cmp q (inodes t.nodes)
      key v e p is is_super = other v [] 115 (λ e. omega arith) is (ap wanted is)
      key v e p is (is_inode n lt) =
          ap (λ b. cond b (Some v) None) (ap wanted is ∙ wanted_inode n) ∙ sym e ∙ ap (objects.get m) is ∙ stands.shows.inodes n lt ∙ sym (inode_find t.nodes n lt facts.0) ∙ ap (λ k. find bytes_cmp k (inodes t.nodes)) (sym is)
      key v e p is (is_entry n x lt s) = other v (be64 n ++ x) 101 (λ e. omega arith) is (ap wanted is)
      key v e p is (is_chunk n c lt lc) = other v _ 100 (λ e. omega arith) is (ap wanted is)
      key v e p is (is_orphan n lt) = other v (be64 n) 111 (λ e. omega arith) is (ap wanted is)

      by : (o : Option (List ℕ)) → objects.get m q ≡ o → cond (wanted q) o None ≡ find bytes_cmp q (inodes t.nodes)
      by None e = none (wanted q) ∙ sym (absent q e)
      by (Some v) e = key v e q refl (stands.shows.only q v e)

  few_filter : (p : List ℕ × List ℕ → Bool) (es : List (List ℕ × List ℕ)) → length (filter p es) ≤ length es
  few_filter p [] = omega arith
  few_filter p (e ∷ es) = by (p e) (few_filter p es)
    where
      by : (b : Bool) → length (filter p es) ≤ length es → length (cond b (e ∷ filter p es) (filter p es)) ≤ length (e ∷ es)
      by true h = omega arith
      by false h = omega arith

  few_pairs : length (pairs_from m inode_front inode_front) ≤ objects.len m
  unfolding pairs_from
  few_pairs = let h = few_filter (λ e. wanted e.0) (objects.entries m) in let l = objects.len-entries m in omega arith

  pairs_same : pairs_from m inode_front inode_front ≡ objects.entries (objects.from_entries {R = bytes_cmp} (inodes t.nodes))
  unfolding pairs_from
  pairs_same = same_entries bytes_cmp nat_list_cmp_total same_bytes _ _ (is_sorted-where_key bytes_cmp wanted (objects.entries m) (objects.entries_sorted m)) (objects.entries_sorted (objects.from_entries {R = bytes_cmp} (inodes t.nodes))) found_same

  sum_same : (weight : Option (ℕ × ℕ) → ℕ) → objects.len m < 2 ^ 32 → sum_by (weighed weight) (take (2 ^ 32 - 1) (pairs_from m inode_front inode_front)) ≡ sum_by (weighed weight) (inodes t.nodes)
  sum_same weight few = ap (sum_by (weighed weight)) (take_all (2 ^ 32 - 1) (pairs_from m inode_front inode_front) (let h = few_pairs in omega arith) ∙ pairs_same) ∙ sum_entries (weighed weight) t.nodes stands.tree.sorted_nodes facts.0

  pub charge_same : objects.len m < 2 ^ 32 → charge_in m ≡ charge t
  unfolding charge_in
  charge_same few = ap (λ n. 1 + n) (sum_same keys_of few ∙ sum_nodes t.nodes facts.1) ∙ shift (length t.nodes) (chunks t)

  pub chunks_same : objects.len m < 2 ^ 32 → chunks_in m ≡ chunks t
  unfolding chunks_in
  chunks_same few = sum_same damages.chunks_of few ∙ sum_chunks t.nodes facts.1
