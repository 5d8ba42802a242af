-- The charge counted over the inodes of nodes without an orphan object is that of the tree's named nodes.
use Rattle.std.proofs.Common.{◌≡◌, ◌≢◌, ℕ, suc, ◌<◌, ◌≤◌, ◌+◌, ◌*◌, ◌^◌, inl, inr, true, false, cond, Bool, T, refl, sym, ◌∙◌, ap, arith, List, [], ◌∷◌, length, filter, sum_by, Option, Some, None}
use Rattle.std.specs.Prelude.{is_some}
use Rattle.std.specs.Option.{option_map}
use Rattle.std.specs.Ordering.{nat_cmp, eq_by_cmp, is_eq}
use Rattle.std.specs.declared.cmp.Ordering.{Ordering}
use Rattle.std.specs.declared.cmp.Ordering.TheVariants.{Less, Equal, Greater}
use Rattle.std.specs.Cmp.{nat_cmp_total}
use Rattle.std.specs.Cmp.Lexicographic.{nat_list_cmp_total}
use Rattle.std.specs.FinMap as objects
use Rattle.std.specs.FinMap.{find, is_sorted}
use Rattle.std.specs.FinMap.Entries.{same_entries, is_sorted-where_key, find-where_key}
use Rattle.std.proofs.lemmas.List.Sums.{sum_by-cons}
use Rattle.kv_device.specs.Bytes.{bytes_cmp}
use Rattle.kv_device.specs.Objects.{Objects, pairs_from, is_wanted}
use Rattle.kfs_objects.specs.Keys.{be64, inode_front, inode_key, IsObjectKey, is_super, is_inode, is_entry, is_chunk, is_orphan}
use Rattle.kfs_objects.specs.Records.{read_inode}
use Rattle.kfs_objects.proofs.RecordLaws.{read_inode_dir, read_inode_file}
use Rattle.kfs_model.specs.declared.Node.{Node}
use Rattle.kfs_model.specs.declared.Node.TheVariants.{Dir, File}
use Rattle.kfs_model.specs.Tree.{Tree, IsTree, chunks_of, chunks, charge, greatest_length, node_of, is_named, named}
use Rattle.kfs_shows.specs.Shows.{ShowsTree, inode_of}
use Rattle.kfs_shows.proofs.Lookups.{same_bytes, decide_number, tie_test, apart_test}
use Rattle.kfs_shows.proofs.KeysApart.{kinds, same_inode}
use Rattle.kfs_shows.proofs.Charging.{sum_by-put}
use Rattle.kfs_shows.proofs.Sweeping.{missing, any_found, test_nameless}
use Rattle.kfs_damages.specs.Damages as damages
use Rattle.kfs_damages.proofs.Sorted.{first_of, second_of, found_first, found_later}

abbrev pub kind_of : Node → ℕ × ℕ
kind_of Dir = (1, 0)
kind_of (File bytes) = (2, length bytes)

pub read_inode_of : (x : Node) → ((bytes : List ℕ) → x ≡ File bytes → length bytes ≤ greatest_length) → read_inode (inode_of x) ≡ Some (kind_of x)
read_inode_of Dir h = read_inode_dir
read_inode_of (File bytes) h = read_inode_file (length bytes) (let le = h bytes refl in omega arith)

-- ---- the inodes of nodes

abbrev pub inodes : List (ℕ × Node) → List (List ℕ × List ℕ)
inodes [] = []
inodes (e ∷ es) = (inode_key e.0, inode_of e.1) ∷ inodes es

abbrev pub AllLow : List (ℕ × Node) → Type 0
AllLow [] = Unit {0}
AllLow (e ∷ es) = (e.0 < 2 ^ 64) × AllLow es

pub inode_found : (es : List (ℕ × Node)) (q v : List ℕ) → AllLow es → find bytes_cmp q (inodes es) ≡ Some v → (n : ℕ) × (q ≡ inode_key n) × (n < 2 ^ 64)
inode_found [] q v low e = absurd (cc)
inode_found (x ∷ es) q v low e = by (bytes_cmp q (inode_key x.0)) refl (inode_found es q v low.1) e
  where
    by : (r : Ordering) → bytes_cmp q (inode_key x.0) ≡ r → (find bytes_cmp q (inodes es) ≡ Some v → (n : ℕ) × (q ≡ inode_key n) × (n < 2 ^ 64)) → cond (is_eq r) (Some (inode_of x.1)) (find bytes_cmp q (inodes es)) ≡ Some v → (n : ℕ) × (q ≡ inode_key n) × (n < 2 ^ 64)
    by Less r rest e = rest e
    by Greater r rest e = rest e
    by Equal r rest e = (x.0, same_bytes q (inode_key x.0) r, low.0)

pub inode_find : (es : List (ℕ × Node)) (n : ℕ) → n < 2 ^ 64 → AllLow es → find bytes_cmp (inode_key n) (inodes es) ≡ option_map inode_of (find nat_cmp n es)
inode_find [] n lt low = refl
inode_find (x ∷ es) n lt low = elim (decide_number n x.0) [
  | inl same ↦
      ap (λ b. cond b (Some (inode_of x.1)) (find bytes_cmp (inode_key n) (inodes es))) (ap (λ k. eq_by_cmp bytes_cmp (inode_key n) (inode_key k)) (sym same) ∙ tie_test nat_list_cmp_total same_bytes (inode_key n))
      ∙ sym (ap (λ b. option_map inode_of (cond b (Some x.1) (find nat_cmp n es))) (ap (eq_by_cmp nat_cmp n) (sym same) ∙ tie_test nat_cmp_total objects.nat_cmp-IsAntisymmetric n))
  | inr other ↦
      ap (λ b. cond b (Some (inode_of x.1)) (find bytes_cmp (inode_key n) (inodes es))) (apart_test nat_list_cmp_total same_bytes (inode_key n) (inode_key x.0) (λ k. other (same_inode n x.0 lt low.0 k)))
      ∙ inode_find es n lt low.1
      ∙ sym (ap (λ b. option_map inode_of (cond b (Some x.1) (find nat_cmp n es))) (apart_test nat_cmp_total objects.nat_cmp-IsAntisymmetric n x.0 other))
]

no_length : {A : Type 0} (es : List A) → length es ≡ 0 → es ≡ []
no_length [] e = refl
no_length (x ∷ es) e = absurd (omega arith)

-- the order doesn't matter for a sum
pub sum_entries : (f : List ℕ × List ℕ → ℕ) (es : List (ℕ × Node)) → T (is_sorted nat_cmp es) → AllLow es → sum_by f (objects.entries (objects.from_entries {R = bytes_cmp} (inodes es))) ≡ sum_by f (inodes es)
sum_entries f [] h low = ap (sum_by f) nothing
  where
    nothing : objects.entries (objects.empty {X = List ℕ} {R = bytes_cmp}) ≡ []
    nothing = no_length _ (sym (objects.len-entries (objects.empty {X = List ℕ} {R = bytes_cmp})) ∙ objects.len-empty bytes_cmp (List ℕ))
sum_entries f (x ∷ es) h low =
    let rest = objects.from_entries {R = bytes_cmp} (inodes es) in
    let new : find bytes_cmp (inode_key x.0) (objects.entries rest) ≡ None =
    sym (objects.get-entries rest (inode_key x.0)) ∙ objects.get-from_entries nat_list_cmp_total (inodes es) (inode_key x.0) ∙ inode_find es x.0 low.0 low.1 ∙ ap (option_map inode_of) (missing nat_cmp x.0 es (first_of _ _ h)) in
    ap (sum_by f) (objects.entries-insert nat_list_cmp_total rest (inode_key x.0) (inode_of x.1))
    ∙ sum_by-put f bytes_cmp (inode_key x.0) (inode_of x.1) (objects.entries rest) new
    ∙ ap (λ n. n + f (inode_key x.0, inode_of x.1)) (sum_entries f es (second_of _ _ h) low.1)
    ∙ (let s : sum_by f (inodes es) + f (inode_key x.0, inode_of x.1) ≡ f (inode_key x.0, inode_of x.1) + sum_by f (inodes es) = omega arith in s)
    ∙ sym (sum_by-cons f (inode_key x.0, inode_of x.1) (inodes es))

none : {A : Type 0} (b : Bool) → cond {A = Option A} b None None ≡ None
none true = refl
none false = refl

wanted_inode : (xs : List ℕ) → is_wanted inode_front inode_front (105 ∷ xs) ≡ true
wanted_inode [] = refl
wanted_inode (x ∷ xs) = refl

module _ (m : Objects) (t : Tree) (tree : IsTree t) (shows : ShowsTree m t) (high : t.next ≤ 2 ^ 63) where
  all_low : (es : List (ℕ × Node)) → T (is_sorted nat_cmp es) → ((n : ℕ) (x : Node) → find nat_cmp n es ≡ Some x → node_of t n ≡ Some x) → AllLow es
  all_low [] h f = tt
  all_low (x ∷ es) h f =
      let here = f x.0 x.1 (found_first nat_cmp_total objects.nat_cmp-IsAntisymmetric x es) in
      let later = λ (n : ℕ) (y : Node) (e : find nat_cmp n es ≡ Some y). f n y (found_later nat_cmp_total objects.nat_cmp-IsAntisymmetric x es h n y e) in
      ((let b = (tree.numbers x.0 x.1 here).1 in omega arith), all_low es (second_of _ _ h) later)

  low : AllLow t.nodes
  low = all_low t.nodes tree.sorted_nodes (λ n x e. e)

  abbrev wanted : List ℕ → Bool
  wanted q = is_wanted inode_front inode_front q

  absent : (q : List ℕ) → objects.get m q ≡ None → find bytes_cmp q (inodes t.nodes) ≡ None
  absent q e = by (find bytes_cmp q (inodes t.nodes)) refl
    where
      by : (o : Option (List ℕ)) → find bytes_cmp q (inodes t.nodes) ≡ o → o ≡ None
      by None f = refl
      by (Some v) f =
          let n = inode_found t.nodes q v low f in
          sym f ∙ ap (λ k. find bytes_cmp k (inodes t.nodes)) n.1 ∙ inode_find t.nodes n.0 n.2 low ∙ sym (shows.inodes n.0 n.2) ∙ ap (objects.get m) (sym n.1) ∙ e

  other : (q v xs : List ℕ) (k : ℕ) → k ≢ 105 → q ≡ k ∷ xs → wanted q ≡ false → cond (wanted q) (Some v) None ≡ find bytes_cmp q (inodes t.nodes)
  other q v xs k d is isnt = ap (λ b. cond b (Some v) None) isnt ∙ sym (miss (find bytes_cmp q (inodes t.nodes)) refl)
    where
      miss : (o : Option (List ℕ)) → find bytes_cmp q (inodes t.nodes) ≡ o → o ≡ None
      miss None f = refl
      miss (Some w) f = let n = inode_found t.nodes q w low f in absurd (kinds k 105 xs (be64 n.0) d (sym is ∙ n.1))

  at_key : (q v : List ℕ) → objects.get m q ≡ Some v → (p : List ℕ) → q ≡ p → IsObjectKey p → cond (wanted q) (Some v) None ≡ find bytes_cmp q (inodes t.nodes)
  at_key q v e p is is_super = other q v [] 115 (λ e. omega arith) is (ap wanted is)
  at_key q v e p is (is_inode n lt) =
      ap (λ b. cond b (Some v) None) (ap wanted is ∙ wanted_inode (be64 n)) ∙ sym e ∙ ap (objects.get m) is ∙ shows.inodes n lt ∙ sym (inode_find t.nodes n lt low) ∙ ap (λ k. find bytes_cmp k (inodes t.nodes)) (sym is)
  at_key q v e p is (is_entry n x lt s) = other q v _ 101 (λ e. omega arith) is (ap wanted is)
  at_key q v e p is (is_chunk n c lt lc) = other q v _ 100 (λ e. omega arith) is (ap wanted is)
  at_key q v e p is (is_orphan n lt) = other q v (be64 n) 111 (λ e. omega arith) is (ap wanted is)

  found_same : (q : List ℕ) → find bytes_cmp q (filter (λ e. wanted e.0) (objects.entries m)) ≡ find bytes_cmp q (objects.entries (objects.from_entries {R = bytes_cmp} (inodes t.nodes)))
  found_same q = find-where_key bytes_cmp wanted q (λ x e. ap wanted (sym (same_bytes q x e))) (objects.entries m) ∙ ap (λ o. cond (wanted q) o None) (sym (objects.get-entries m q)) ∙ by (objects.get m q) refl
      ∙ sym (sym (objects.get-entries _ q) ∙ objects.get-from_entries nat_list_cmp_total (inodes t.nodes) q)
    where
      by : (o : Option (List ℕ)) → objects.get m q ≡ o → cond (wanted q) o None ≡ find bytes_cmp q (inodes t.nodes)
      by None e = none (wanted q) ∙ sym (absent q e)
      by (Some v) e = at_key q v e q refl (shows.only q v e)

  pairs_same : pairs_from m inode_front inode_front ≡ objects.entries (objects.from_entries {R = bytes_cmp} (inodes t.nodes))
  unfolding pairs_from
  pairs_same = same_entries bytes_cmp nat_list_cmp_total same_bytes _ _ (is_sorted-where_key bytes_cmp wanted (objects.entries m) (objects.entries_sorted m)) (objects.entries_sorted (objects.from_entries {R = bytes_cmp} (inodes t.nodes))) found_same

  sum_same : (f : List ℕ × List ℕ → ℕ) → sum_by f (pairs_from m inode_front inode_front) ≡ sum_by f (inodes t.nodes)
  sum_same f = ap (sum_by f) pairs_same ∙ sum_entries f t.nodes tree.sorted_nodes low

  -- ---- a node without a name counts nothing

  module _ (weight : Option (ℕ × ℕ) → ℕ) (heavy : Node → ℕ) (says : (x : Node) → weight (Some (kind_of x)) ≡ heavy x) where
    abbrev counted : List ℕ × List ℕ → ℕ
    counted e = cond (damages.is_orphan m e.0) 0 (weight (read_inode e.1))

    node_counted : (n : ℕ) (x : Node) → node_of t n ≡ Some x → counted (inode_key n, inode_of x) ≡ cond (is_named t n) (heavy x) 0
    node_counted n x e = by (is_named t n) refl
      where
        lt : n < 2 ^ 64
        lt = let b = (tree.numbers n x e).1 in omega arith

        by : (b : Bool) → is_named t n ≡ b → counted (inode_key n, inode_of x) ≡ cond b (heavy x) 0
        by true is =
            let at = any_found n t.names tree.sorted_names is in
            ap (λ o. cond (is_some o) 0 (weight (read_inode (inode_of x)))) (shows.named at.0 n at.1)
            ∙ ap weight (read_inode_of x (λ bytes f. tree.lengths n bytes (e ∙ ap Some f))) ∙ says x
        by false is = ap (λ o. cond (is_some o) 0 (weight (read_inode (inode_of x)))) (shows.orphans n x lt e (test_nameless t n is))

    sum_nodes : (es : List (ℕ × Node)) → T (is_sorted nat_cmp es) → ((n : ℕ) (x : Node) → find nat_cmp n es ≡ Some x → node_of t n ≡ Some x)
        → sum_by counted (inodes es) ≡ sum_by (λ e. heavy e.1) (filter (λ e. is_named t e.0) es)
    sum_nodes [] h f = refl
    sum_nodes (x ∷ es) h f =
        let here = f x.0 x.1 (found_first nat_cmp_total objects.nat_cmp-IsAntisymmetric x es) in
        let later = λ (n : ℕ) (y : Node) (e : find nat_cmp n es ≡ Some y). f n y (found_later nat_cmp_total objects.nat_cmp-IsAntisymmetric x es h n y e) in
        let rest = sum_nodes es (second_of _ _ h) later in
        sum_by-cons counted (inode_key x.0, inode_of x.1) (inodes es)
        ∙ (λ i. node_counted x.0 x.1 here i + rest i)
        ∙ by (is_named t x.0)
      where
        by : (b : Bool) → cond b (heavy x.1) 0 + sum_by (λ (e : ℕ × Node). heavy e.1) (filter (λ e. is_named t e.0) es) ≡ sum_by (λ (e : ℕ × Node). heavy e.1) (cond b (x ∷ filter (λ e. is_named t e.0) es) (filter (λ e. is_named t e.0) es))
        by true = sym (sum_by-cons (λ (e : ℕ × Node). heavy e.1) x (filter (λ e. is_named t e.0) es))
        by false = omega arith

    sum_named_same : damages.sum_named weight m ≡ sum_by (λ e. heavy e.1) (named t).nodes
    sum_named_same = sum_same counted ∙ sum_nodes t.nodes tree.sorted_nodes (λ n x e. e)

  two_each : (es : List (ℕ × Node)) → sum_by (λ e. 2 + chunks_of e.1) es ≡ 2 * length es + sum_by (λ e. chunks_of e.1) es
  two_each [] = refl
  two_each (x ∷ es) =
      let rest = two_each es in
      sum_by-cons (λ (e : ℕ × Node). 2 + chunks_of e.1) x es
      ∙ (let s : (2 + chunks_of x.1) + sum_by (λ (e : ℕ × Node). 2 + chunks_of e.1) es ≡ 2 * suc (length es) + (chunks_of x.1 + sum_by (λ (e : ℕ × Node). chunks_of e.1) es) = omega arith in s)
      ∙ ap (λ n. 2 * suc (length es) + n) (sym (sum_by-cons (λ (e : ℕ × Node). chunks_of e.1) x es))

  keys_say : (x : Node) → damages.keys_of (Some (kind_of x)) ≡ 2 + chunks_of x
  keys_say Dir = refl
  keys_say (File bytes) = refl

  chunks_say : (x : Node) → damages.chunks_of (Some (kind_of x)) ≡ chunks_of x
  chunks_say Dir = refl
  chunks_say (File bytes) = refl

  shift : (a b : ℕ) → 1 + (2 * a + b) ≡ 1 + 2 * a + b
  shift a b = omega arith

  pub charge_named : damages.named_charge m ≡ charge (named t)
  unfolding damages.named_charge
  charge_named = ap (λ n. 1 + n) (sum_named_same damages.keys_of (λ x. 2 + chunks_of x) keys_say ∙ two_each (named t).nodes) ∙ shift (length (named t).nodes) (chunks (named t))

  pub chunks_named : damages.named_chunks m ≡ chunks (named t)
  unfolding damages.named_chunks
  chunks_named = sum_named_same damages.chunks_of chunks_of chunks_say
