-- What the nodes with names take, by the rows.
use Rattle.std.proofs.Common.{◌≡◌, ℕ, suc, ◌+◌, true, false, cond, Bool, refl, sym, ◌∙◌, ap, arith, List, [], ◌∷◌, filter, sum_by, slice_get, Option, Some, None}
use Rattle.std.specs.Option.{option_map}
use Rattle.std.specs.Ordering.{nat_cmp}
use Rattle.std.specs.BTreeSet.{contains}
use Rattle.std.specs.FinMap as objects
use Rattle.std.proofs.lemmas.List.Sums.{sum_by-cons}
use Rattle.kv_device.specs.Objects.{Objects, pairs_from, is_wanted}
use Rattle.kfs_objects.specs.declared.records.Inode.{Inode}
use Rattle.kfs_objects.specs.Keys.{be64, inode_front, inode_key, IsObjectKey}
use Rattle.kfs_objects.specs.Records.{read_inode}
use Rattle.kfs_damages.specs.Damages.{keys_of, chunks_of, is_orphan, named_charge, named_chunks}
use Rattle.kfs_judge.specs.declared.row.Row.{Row}
use Rattle.kfs_judge.specs.declared.row.Row.TheVariants as rows
use Rattle.kfs_judge.specs.declared.tables.Tables.{Tables}
use Rattle.kfs_judge.specs.Rows.{AreRows, IsRow}
use Rattle.kfs_judge.specs.Tables.{AreTables, taken_by, keys_for, chunks_for}
use Rattle.kfs_judge.proofs.Known.{pair_of_inode, known_orphan}

wanted_inode : (n : ℕ) → is_wanted inode_front inode_front (inode_key n) ≡ true
wanted_inode n = by (be64 n)
  where
    by : (xs : List ℕ) → is_wanted inode_front inode_front (105 ∷ xs) ≡ true
    by [] = refl
    by (x ∷ xs) = refl

module _ (m : Objects) (rs : List Row) (are : AreRows (objects.entries m) rs) (t : Tables) (tables : AreTables rs t) (weigh : Option (ℕ × ℕ) → ℕ) (weight : Option Inode → ℕ) (alike : (o : Option Inode) → weight o ≡ weigh (option_map pair_of_inode o)) where
  abbrev counted : List ℕ × List ℕ → ℕ
  counted e = cond (is_wanted inode_front inode_front e.0) (cond (is_orphan m e.0) 0 (weigh (read_inode e.1))) 0

  not_wanted : (e : List ℕ × List ℕ) → is_wanted inode_front inode_front e.0 ≡ false → counted e ≡ 0
  not_wanted e w = ap (λ b. cond b (cond (is_orphan m e.0) 0 (weigh (read_inode e.1))) 0) w

  counts : (e : List ℕ × List ℕ) (row : Row) → IsRow e row → IsObjectKey e.0 → counted e ≡ taken_by weight t row
  counts e (rows.Head head) h key = not_wanted e (ap (is_wanted inode_front inode_front) h.tells.0)
  counts e (rows.Entry parent child b) h key = let x = h.tells in not_wanted e (ap (is_wanted inode_front inode_front) x.spelled)
  counts e (rows.Chunk node end is_empty) h key = let x = h.tells in not_wanted e (ap (is_wanted inode_front inode_front) x.spelled)
  counts e (rows.Orphan node reads) h key = not_wanted e (ap (is_wanted inode_front inode_front) h.tells.0)
  counts e rows.Strange h key = absurd (h.tells key)
  counts e (rows.Inode node it) h key =
      let k = h.tells.0 in
      let w = ap (is_wanted inode_front inode_front) k ∙ wanted_inode node in
      let o : is_orphan m e.0 ≡ contains nat_cmp t.orphans node = ap (is_orphan m) k ∙ sym (known_orphan m rs are t tables node h.tells.1) in
      let v : weigh (read_inode e.1) ≡ weight it = ap weigh (sym h.tells.2) ∙ sym (alike it) in
      (λ i. cond (w i) (cond (o i) 0 (v i)) 0)

  sums : (es : List (List ℕ × List ℕ)) (ss : List Row) → AreRows es ss → ((i : ℕ) (e : List ℕ × List ℕ) → slice_get es i ≡ Some e → IsObjectKey e.0)
      → sum_by (λ (e : List ℕ × List ℕ). cond (is_orphan m e.0) 0 (weigh (read_inode e.1))) (filter (λ e. is_wanted inode_front inode_front e.0) es) ≡ sum_by (taken_by weight t) ss
  sums [] [] h keys = refl
  sums [] (s ∷ ss) h keys = absurd h
  sums (e ∷ es) [] h keys = absurd h
  sums (e ∷ es) (s ∷ ss) h keys = by (is_wanted inode_front inode_front e.0) refl (sums es ss h.1 (λ i x at. keys (suc i) x at)) (counts e s h.0 (keys 0 e refl)) ∙ sym (sum_by-cons (taken_by weight t) s ss)
    where
      by : (b : Bool) → is_wanted inode_front inode_front e.0 ≡ b
          → sum_by (λ (e : List ℕ × List ℕ). cond (is_orphan m e.0) 0 (weigh (read_inode e.1))) (filter (λ e. is_wanted inode_front inode_front e.0) es) ≡ sum_by (taken_by weight t) ss
          → cond b (cond (is_orphan m e.0) 0 (weigh (read_inode e.1))) 0 ≡ taken_by weight t s
          → sum_by (λ (e : List ℕ × List ℕ). cond (is_orphan m e.0) 0 (weigh (read_inode e.1))) (cond b (e ∷ filter (λ e. is_wanted inode_front inode_front e.0) es) (filter (λ e. is_wanted inode_front inode_front e.0) es)) ≡ taken_by weight t s + sum_by (taken_by weight t) ss
      by true w rest one = sum_by-cons (λ (e : List ℕ × List ℕ). cond (is_orphan m e.0) 0 (weigh (read_inode e.1))) e (filter (λ e. is_wanted inode_front inode_front e.0) es) ∙ (λ i. one i + rest i)
      by false w rest one = rest ∙ (let z : 0 ≡ taken_by weight t s = one in let g : sum_by (taken_by weight t) ss ≡ taken_by weight t s + sum_by (taken_by weight t) ss = omega arith in g)

keys_alike : (o : Option Inode) → keys_for o ≡ keys_of (option_map pair_of_inode o)
keys_alike None = refl
keys_alike (Some it) = refl

chunks_alike : (o : Option Inode) → chunks_for o ≡ chunks_of (option_map pair_of_inode o)
chunks_alike None = refl
chunks_alike (Some it) = refl

module _ (m : Objects) (rs : List Row) (are : AreRows (objects.entries m) rs) (t : Tables) (tables : AreTables rs t) (keys : (i : ℕ) (e : List ℕ × List ℕ) → slice_get (objects.entries m) i ≡ Some e → IsObjectKey e.0) where
  pub charge_is : 1 + sum_by (taken_by keys_for t) rs ≡ named_charge m
  unfolding named_charge pairs_from
  charge_is = ap (λ n. 1 + n) (sym (sums m rs are t tables keys_of keys_for keys_alike (objects.entries m) rs are keys))

  pub chunks_are : sum_by (taken_by chunks_for t) rs ≡ named_chunks m
  unfolding named_chunks pairs_from
  chunks_are = sym (sums m rs are t tables chunks_of chunks_for chunks_alike (objects.entries m) rs are keys)
