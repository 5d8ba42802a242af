-- Which inodes are bad, by their rows.
use Rattle.std.proofs.Common.{◌≡◌, ◌≢◌, ℕ, min, ◌<◌, ◌≤◌, ◌^◌, ◌⊎◌, inl, inr, ◌&&◌, ◌||◌, true, false, cond, Bool, refl, sym, ◌∙◌, ap, subst, arith, List, slice_get, Option, Some, None, IsSome, nat_le, nat_lt}
use Rattle.std.specs.Prelude.{◌==◌}
use Rattle.std.specs.Option.{option_map, option_and_then}
use Rattle.std.specs.FinMap as objects
use Rattle.std.proofs.lemmas.Bool.Decides.{nat_tests}
use Rattle.std.proofs.lemmas.Option.{same_Some}
use Rattle.kv_device.specs.Objects.{Objects}
use Rattle.kfs_objects.specs.declared.records.Inode.{Inode}
use Rattle.kfs_objects.specs.Keys.{inode_key}
use Rattle.kfs_objects.specs.Records.{read_inode}
use Rattle.kfs_model.specs.Tree.{greatest_length}
use Rattle.kfs_damages.specs.Damages.{next_in, inode_of, IsBadInode, unread, high, zero, long, root, IsLeast, None_}
use Rattle.kfs_judge.specs.declared.row.Row.{Row}
use Rattle.kfs_judge.specs.declared.row.Row.TheVariants as rows
use Rattle.kfs_judge.specs.declared.tables.Tables.{Tables}
use Rattle.kfs_judge.specs.Rows.{AreRows}
use Rattle.kfs_judge.specs.Tables.{AreTables, IsLeastOf, lower, inode_at, is_dir, is_bad_inode, bad_inode}
use Rattle.kfs_judge.specs.Judged.{AreShort, FoundLeast}
use Rattle.kfs_judge.proofs.Finding.{row_of_object}
use Rattle.kfs_judge.proofs.Known.{pair_of_inode, tells_inode, inode_at_row, known_inode_of}

-- ---- the least of what holds

-- what rows accuse of is what holds
pub from_rows : (Holds : ℕ → Type 0) (f : Row → Option ℕ) (rs : List Row) (least : Option ℕ) → IsLeastOf f rs least
    → ((i : ℕ) (row : Row) (n : ℕ) → slice_get rs i ≡ Some row → f row ≡ Some n → Holds n)
    → ((k : ℕ) → k < 2 ^ 64 → Holds k → (i : ℕ) × (row : Row) × (slice_get rs i ≡ Some row) × (f row ≡ Some k))
    → FoundLeast Holds least
from_rows Holds f rs least is sound complete = record {
  found = λ n e. let h = is.found n e in sound h.0 h.1 n h.2 h.3;
  all = λ k low h. let c = complete k low h in is.all c.0 k c.1 c.2 c.3;
}

pub none_holds : (Holds : ℕ → Type 0) → FoundLeast Holds None → None_ Holds
none_holds Holds h k low bad = let a = h.all k low bad in let e = a.1 in absurd (cc)

pub least_holds : (Holds : ℕ → Type 0) (n : ℕ) → FoundLeast Holds (Some n) → n < 2 ^ 64 → IsLeast Holds n
least_holds Holds n h low = record {
  low = low;
  here = h.found n refl;
  earlier = λ k lt bad. let a = h.all k (omega arith) bad in let e = same_Some n a.0 a.1 in let le = a.2 in omega arith;
}

pub either_of : (a b : Bool) → (a || b) ≡ true → (a ≡ true) ⊎ (b ≡ true)
either_of true b h = inl refl
either_of false b h = inr h

pub left_true : (a b : Bool) → a ≡ true → (a || b) ≡ true
left_true true b h = refl
left_true false b h = absurd (cc)

pub right_true : (a b : Bool) → b ≡ true → (a || b) ≡ true
right_true true b h = refl
right_true false b h = h

-- whether an inode is a directory's
pub dir_test : (o : Option Inode) (b : Bool) → is_dir o ≡ b → (b ≡ true → option_map pair_of_inode o ≡ Some (1, 0)) × (b ≡ false → option_map pair_of_inode o ≢ Some (1, 0))
dir_test None b e = (λ t. absurd (let bad : false ≡ true = e ∙ t in cc), λ t h. absurd (cc))
dir_test (Some x) b e = (when, never)
  where
    first : (p q : Bool) → (p && q) ≡ true → (p ≡ true) × (q ≡ true)
    first true q h = (refl, h)
    first false q h = absurd (cc)

    when : b ≡ true → Some (pair_of_inode x) ≡ Some (1, 0)
    when y = let f = first (x.kind == 1) (x.length == 0) (e ∙ y) in let k : x.kind ≡ 1 = grind (arith, nat_tests, f.0) in let l : x.length ≡ 0 = grind (arith, nat_tests, f.1) in λ i. Some (k i, l i)

    never : b ≡ false → Some (pair_of_inode x) ≢ Some (1, 0)
    never n h =
        let same : pair_of_inode x ≡ (1, 0) = same_Some _ _ h in
        let k = ap (λ (p : ℕ × ℕ). p.0) same in
        let l = ap (λ (p : ℕ × ℕ). p.1) same in
        let a : (x.kind == 1) ≡ true = grind (arith, nat_tests, k) in
        let c : (x.length == 0) ≡ true = grind (arith, nat_tests, l) in
        let bad : true ≡ false = sym (λ i. a i && c i) ∙ e ∙ n in
        absurd (cc)

module _ (m : Objects) (rs : List Row) (are : AreRows (objects.entries m) rs) (t : Tables) (tables : AreTables rs t) where
  -- an inode's row accuses its node where the inode is bad in itself
  sound : (i : ℕ) (row : Row) (n : ℕ) → slice_get rs i ≡ Some row → bad_inode (next_in m) row ≡ Some n → IsBadInode m n
  sound i (rows.Head head) n at e = absurd (cc)
  sound i (rows.Entry parent child is_name) n at e = absurd (cc)
  sound i (rows.Chunk node end is_empty) n at e = absurd (cc)
  sound i (rows.Orphan node reads) n at e = absurd (cc)
  sound i rows.Strange n at e = absurd (cc)
  sound i (rows.Inode node it) n at e = by (is_bad_inode (next_in m) node it) refl e
    where
      object : (v : List ℕ) × (node < 2 ^ 64) × (objects.get m (inode_key node) ≡ Some v) × (option_map pair_of_inode it ≡ read_inode v)
      object = inode_at_row m rs are t tables i node it at

      there : IsSome (objects.get m (inode_key node))
      there = subst IsSome (sym object.2) refl

      reads : inode_of m node ≡ option_map pair_of_inode it
      reads = ap (option_and_then read_inode) object.2 ∙ sym object.3

      which : (it : Option Inode) → inode_of m node ≡ option_map pair_of_inode it → is_bad_inode (next_in m) node it ≡ true → IsBadInode m node
      which None r b = unread there r
      which (Some x) r b =
          elim (either_of (nat_le (next_in m) node || node == 0) (nat_lt greatest_length x.length) b) [
            | inl c ↦ elim (either_of (nat_le (next_in m) node) (node == 0) c) [ inl d ↦ high there (grind (arith, nat_tests)) | inr d ↦ zero there (grind (arith, nat_tests)) ]
            | inr c ↦ long x.kind x.length r (grind (arith, nat_tests))
          ]

      by : (b : Bool) → is_bad_inode (next_in m) node it ≡ b → cond b (Some node) None ≡ Some n → IsBadInode m n
      by true is e = subst (IsBadInode m) (same_Some node n e) (which it reads is)
      by false is e = absurd (cc)

  accused : (k : ℕ) (v : List ℕ) → k < 2 ^ 64 → objects.get m (inode_key k) ≡ Some v → ((it : Option Inode) → inode_of m k ≡ option_map pair_of_inode it → is_bad_inode (next_in m) k it ≡ true)
      → (i : ℕ) × (row : Row) × (slice_get rs i ≡ Some row) × (bad_inode (next_in m) row ≡ Some k)
  accused k v low there bad =
      let r = row_of_object m rs are (inode_key k) v there in
      let s = tells_inode k v r.1 low r.3 in
      let b = bad s.0 (ap (option_and_then read_inode) there ∙ sym s.2) in
      (r.0, r.1, r.2, ap (bad_inode (next_in m)) s.1 ∙ ap (λ b. cond b (Some k) None) b)

  -- the value of what is there
  value_of : (o : Option (List ℕ)) → IsSome o → (v : List ℕ) × (o ≡ Some v)
  value_of None h = absurd (cc)
  value_of (Some v) h = (v, refl)

  -- a bad inode is accused by its row, or it is the root's, which is no directory
  pub complete : (k : ℕ) → k < 2 ^ 64 → IsBadInode m k → ((i : ℕ) × (row : Row) × (slice_get rs i ≡ Some row) × (bad_inode (next_in m) row ≡ Some k)) ⊎ ((k ≡ 1) × (inode_of m 1 ≢ Some (1, 0)))
  complete k low (unread there none) =
      let v = value_of (objects.get m (inode_key k)) there in
      inl (accused k v.0 low v.1 (λ it r. elim it as (λ it. inode_of m k ≡ option_map pair_of_inode it → is_bad_inode (next_in m) k it ≡ true) [ None ↦ λ r. refl | Some x ↦ λ r. absurd (let bad : Some (pair_of_inode x) ≡ None = sym r ∙ none in cc) ] r))
  complete k low (high there le) =
      let v = value_of (objects.get m (inode_key k)) there in
      let a : nat_le (next_in m) k ≡ true = grind (arith, nat_tests) in
      inl (accused k v.0 low v.1 (λ it r. elim it as (λ it. is_bad_inode (next_in m) k it ≡ true) [ None ↦ refl | Some x ↦ left_true _ (nat_lt greatest_length x.length) (left_true _ (k == 0) a) ]))
  complete k low (zero there is) =
      let v = value_of (objects.get m (inode_key k)) there in
      let a : (k == 0) ≡ true = grind (arith, nat_tests) in
      inl (accused k v.0 low v.1 (λ it r. elim it as (λ it. is_bad_inode (next_in m) k it ≡ true) [ None ↦ refl | Some x ↦ left_true _ (nat_lt greatest_length x.length) (right_true (nat_le (next_in m) k) _ a) ]))
  complete k low (long kind size reads lt) =
      let v = by (objects.get m (inode_key k)) refl reads in
      inl (accused k v.0 low v.1 (λ it r. elim it as (λ it. inode_of m k ≡ option_map pair_of_inode it → is_bad_inode (next_in m) k it ≡ true) [
        | None ↦ λ r. refl
        | Some x ↦ λ r.
            let same : (kind, size) ≡ pair_of_inode x = same_Some _ _ (sym reads ∙ r) in
            let length' = ap (λ (p : ℕ × ℕ). p.1) same in
            right_true (nat_le (next_in m) k || k == 0) _ (let a : nat_lt greatest_length x.length ≡ true = grind (arith, nat_tests) in a)
      ] r))
    where
      by : (o : Option (List ℕ)) → objects.get m (inode_key k) ≡ o → option_and_then read_inode o ≡ Some (kind, size) → (v : List ℕ) × (objects.get m (inode_key k) ≡ Some v)
      by None is e = absurd (cc)
      by (Some v) is e = (v, is)
  complete k low (root is other) = inr (is, other)

  -- the least bad inode, the root's among them
  pub least_of_inodes : (least : Option ℕ) → IsLeastOf (bad_inode (next_in m)) rs least → FoundLeast (IsBadInode m) (cond (is_dir (inode_at t 1)) least (lower least (Some 1)))
  least_of_inodes least is = by (is_dir (inode_at t 1)) refl
    where
      known : option_map pair_of_inode (inode_at t 1) ≡ inode_of m 1
      known = known_inode_of m rs are t tables 1 (omega arith)

      with_root : (o : Option ℕ) → (n : ℕ) → lower o (Some 1) ≡ Some n → (o ≡ Some n) ⊎ (n ≡ 1)
      with_root None n e = inr (sym (same_Some _ _ e))
      with_root (Some a) n e = by2 (nat_le a 1) refl
        where
          by2 : (b : Bool) → nat_le a 1 ≡ b → (Some a ≡ Some n) ⊎ (n ≡ 1)
          by2 true t = let s = same_Some _ _ e in let le : a ≤ 1 = grind (arith, nat_tests) in inl (ap Some (omega arith))
          by2 false t = let s = same_Some _ _ e in let le : 1 ≤ a = grind (arith, nat_tests) in inr (omega arith)

      below : (o : Option ℕ) (k : ℕ) → o ≡ Some k → (n : ℕ) × (lower o (Some 1) ≡ Some n) × (n ≤ k)
      below None k e = absurd (cc)
      below (Some a) k e = let s = same_Some _ _ e in (min a 1, refl, omega arith)

      by : (b : Bool) → is_dir (inode_at t 1) ≡ b → FoundLeast (IsBadInode m) (cond b least (lower least (Some 1)))
      by true d =
          let dir = (dir_test (inode_at t 1) true d).0 refl in
          record {
            found = λ n e. let h = is.found n e in sound h.0 h.1 n h.2 h.3;
            all = λ k low bad. elim (complete k low bad) [
              | inl c ↦ is.all c.0 k c.1 c.2 c.3
              | inr r ↦ absurd (r.1 (sym known ∙ dir))
            ];
          }
      by false d =
          let other = (dir_test (inode_at t 1) false d).1 refl in
          let bad_root : IsBadInode m 1 = root refl (λ e. other (known ∙ e)) in
          record {
            found = λ n e. elim (with_root least n e) [ inl a ↦ (let h = is.found n a in sound h.0 h.1 n h.2 h.3) | inr one ↦ subst (IsBadInode m) (sym one) bad_root ];
            all = all;
          }
        where
          one_low : (o : Option ℕ) → (n : ℕ) × (lower o (Some 1) ≡ Some n) × (n ≤ 1)
          one_low None = (1, refl, omega arith)
          one_low (Some a) = (min a 1, refl, omega arith)

          all : (k : ℕ) → k < 2 ^ 64 → IsBadInode m k → (n : ℕ) × (lower least (Some 1) ≡ Some n) × (n ≤ k)
          all k low bad = elim (complete k low bad) [
            | inl c ↦ (let a = is.all c.0 k c.1 c.2 c.3 in let b = below least a.0 a.1 in let x = a.2 in let y = b.2 in (b.0, b.1, omega arith))
            | inr r ↦ (let b = one_low least in let x = r.0 in let y = b.2 in (b.0, b.1, omega arith))
          ]

-- where no row accuses, no inode is too long
pub all_short : (next : ℕ) (rs : List Row) → IsLeastOf (bad_inode next) rs None → AreShort rs
all_short next rs is i node it at = by (is_bad_inode next node (Some it)) refl
  where
    by : (b : Bool) → is_bad_inode next node (Some it) ≡ b → it.length ≤ greatest_length
    by true e =
        let a = is.all i node (rows.Inode node (Some it)) at (ap (λ b. cond b (Some node) None) e) in
        let bad = a.1 in absurd (cc)
    by false e = long' (nat_lt greatest_length it.length) refl
      where
        long' : (c : Bool) → nat_lt greatest_length it.length ≡ c → it.length ≤ greatest_length
        long' false f = grind (arith, nat_tests)
        long' true f = let bad : true ≡ false = sym (right_true (nat_le next node || node == 0) (nat_lt greatest_length it.length) f) ∙ e in absurd (cc)
