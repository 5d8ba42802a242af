-- Which chunks and orphan objects are bad, by their rows.
use Rattle.std.proofs.Common.{◌≡◌, ℕ, ◌+◌, ◌*◌, ◌<◌, ◌^◌, inl, inr, ◌||◌, not, true, false, cond, Bool, refl, sym, ◌∙◌, ap, subst, arith, List, [], ◌++◌, length, slice_get, Option, Some, None, is_none, nat_lt}
use Rattle.std.specs.Prelude.{◌==◌}
use Rattle.std.specs.Option.{option_map}
use Rattle.std.specs.Ordering.{nat_cmp}
use Rattle.std.specs.BTreeMap.{get}
use Rattle.std.specs.FinMap as objects
use Rattle.std.proofs.lemmas.Bool.Decides.{nat_tests}
use Rattle.std.proofs.lemmas.Option.{same_Some}
use Rattle.kv_device.specs.Objects.{Objects}
use Rattle.kfs_objects.specs.declared.records.Inode.{Inode}
use Rattle.kfs_objects.specs.Keys.{be64, be32, inode_key, chunk_key, orphan_key, is_chunk}
use Rattle.kfs_shows.proofs.KeysApart.{kinds, same_chunk}
use Rattle.kfs_damages.specs.Damages.{inode_of, IsWrongChunk, nowhere, kind_is, empty, past, IsBadChunk, IsBadOrphan}
use Rattle.kfs_judge.specs.declared.row.Row.{Row}
use Rattle.kfs_judge.specs.declared.row.Row.TheVariants as rows
use Rattle.kfs_judge.specs.declared.tables.Tables.{Tables}
use Rattle.kfs_judge.specs.Judged.{FoundLeast}
use Rattle.kfs_judge.specs.Rows.{AreRows, IsRow}
use Rattle.kfs_judge.specs.Tables.{AreTables, IsLeastOf, inode_at, is_bad_chunk, bad_chunk, bad_orphan}
use Rattle.kfs_judge.proofs.Finding.{row_of_object, object_of_row}
use Rattle.kfs_judge.proofs.Inodes.{from_rows, either_of, left_true, right_true}
use Rattle.kfs_judge.proofs.Known.{pair_of_inode, tells_orphan, known_inode, known_inode_of}

same_number : (n k : ℕ) → (n == k) ≡ true → n ≡ k
same_number n k e = grind (arith, nat_tests)

is_number : (n k : ℕ) → n ≡ k → (n == k) ≡ true
is_number n k e = grind (arith, nat_tests)

not_true : (b : Bool) → not b ≡ true → b ≡ false
not_true true e = absurd (cc)
not_true false e = refl

never_true : (b : Bool) → (b ≡ true → ⊥) → b ≡ false
never_true true h = absurd (h refl)
never_true false h = refl

some_none : {A : Type 0} (o : Option A) → is_none o ≡ true → o ≡ None
some_none None e = refl
some_none (Some a) e = absurd (cc)

record ChunkRow (n c : ℕ) (v : List ℕ) (row : Row) : Type 0 where
  end : ℕ
  is_empty : Bool
  is : row ≡ rows.Chunk n end is_empty
  ends : end ≡ 4096 * c + length v
  none : is_empty ≡ (length v == 0)

tells_chunk : (n c : ℕ) (v : List ℕ) (row : Row) → n < 2 ^ 64 → c < 2 ^ 32 → IsRow (chunk_key n c, v) row → ChunkRow n c v row
tells_chunk n c v (rows.Head head) low small h = absurd (kinds 100 115 (be64 n ++ be32 c) [] (λ e. omega arith) h.tells.0)
tells_chunk n c v (rows.Inode node it) low small h = absurd (kinds 100 105 (be64 n ++ be32 c) (be64 node) (λ e. omega arith) h.tells.0)
tells_chunk n c v (rows.Entry parent child is_name) low small h = let e = h.tells in absurd (kinds 100 101 (be64 n ++ be32 c) (be64 parent ++ e.name) (λ e. omega arith) e.spelled)
tells_chunk n c v (rows.Chunk node end is_empty) low small h =
    let e = h.tells in
    let same = same_chunk n node c e.chunk low e.low small e.small e.spelled in
    record { end = end; is_empty = is_empty; is = ap (λ k. rows.Chunk k end is_empty) (sym same.0); ends = e.ends ∙ ap (λ k. 4096 * k + length v) (sym same.1); none = e.empty }
tells_chunk n c v (rows.Orphan node reads) low small h = absurd (kinds 100 111 (be64 n ++ be32 c) (be64 node) (λ e. omega arith) h.tells.0)
tells_chunk n c v rows.Strange low small h = absurd (h.tells (is_chunk n c low small))

module _ (m : Objects) (rs : List Row) (are : AreRows (objects.entries m) rs) (t : Tables) (tables : AreTables rs t) where
  -- ---- chunks

  wrong_chunk : (chunk : ℕ) (v : List ℕ) (end : ℕ) (is_empty : Bool) → end ≡ 4096 * chunk + length v → is_empty ≡ (length v == 0) → (o : Option Inode) → is_bad_chunk o end is_empty ≡ true → IsWrongChunk chunk v (option_map pair_of_inode o)
  wrong_chunk chunk v end is_empty ends none None e = nowhere
  wrong_chunk chunk v end is_empty ends none (Some it) e = elim (either_of (not (it.kind == 2) || is_empty) (nat_lt it.length end) e) [
    | inl x ↦ elim (either_of (not (it.kind == 2)) is_empty x) [
      | inl y ↦ kind_is it.kind it.length (λ s. let yes' = is_number it.kind 2 s in let bad : true ≡ false = sym yes' ∙ not_true (it.kind == 2) y in absurd (cc))
      | inr y ↦ empty (Some (pair_of_inode it)) (same_number (length v) 0 (sym none ∙ y))
    ]
    | inr x ↦ past it.kind it.length (let lt : it.length < end = grind (arith, nat_tests) in omega arith)
  ]

  sound_chunk : (i : ℕ) (row : Row) (n : ℕ) → slice_get rs i ≡ Some row → bad_chunk t row ≡ Some n → IsBadChunk m n
  sound_chunk i (rows.Head head) n at e = absurd (cc)
  sound_chunk i (rows.Inode node it) n at e = absurd (cc)
  sound_chunk i (rows.Entry parent child b) n at e = absurd (cc)
  sound_chunk i (rows.Orphan node reads) n at e = absurd (cc)
  sound_chunk i rows.Strange n at e = absurd (cc)
  sound_chunk i (rows.Chunk node end is_empty) n at e = by (is_bad_chunk (inode_at t node) end is_empty) refl e
    where
      by : (b : Bool) → is_bad_chunk (inode_at t node) end is_empty ≡ b → cond b (Some node) None ≡ Some n → IsBadChunk m n
      by true is e =
          let o = object_of_row m rs are i (rows.Chunk node end is_empty) at in
          let r = o.4 in
          let h = r.tells in
          subst (IsBadChunk m) (same_Some node n e)
          (record {
            chunk = h.chunk;
            value = o.1;
            low = h.small;
            there = subst (λ k. objects.get m k ≡ Some o.1) h.spelled o.2;
            wrong = subst (IsWrongChunk h.chunk o.1) (known_inode_of m rs are t tables node h.low) (wrong_chunk h.chunk o.1 end is_empty h.ends h.empty (inode_at t node) is);
          })
      by false is e = absurd (cc)

  bad_of : (chunk : ℕ) (v : List ℕ) (end : ℕ) (is_empty : Bool) → end ≡ 4096 * chunk + length v → is_empty ≡ (length v == 0) → (p : Option (ℕ × ℕ)) → IsWrongChunk chunk v p → (o : Option Inode) → option_map pair_of_inode o ≡ p → is_bad_chunk o end is_empty ≡ true
  bad_of chunk v end is_empty ends none p w None e = refl
  bad_of chunk v end is_empty ends none _ nowhere (Some it) e = absurd (cc)
  bad_of chunk v end is_empty ends none _ (kind_is kind size ne) (Some it) e =
      let same = ap (λ (q : ℕ × ℕ). q.0) (same_Some _ _ e) in
      left_true _ (nat_lt it.length end) (left_true _ is_empty (ap not (never_true (it.kind == 2) (λ s. ne (sym same ∙ same_number it.kind 2 s)))))
  bad_of chunk v end is_empty ends none _ (empty other zero') (Some it) e = left_true _ (nat_lt it.length end) (right_true (not (it.kind == 2)) is_empty (none ∙ is_number (length v) 0 zero'))
  bad_of chunk v end is_empty ends none _ (past kind size lt) (Some it) e =
      let same = ap (λ (q : ℕ × ℕ). q.1) (same_Some _ _ e) in
      right_true (not (it.kind == 2) || is_empty) _ (let lt' : it.length < end = omega arith in grind (arith, nat_tests))

  complete_chunk : (n : ℕ) → n < 2 ^ 64 → IsBadChunk m n → (i : ℕ) × (row : Row) × (slice_get rs i ≡ Some row) × (bad_chunk t row ≡ Some n)
  complete_chunk n low h =
      let r = row_of_object m rs are (chunk_key n h.chunk) h.value h.there in
      let s = tells_chunk n h.chunk h.value r.1 low h.low r.3 in
      let b = bad_of h.chunk h.value s.end s.is_empty s.ends s.none (inode_of m n) h.wrong (inode_at t n) (known_inode_of m rs are t tables n low) in
      (r.0, r.1, r.2, ap (bad_chunk t) s.is ∙ ap (λ b. cond b (Some n) None) b)

  pub least_of_chunks : (least : Option ℕ) → IsLeastOf (bad_chunk t) rs least → FoundLeast (IsBadChunk m) least
  least_of_chunks least is = from_rows (IsBadChunk m) (bad_chunk t) rs least is sound_chunk complete_chunk

  -- ---- orphan objects

  gone : (n : ℕ) → n < 2 ^ 64 → is_none (get nat_cmp t.inodes n) ≡ true → objects.get m (inode_key n) ≡ None
  gone n low x = elim (known_inode m rs are t tables n low) [ inl h ↦ h.1 | inr h ↦ (let bad : Some h.0 ≡ None = sym h.2 ∙ some_none _ x in absurd (cc)) ]

  absent : (n : ℕ) → n < 2 ^ 64 → objects.get m (inode_key n) ≡ None → is_none (get nat_cmp t.inodes n) ≡ true
  absent n low none = elim (known_inode m rs are t tables n low) [ inl h ↦ ap is_none h.0 | inr h ↦ (let bad : Some h.1 ≡ None = sym h.3 ∙ none in absurd (cc)) ]

  sound_orphan : (i : ℕ) (row : Row) (n : ℕ) → slice_get rs i ≡ Some row → bad_orphan t row ≡ Some n → IsBadOrphan m n
  sound_orphan i (rows.Head head) n at e = absurd (cc)
  sound_orphan i (rows.Inode node it) n at e = absurd (cc)
  sound_orphan i (rows.Entry parent child b) n at e = absurd (cc)
  sound_orphan i (rows.Chunk node end is_empty) n at e = absurd (cc)
  sound_orphan i rows.Strange n at e = absurd (cc)
  sound_orphan i (rows.Orphan node reads) n at e = by (not reads || is_none (get nat_cmp t.inodes node) || node == 1) refl e
    where
      by : (b : Bool) → (not reads || is_none (get nat_cmp t.inodes node) || node == 1) ≡ b → cond b (Some node) None ≡ Some n → IsBadOrphan m n
      by true is e =
          let o = object_of_row m rs are i (rows.Orphan node reads) at in
          let h = o.4 in
          subst (IsBadOrphan m) (same_Some node n e)
          (record {
            value = o.1;
            there = subst (λ k. objects.get m k ≡ Some o.1) h.tells.0 o.2;
            wrong = elim (either_of (not reads || is_none (get nat_cmp t.inodes node)) (node == 1) is) [
              | inr x ↦ inr (inr (same_number node 1 x))
              | inl x ↦ elim (either_of (not reads) (is_none (get nat_cmp t.inodes node)) x) [
                | inr y ↦ inr (inl (gone node h.tells.1 y))
                | inl y ↦ inl (λ s. let yes' = h.tells.3 s in let bad : true ≡ false = sym yes' ∙ not_true reads y in absurd (cc))
              ]
            ];
          })
      by false is e = absurd (cc)

  complete_orphan : (n : ℕ) → n < 2 ^ 64 → IsBadOrphan m n → (i : ℕ) × (row : Row) × (slice_get rs i ≡ Some row) × (bad_orphan t row ≡ Some n)
  complete_orphan n low h =
      let r = row_of_object m rs are (orphan_key n) h.value h.there in
      let s = tells_orphan n h.value r.1 low r.3 in
      let b : (not s.0 || is_none (get nat_cmp t.inodes n) || n == 1) ≡ true = elim h.wrong [
        | inl x ↦ left_true _ (n == 1) (left_true _ (is_none (get nat_cmp t.inodes n)) (ap not (never_true s.0 (λ y. x (s.2 y)))))
        | inr x ↦ elim x [
          | inl y ↦ left_true _ (n == 1) (right_true (not s.0) _ (absent n low y))
          | inr y ↦ right_true (not s.0 || is_none (get nat_cmp t.inodes n)) _ (is_number n 1 y)
        ]
      ] in
      (r.0, r.1, r.2, ap (bad_orphan t) s.1 ∙ ap (λ b. cond b (Some n) None) b)

  pub least_of_orphans : (least : Option ℕ) → IsLeastOf (bad_orphan t) rs least → FoundLeast (IsBadOrphan m) least
  least_of_orphans least is = from_rows (IsBadOrphan m) (bad_orphan t) rs least is sound_orphan complete_orphan
