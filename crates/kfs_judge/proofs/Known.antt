-- What the tables say of the objects.
use Rattle.std.proofs.Common.{◌≡◌, ℕ, zero, suc, ◌<◌, ◌^◌, ◌⊎◌, inl, inr, ◌||◌, true, false, cond, Bool, refl, sym, ◌∙◌, ap, subst, arith, List, [], ◌∷◌, ◌++◌, slice_get, Option, Some, None, is_some}
use Rattle.std.specs.Prelude.{◌==◌}
use Rattle.std.specs.Option.{option_map, option_and_then}
use Rattle.std.specs.List.{list_any}
use Rattle.std.specs.Ordering.{nat_cmp}
use Rattle.std.specs.BTreeMap.{get}
use Rattle.std.specs.BTreeSet.{contains}
use Rattle.std.specs.FinMap as objects
use Rattle.std.proofs.lemmas.Bool.Decides.{nat_tests}
use Rattle.std.proofs.lemmas.Option.{same_Some}
use Rattle.kv_device.specs.Objects.{Objects}
use Rattle.kfs_objects.specs.declared.records.Inode.{Inode}
use Rattle.kfs_objects.specs.Keys.{be64, be32, inode_key, orphan_key, is_inode, is_orphan}
use Rattle.kfs_objects.specs.Records.{read_inode, orphan_value}
use Rattle.kfs_objects.proofs.KeyLaws.{same64}
use Rattle.kfs_shows.proofs.KeysApart.{kinds, tails, same_inode}
use Rattle.kfs_damages.specs.Damages.{inode_of}
use Rattle.kfs_judge.specs.declared.row.Row.{Row}
use Rattle.kfs_judge.specs.declared.row.Row.TheVariants as rows
use Rattle.kfs_judge.specs.declared.tables.Tables.{Tables}
use Rattle.kfs_judge.specs.Rows.{AreRows, IsRow}
use Rattle.kfs_judge.specs.Tables.{AreTables, recent, or_else, inode_row, orphan_row, inode_at}
use Rattle.kfs_judge.proofs.Finding.{row_of_object, object_of_row}

-- ---- rows that say something

abbrev pub Says : {A : Type 0} → (Row → Option A) → List Row → A → Type 0
Says f rs a = (i : ℕ) × (row : Row) × (slice_get rs i ≡ Some row) × (f row ≡ Some a)

pub recent_some : {A : Type 0} (f : Row → Option A) (rs : List Row) (a : A) → recent f rs ≡ Some a → Says f rs a
recent_some f [] a e = absurd (cc)
recent_some {A = A} f (r ∷ rs) a e = by (recent f rs) refl (recent_some f rs a) e
  where
    by : (o : Option A) → recent f rs ≡ o → (recent f rs ≡ Some a → Says f rs a) → or_else o (f r) ≡ Some a → Says f (r ∷ rs) a
    by (Some b) is rest e = let h = rest (is ∙ e) in (suc h.0, h.1, h.2, h.3)
    by None is rest e = (0, r, refl, e)

pub recent_none : {A : Type 0} (f : Row → Option A) (rs : List Row) → recent f rs ≡ None → (i : ℕ) (row : Row) → slice_get rs i ≡ Some row → f row ≡ None
recent_none f [] e i row at = absurd (cc)
recent_none {A = A} f (r ∷ rs) e i row at = by (recent f rs) refl (recent_none f rs) e i at
  where
    by : (o : Option A) → recent f rs ≡ o → (recent f rs ≡ None → (i : ℕ) (row : Row) → slice_get rs i ≡ Some row → f row ≡ None) → or_else o (f r) ≡ None → (i : ℕ) → slice_get (r ∷ rs) i ≡ Some row → f row ≡ None
    by (Some b) is rest e i at = absurd (cc)
    by None is rest e zero at = ap f (sym (same_Some _ _ at)) ∙ e
    by None is rest e (suc i) at = rest is i row at

pub any_some : (p : Row → Bool) (rs : List Row) → list_any p rs ≡ true → (i : ℕ) × (row : Row) × (slice_get rs i ≡ Some row) × (p row ≡ true)
any_some p [] e = absurd (cc)
any_some p (r ∷ rs) e = by (p r) refl (any_some p rs) e
  where
    by : (b : Bool) → p r ≡ b → (list_any p rs ≡ true → (i : ℕ) × (row : Row) × (slice_get rs i ≡ Some row) × (p row ≡ true)) → (b || list_any p rs) ≡ true → (i : ℕ) × (row : Row) × (slice_get (r ∷ rs) i ≡ Some row) × (p row ≡ true)
    by true is rest e = (0, r, refl, is)
    by false is rest e = let h = rest e in (suc h.0, h.1, h.2, h.3)

pub any_at : (p : Row → Bool) (rs : List Row) (i : ℕ) (row : Row) → slice_get rs i ≡ Some row → p row ≡ true → list_any p rs ≡ true
any_at p [] i row at e = absurd (cc)
any_at p (r ∷ rs) zero row at e = ap (λ b. b || list_any p rs) (ap p (same_Some _ _ at) ∙ e)
any_at p (r ∷ rs) (suc i) row at e = ap (λ b. p r || b) (any_at p rs i row at e) ∙ either (p r)
  where
    either : (b : Bool) → (b || true) ≡ true
    either true = refl
    either false = refl

-- ---- inodes

abbrev pub pair_of_inode : Inode → ℕ × ℕ
pair_of_inode i = (i.kind, i.length)

pub tells_inode : (n : ℕ) (v : List ℕ) (row : Row) → n < 2 ^ 64 → IsRow (inode_key n, v) row → (it : Option Inode) × (row ≡ rows.Inode n it) × (option_map pair_of_inode it ≡ read_inode v)
tells_inode n v (rows.Head head) low h = absurd (kinds 105 115 (be64 n) [] (λ e. omega arith) h.tells.0)
tells_inode n v (rows.Inode node it) low h = (it, ap (λ k. rows.Inode k it) (sym (same_inode n node low h.tells.1 h.tells.0)), h.tells.2)
tells_inode n v (rows.Entry parent child is_name) low h = let e = h.tells in absurd (kinds 105 101 (be64 n) (be64 parent ++ e.name) (λ e. omega arith) e.spelled)
tells_inode n v (rows.Chunk node end is_empty) low h = let e = h.tells in absurd (kinds 105 100 (be64 n) (be64 node ++ be32 e.chunk) (λ e. omega arith) e.spelled)
tells_inode n v (rows.Orphan node reads) low h = absurd (kinds 105 111 (be64 n) (be64 node) (λ e. omega arith) h.tells.0)
tells_inode n v rows.Strange low h = absurd (h.tells (is_inode n low))

same_number : (n k : ℕ) → (n == k) ≡ true → n ≡ k
same_number n k e = grind (arith, nat_tests)

own_number : (n : ℕ) → (n == n) ≡ true
own_number n = grind (arith, nat_tests)

inode_row_is : (n : ℕ) (row : Row) (it : Option Inode) → inode_row n row ≡ Some it → row ≡ rows.Inode n it
inode_row_is n (rows.Head head) it e = absurd (cc)
inode_row_is n (rows.Inode node inode) it e = by (node == n) refl e
  where
    by : (b : Bool) → (node == n) ≡ b → cond b (Some inode) None ≡ Some it → rows.Inode node inode ≡ rows.Inode n it
    by true is e = λ i. rows.Inode (same_number node n is i) (same_Some inode it e i)
    by false is e = absurd (cc)
inode_row_is n (rows.Entry parent child is_name) it e = absurd (cc)
inode_row_is n (rows.Chunk node end is_empty) it e = absurd (cc)
inode_row_is n (rows.Orphan node reads) it e = absurd (cc)
inode_row_is n rows.Strange it e = absurd (cc)

-- ---- orphan objects

pub tells_orphan : (n : ℕ) (v : List ℕ) (row : Row) → n < 2 ^ 64 → IsRow (orphan_key n, v) row → (reads : Bool) × (row ≡ rows.Orphan n reads) × (reads ≡ true → v ≡ orphan_value) × (v ≡ orphan_value → reads ≡ true)
tells_orphan n v (rows.Head head) low h = absurd (kinds 111 115 (be64 n) [] (λ e. omega arith) h.tells.0)
tells_orphan n v (rows.Inode node it) low h = absurd (kinds 111 105 (be64 n) (be64 node) (λ e. omega arith) h.tells.0)
tells_orphan n v (rows.Entry parent child is_name) low h = let e = h.tells in absurd (kinds 111 101 (be64 n) (be64 parent ++ e.name) (λ e. omega arith) e.spelled)
tells_orphan n v (rows.Chunk node end is_empty) low h = let e = h.tells in absurd (kinds 111 100 (be64 n) (be64 node ++ be32 e.chunk) (λ e. omega arith) e.spelled)
tells_orphan n v (rows.Orphan node reads) low h = (reads, ap (λ k. rows.Orphan k reads) (sym (same64 n node low h.tells.1 (tails _ _ _ _ h.tells.0))), h.tells.2, h.tells.3)
tells_orphan n v rows.Strange low h = absurd (h.tells (is_orphan n low))

module _ (m : Objects) (rs : List Row) (are : AreRows (objects.entries m) rs) (t : Tables) (tables : AreTables rs t) where
  -- the inode's row of a node has its inode
  pub inode_at_row : (i n : ℕ) (it : Option Inode) → slice_get rs i ≡ Some (rows.Inode n it) → (v : List ℕ) × (n < 2 ^ 64) × (objects.get m (inode_key n) ≡ Some v) × (option_map pair_of_inode it ≡ read_inode v)
  inode_at_row i n it at =
      let o = object_of_row m rs are i (rows.Inode n it) at in
      let h = o.4 in
      (o.1, h.tells.1, subst (λ k. objects.get m k ≡ Some o.1) h.tells.0 o.2, h.tells.2)

  abbrev IsAbsent : ℕ → Type 0
  IsAbsent n = (get nat_cmp t.inodes n ≡ None) × (objects.get m (inode_key n) ≡ None)

  abbrev IsThere : ℕ → Type 0
  IsThere n = (it : Option Inode) × (v : List ℕ) × (get nat_cmp t.inodes n ≡ Some it) × (objects.get m (inode_key n) ≡ Some v) × (option_map pair_of_inode it ≡ read_inode v)

  -- the table of inodes is right
  pub known_inode : (n : ℕ) → n < 2 ^ 64 → IsAbsent n ⊎ IsThere n
  known_inode n low = by (get nat_cmp t.inodes n) refl
    where
      none : (o : Option (List ℕ)) → objects.get m (inode_key n) ≡ o → recent (inode_row n) rs ≡ None → objects.get m (inode_key n) ≡ None
      none None is e = is
      none (Some v) is e =
          let r = row_of_object m rs are (inode_key n) v is in
          let s = tells_inode n v r.1 low r.3 in
          let a = recent_none (inode_row n) rs e r.0 r.1 r.2 in
          let b : inode_row n r.1 ≡ Some s.0 = ap (inode_row n) s.1 ∙ ap (λ b. cond b (Some s.0) None) (own_number n) in
          absurd (let bad : Some s.0 ≡ None = sym b ∙ a in cc)

      by : (o : Option (Option Inode)) → get nat_cmp t.inodes n ≡ o → IsAbsent n ⊎ IsThere n
      by None is = inl (is, none (objects.get m (inode_key n)) refl (sym (tables.inodes n) ∙ is))
      by (Some it) is =
          let r = recent_some (inode_row n) rs it (sym (tables.inodes n) ∙ is) in
          let row = inode_row_is n r.1 it r.3 in
          let o = inode_at_row r.0 n it (r.2 ∙ ap Some row) in
          inr (it, o.0, is, o.2, o.3)

  -- so is what it says of an inode that reads
  pub known_inode_of : (n : ℕ) → n < 2 ^ 64 → option_map pair_of_inode (inode_at t n) ≡ inode_of m n
  known_inode_of n low = elim (known_inode n low) [
    | inl h ↦ ap (λ o. option_map pair_of_inode (option_and_then (λ i. i) o)) h.0 ∙ sym (ap (option_and_then read_inode) h.1)
    | inr h ↦ ap (λ o. option_map pair_of_inode (option_and_then (λ i. i) o)) h.2 ∙ h.4 ∙ sym (ap (option_and_then read_inode) h.3)
  ]

  -- and that of orphan objects
  pub known_orphan : (n : ℕ) → n < 2 ^ 64 → contains nat_cmp t.orphans n ≡ is_some (objects.get m (orphan_key n))
  known_orphan n low = by (objects.get m (orphan_key n)) refl
    where
      row_is : (row : Row) → orphan_row n row ≡ true → (reads : Bool) × (row ≡ rows.Orphan n reads)
      row_is (rows.Head head) e = absurd (cc)
      row_is (rows.Inode node it) e = absurd (cc)
      row_is (rows.Entry parent child is_name) e = absurd (cc)
      row_is (rows.Chunk node end is_empty) e = absurd (cc)
      row_is (rows.Orphan node reads) e = (reads, ap (λ k. rows.Orphan k reads) (same_number node n e))
      row_is rows.Strange e = absurd (cc)

      test : (b : Bool) → list_any (orphan_row n) rs ≡ b → objects.get m (orphan_key n) ≡ None → list_any (orphan_row n) rs ≡ false
      test false is none = is
      test true is none =
          let a = any_some (orphan_row n) rs is in
          let r = row_is a.1 a.3 in
          let o = object_of_row m rs are a.0 (rows.Orphan n r.0) (a.2 ∙ ap Some r.1) in
          let h = o.4 in
          let there : objects.get m (orphan_key n) ≡ Some o.1 = subst (λ k. objects.get m k ≡ Some o.1) h.tells.0 o.2 in
          absurd (let bad : Some o.1 ≡ None = sym there ∙ none in cc)

      by : (o : Option (List ℕ)) → objects.get m (orphan_key n) ≡ o → contains nat_cmp t.orphans n ≡ is_some o
      by None is = tables.orphans n ∙ test (list_any (orphan_row n) rs) refl is
      by (Some v) is =
          let r = row_of_object m rs are (orphan_key n) v is in
          let s = tells_orphan n v r.1 low r.3 in
          let b : orphan_row n r.1 ≡ true = ap (orphan_row n) s.1 ∙ own_number n in
          tables.orphans n ∙ any_at (orphan_row n) rs r.0 r.1 r.2 b
