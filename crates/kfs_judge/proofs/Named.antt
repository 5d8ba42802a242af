-- What the tables say of names.
use Rattle.std.proofs.Common.{◌≡◌, ◌≢◌, ℕ, zero, suc, ◌<◌, ◌^◌, ◌&&◌, ◌||◌, true, false, Bool, refl, sym, ◌∙◌, ap, subst, arith, List, [], ◌∷◌, ◌++◌, slice_get, Option, Some, None, unwrap_or}
use Rattle.std.specs.Prelude.{◌==◌}
use Rattle.std.specs.List.{list_any}
use Rattle.std.specs.Ordering.{nat_cmp}
use Rattle.std.specs.BTreeSet.{contains}
use Rattle.std.specs.FinMap as objects
use Rattle.std.proofs.lemmas.Bool.Decides.{nat_tests}
use Rattle.std.proofs.lemmas.Option.{same_Some}
use Rattle.kv_device.specs.Objects.{Objects}
use Rattle.kfs_objects.specs.Keys.{be64, be32, entry_key, is_entry}
use Rattle.kfs_objects.specs.Records.{read_entry}
use Rattle.kfs_model.specs.Tree.{Name, IsName, IsShort}
use Rattle.kfs_shows.proofs.KeysApart.{kinds, same_parent, same_name}
use Rattle.kfs_damages.specs.Damages.{IsEntry, IsNamed}
use Rattle.kfs_judge.specs.declared.row.Row.{Row}
use Rattle.kfs_judge.specs.declared.row.Row.TheVariants as rows
use Rattle.kfs_judge.specs.declared.reaching.Edge.{Edge}
use Rattle.kfs_judge.specs.declared.tables.Tables.{Tables}
use Rattle.kfs_judge.specs.Rows.{AreRows, IsRow}
use Rattle.kfs_judge.specs.Tables.{AreTables, named_row, is_twice}
use Rattle.kfs_judge.specs.Reaching.{edge_of, edge_list, edges_in, IsOf}
use Rattle.kfs_judge.proofs.Finding.{row_of_object, object_of_row}
use Rattle.kfs_judge.proofs.Known.{any_some, any_at}

same_number : (n k : ℕ) → (n == k) ≡ true → n ≡ k
same_number n k e = grind (arith, nat_tests)

is_number : (n k : ℕ) → n ≡ k → (n == k) ≡ true
is_number n k e = grind (arith, nat_tests)

-- ---- the row of an entry

pub record EntryRow (p : ℕ) (name : Name) (v : List ℕ) (row : Row) : Type 0 where
  pub child : Option ℕ
  pub named : Bool
  pub is : row ≡ rows.Entry p child named
  pub reads : child ≡ read_entry v
  pub is_name : named ≡ true → IsName name
  pub is_none : IsName name → named ≡ true

pub tells_entry : (p : ℕ) (name : Name) (v : List ℕ) (row : Row) → p < 2 ^ 64 → IsShort name → IsRow (entry_key p name, v) row → EntryRow p name v row
tells_entry p name v (rows.Head head) low short h = absurd (kinds 101 115 (be64 p ++ name) [] (λ e. omega arith) h.tells.0)
tells_entry p name v (rows.Inode node it) low short h = absurd (kinds 101 105 (be64 p ++ name) (be64 node) (λ e. omega arith) h.tells.0)
tells_entry p name v (rows.Entry parent child is_name) low short h =
    let e = h.tells in
    let same = same_parent p parent name e.name low e.low e.spelled in
    let other = same_name p parent name e.name e.spelled in
    record { child = child; named = is_name; is = ap (λ k. rows.Entry k child is_name) (sym same); reads = e.reads; is_name = λ t. subst IsName (sym other) (e.is_name t); is_none = λ t. e.is_none (subst IsName other t) }
tells_entry p name v (rows.Chunk node end is_empty) low short h = let e = h.tells in absurd (kinds 101 100 (be64 p ++ name) (be64 node ++ be32 e.chunk) (λ e. omega arith) e.spelled)
tells_entry p name v (rows.Orphan node reads) low short h = absurd (kinds 101 111 (be64 p ++ name) (be64 node) (λ e. omega arith) h.tells.0)
tells_entry p name v rows.Strange low short h = absurd (h.tells (is_entry p name low short))

-- ---- two rows that pass a test

pub first_two : (p : Row → Bool) (rs : List Row) → is_twice p rs ≡ true → (i j : ℕ) × (one other : Row) × (slice_get rs i ≡ Some one) × (slice_get rs j ≡ Some other) × (p one ≡ true) × (p other ≡ true) × (i ≢ j)
first_two p [] e = absurd (cc)
first_two p (r ∷ rs) e = by (p r) (list_any p rs) refl refl (first_two p rs) e
  where
    by : (a b : Bool) → p r ≡ a → list_any p rs ≡ b
        → (is_twice p rs ≡ true → (i j : ℕ) × (one other : Row) × (slice_get rs i ≡ Some one) × (slice_get rs j ≡ Some other) × (p one ≡ true) × (p other ≡ true) × (i ≢ j))
        → ((a && b) || is_twice p rs) ≡ true → (i j : ℕ) × (one other : Row) × (slice_get (r ∷ rs) i ≡ Some one) × (slice_get (r ∷ rs) j ≡ Some other) × (p one ≡ true) × (p other ≡ true) × (i ≢ j)
    by true true a b rest e = let h = any_some p rs b in (0, suc h.0, r, h.1, refl, h.2, a, h.3, λ e. omega arith)
    by true false a b rest e = let h = rest e in (suc h.0, suc h.1, h.2, h.3, h.4, h.5, h.6, h.7, λ e. h.8 (omega arith))
    by false b a c rest e = let h = rest e in (suc h.0, suc h.1, h.2, h.3, h.4, h.5, h.6, h.7, λ e. h.8 (omega arith))

pub two_there : (p : Row → Bool) (rs : List Row) (i j : ℕ) (one other : Row) → slice_get rs i ≡ Some one → slice_get rs j ≡ Some other → p one ≡ true → p other ≡ true → i ≢ j → is_twice p rs ≡ true
two_there p [] i j one other a b s t d = absurd (cc)
two_there p (r ∷ rs) zero zero one other a b s t d = absurd (d refl)
two_there p (r ∷ rs) zero (suc j) one other a b s t d = (λ i. ((ap p (same_Some _ _ a) ∙ s) i && any_at p rs j other b t i) || is_twice p rs)
two_there p (r ∷ rs) (suc i) zero one other a b s t d = (λ k. ((ap p (same_Some _ _ b) ∙ t) k && any_at p rs i one a s k) || is_twice p rs)
two_there p (r ∷ rs) (suc i) (suc j) one other a b s t d = ap (λ c. (p r && list_any p rs) || c) (two_there p rs i j one other a b s t (λ e. d (ap suc e))) ∙ either (p r && list_any p rs)
  where
    either : (b : Bool) → (b || true) ≡ true
    either true = refl
    either false = refl

-- ---- edges

pub edge_split : (rs : List Row) (e : Edge) → IsOf (edges_in rs) e → (i : ℕ) × (row : Row) × (slice_get rs i ≡ Some row) × (edge_of row ≡ Some e)
edge_split [] e h = let bad = h.here in absurd (cc)
edge_split (r ∷ rs) e h = by (edge_of r) refl (λ h. edge_split rs e h) h.place h.here
  where
    by : (o : Option Edge) → edge_of r ≡ o → (IsOf (edges_in rs) e → (i : ℕ) × (row : Row) × (slice_get rs i ≡ Some row) × (edge_of row ≡ Some e)) → (i : ℕ) → slice_get (edge_list o ++ edges_in rs) i ≡ Some e
        → (i : ℕ) × (row : Row) × (slice_get (r ∷ rs) i ≡ Some row) × (edge_of row ≡ Some e)
    by None is rest i at = let h = rest (record { place = i; here = at }) in (suc h.0, h.1, h.2, h.3)
    by (Some x) is rest zero at = (0, r, refl, is ∙ at)
    by (Some x) is rest (suc i) at = let h = rest (record { place = i; here = at }) in (suc h.0, h.1, h.2, h.3)

pub edge_there : (rs : List Row) (i : ℕ) (row : Row) (e : Edge) → slice_get rs i ≡ Some row → edge_of row ≡ Some e → IsOf (edges_in rs) e
edge_there [] i row e at is = absurd (cc)
edge_there (r ∷ rs) zero row e at is = let o : edge_of r ≡ Some e = ap edge_of (same_Some _ _ at) ∙ is in record { place = 0; here = ap (λ o. slice_get (edge_list o ++ edges_in rs) 0) o }
edge_there (r ∷ rs) (suc i) row e at is = by (edge_of r) (edge_there rs i row e at is)
  where
    by : (o : Option Edge) → IsOf (edges_in rs) e → IsOf (edge_list o ++ edges_in rs) e
    by None h = record { place = h.place; here = h.here }
    by (Some x) h = record { place = suc h.place; here = h.here }

pub edge_row : (row : Row) (e : Edge) → edge_of row ≡ Some e → (named : Bool) × (row ≡ rows.Entry e.parent (Some e.child) named)
edge_row (rows.Head head) e is = absurd (cc)
edge_row (rows.Inode node it) e is = absurd (cc)
edge_row (rows.Entry parent None named) e is = absurd (cc)
edge_row (rows.Entry parent (Some child) named) e is = let same = same_Some _ _ is in (named, λ i. rows.Entry (same i).parent (Some (same i).child) named)
edge_row (rows.Chunk node end is_empty) e is = absurd (cc)
edge_row (rows.Orphan node reads) e is = absurd (cc)
edge_row rows.Strange e is = absurd (cc)

module _ (m : Objects) (rs : List Row) (are : AreRows (objects.entries m) rs) where
  -- an entry, and its row
  pub record EntryAt (i : ℕ) (parent : ℕ) (child : Option ℕ) (named : Bool) : Type 0 where
    pub name : Name
    pub value : List ℕ
    pub entry : IsEntry m parent name value
    pub place : slice_get (objects.entries m) i ≡ Some (entry_key parent name, value)
    pub reads : child ≡ read_entry value
    pub child_low : (n : ℕ) → child ≡ Some n → n < 2 ^ 64
    pub is_name : named ≡ true → IsName name
    pub is_none : IsName name → named ≡ true

  pub entry_at : (i parent : ℕ) (child : Option ℕ) (named : Bool) → slice_get rs i ≡ Some (rows.Entry parent child named) → EntryAt i parent child named
  entry_at i parent child named at =
      let o = object_of_row m rs are i (rows.Entry parent child named) at in
      let h = o.4 in
      let e = h.tells in
      record {
        name = e.name;
        value = o.1;
        entry = record { low = e.low; short = e.short; there = subst (λ k. objects.get m k ≡ Some o.1) e.spelled o.2 };
        place = subst (λ k. slice_get (objects.entries m) i ≡ Some (k, o.1)) e.spelled o.3;
        reads = e.reads;
        child_low = e.child_low;
        is_name = e.is_name;
        is_none = e.is_none;
      }

  abbrev pub names_by : (i parent : ℕ) (child : Option ℕ) (named : Bool) (n : ℕ) → EntryAt i parent child named → unwrap_or child parent ≡ n → IsNamed m n
  names_by i parent child named n e is = record { parent = parent; name = e.name; value = e.value; entry = e.entry; is = ap (λ c. unwrap_or c parent) (sym e.reads) ∙ is }

  -- the row of an entry that names a node
  pub record NamingRow (n : ℕ) (it : IsNamed m n) : Type 0 where
    pub place : ℕ
    pub child : Option ℕ
    pub named : Bool
    pub here : slice_get rs place ≡ Some (rows.Entry it.parent child named)
    pub reads : child ≡ read_entry it.value
    pub is : unwrap_or child it.parent ≡ n
    pub is_name : named ≡ true → IsName it.name
    pub pair : slice_get (objects.entries m) place ≡ Some (entry_key it.parent it.name, it.value)

  pub row_naming : (n : ℕ) (it : IsNamed m n) → NamingRow n it
  row_naming n it =
      let e = it.entry in
      let r = row_of_object m rs are (entry_key it.parent it.name) it.value e.there in
      let s = tells_entry it.parent it.name it.value r.1 e.low e.short r.3 in
      let here = r.2 ∙ ap Some s.is in
      record {
        place = r.0;
        child = s.child;
        named = s.named;
        here = here;
        reads = s.reads;
        is = ap (λ c. unwrap_or c it.parent) s.reads ∙ it.is;
        is_name = s.is_name;
        pair = r.4;
      }

  module _ (t : Tables) (tables : AreTables rs t) where
    pub named_is : (row : Row) (n : ℕ) → named_row n row ≡ true → (parent : ℕ) × (child : Option ℕ) × (b : Bool) × (row ≡ rows.Entry parent child b) × (unwrap_or child parent ≡ n)
    named_is (rows.Head head) n e = absurd (cc)
    named_is (rows.Inode node it) n e = absurd (cc)
    named_is (rows.Entry parent child b) n e = (parent, child, b, refl, same_number (unwrap_or child parent) n e)
    named_is (rows.Chunk node end is_empty) n e = absurd (cc)
    named_is (rows.Orphan node reads) n e = absurd (cc)
    named_is rows.Strange n e = absurd (cc)

    pub named_some : (n : ℕ) → contains nat_cmp t.named n ≡ true → IsNamed m n
    named_some n e =
        let a = any_some (named_row n) rs (sym (tables.named n) ∙ e) in
        let r = named_is a.1 n a.3 in
        names_by a.0 r.0 r.1 r.2 n (entry_at a.0 r.0 r.1 r.2 (a.2 ∙ ap Some r.3)) r.4

    pub named_all : (n : ℕ) → IsNamed m n → contains nat_cmp t.named n ≡ true
    named_all n it =
        let r = row_naming n it in
        tables.named n ∙ any_at (named_row n) rs r.place (rows.Entry it.parent r.child r.named) r.here (is_number (unwrap_or r.child it.parent) n r.is)
