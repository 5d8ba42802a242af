-- Which names are bad, by the rows and the tables.
use Rattle.std.proofs.Common.{◌≡◌, ◌≢◌, ℕ, ◌<◌, ◌^◌, inl, inr, ◌&&◌, ◌||◌, not, true, false, cond, Bool, refl, sym, ◌∙◌, ap, subst, arith, List, slice_get, Option, Some, None, IsSome, is_some, is_none, unwrap_or}
use Rattle.std.proofs.lemmas.Bool.{and_parts}
use Rattle.std.specs.Prelude.{◌==◌}
use Rattle.std.specs.Ordering.{nat_cmp}
use Rattle.std.specs.BTreeMap.{get}
use Rattle.std.specs.BTreeSet.{contains}
use Rattle.std.specs.FinMap as objects
use Rattle.std.proofs.lemmas.Bool.Decides.{nat_tests}
use Rattle.std.proofs.lemmas.Option.{same_Some}
use Rattle.kv_device.specs.Objects.{Objects}
use Rattle.kfs_objects.specs.Keys.{inode_key, entry_key, orphan_key}
use Rattle.kfs_shows.proofs.KeysApart.{same_parent, same_name}
use Rattle.kfs_damages.specs.Damages.{IsNamed, names, IsReached, is_root, is_below, IsWrong, unread, parentless, nameless, IsBadEntry, wrong, missing, twice, root, lost, both, apart}
use Rattle.kfs_judge.specs.declared.row.Row.{Row}
use Rattle.kfs_judge.specs.declared.row.Row.TheVariants as rows
use Rattle.kfs_judge.specs.declared.reaching.Edge.{Edge}
use Rattle.kfs_judge.specs.declared.tables.Tables.{Tables}
use Rattle.kfs_judge.specs.Rows.{AreRows}
use Rattle.kfs_judge.specs.Tables.{AreTables, IsLeastOf, inode_at, is_dir, named_row, is_bad_name, is_lost, bad_entry}
use Rattle.kfs_judge.specs.Reaching.{edge_of, edges_in, IsOf, IsLinked, starts, goes_on, AllReached}
use Rattle.kfs_judge.specs.Reaching as reaching
use Rattle.kfs_judge.specs.Judged.{FoundLeast}
use Rattle.kfs_judge.proofs.Finding.{row_of_object, one_place}
use Rattle.kfs_judge.proofs.Inodes.{from_rows, either_of, left_true, right_true, dir_test}
use Rattle.kfs_judge.proofs.Known.{tells_inode, inode_at_row, known_inode, known_inode_of, known_orphan}
use Rattle.kfs_judge.proofs.Named.{tells_entry, EntryAt, entry_at, names_by, NamingRow, row_naming, named_is, named_some, named_all, first_two, two_there, edge_split, edge_there, edge_row}

same_number : (n k : ℕ) → (n == k) ≡ true → n ≡ k
same_number n k e = grind (arith, nat_tests)

is_number : (n k : ℕ) → n ≡ k → (n == k) ≡ true
is_number n k e = grind (arith, nat_tests)

differs : (n k : ℕ) → (n == k) ≡ false → n ≢ k
differs n k e same = let t = is_number n k same in let bad : true ≡ false = sym t ∙ e in absurd (cc)

not_true : (b : Bool) → not b ≡ true → b ≡ false
not_true true e = absurd (cc)
not_true false e = refl

not_false : (b : Bool) → b ≡ false → not b ≡ true
not_false b e = ap not e

never_true : (b : Bool) → (b ≡ true → ⊥) → b ≡ false
never_true true h = absurd (h refl)
never_true false h = refl

some_none : {A : Type 0} (o : Option A) → is_none o ≡ true → o ≡ None
some_none None e = refl
some_none (Some a) e = absurd (cc)

value_of : (o : Option (List ℕ)) → IsSome o → (v : List ℕ) × (o ≡ Some v)
value_of None h = absurd (cc)
value_of (Some v) h = (v, refl)

not_there : (o : Option (List ℕ)) → is_some o ≡ false → o ≡ None
not_there None e = refl
not_there (Some v) e = absurd (cc)

module _ (m : Objects) (rs : List Row) (are : AreRows (objects.entries m) rs) (t : Tables) (tables : AreTables rs t) (all : AllReached (edges_in rs) t.reached) where
  -- ---- what is reached

  linked_reached : (n : ℕ) → IsLinked reaching.is_root (edges_in rs) n → IsReached m n
  linked_reached _ (starts n e) = subst (IsReached m) (same_number 1 n e) is_root
  linked_reached _ (goes_on edge of l) =
      let s = edge_split rs edge of in
      let r = edge_row s.1 edge s.3 in
      let e = entry_at m rs are s.0 edge.parent (Some edge.child) r.0 (s.2 ∙ ap Some r.1) in
      is_below edge.parent e.name e.value edge.child (linked_reached edge.parent l) e.entry (sym e.reads)

  reached_linked : (n : ℕ) → IsReached m n → IsLinked reaching.is_root (edges_in rs) n
  reached_linked _ is_root = starts 1 refl
  reached_linked _ (is_below parent name value n above entry reads) =
      let r = row_of_object m rs are (entry_key parent name) value entry.there in
      let s = tells_entry parent name value r.1 entry.low entry.short r.3 in
      let edge : Edge = record { parent = parent; child = n } in
      let is : edge_of r.1 ≡ Some edge = ap edge_of (s.is ∙ ap (λ c. rows.Entry parent c s.named) (s.reads ∙ reads)) in
      goes_on edge (edge_there rs r.0 r.1 edge r.2 is) (reached_linked parent above)

  -- ---- two names

  two_names : (n : ℕ) → contains nat_cmp t.twice n ≡ true → IsBadEntry m n
  two_names n e =
      let f = first_two (named_row n) rs (sym (tables.twice n) ∙ e) in
      let a = named_is m rs are t tables f.2 n f.6 in
      let b = named_is m rs are t tables f.3 n f.7 in
      let one = entry_at m rs are f.0 a.0 a.1 a.2 (f.4 ∙ ap Some a.3) in
      let other = entry_at m rs are f.1 b.0 b.1 b.2 (f.5 ∙ ap Some b.3) in
      twice (names_by m rs are f.0 a.0 a.1 a.2 n one a.4) (names_by m rs are f.1 b.0 b.1 b.2 n other b.4) (λ parents same.
      f.8 (one_place m rs are f.0 f.1 (entry_key a.0 one.name) one.value other.value one.place
      (subst (λ (k : List ℕ). slice_get (objects.entries m) f.1 ≡ Some (k, other.value)) (sym (λ i. entry_key (parents i) (same i))) other.place)))

  named_twice : (n : ℕ) (one other : IsNamed m n) → (one.parent ≡ other.parent → one.name ≡ other.name → ⊥) → contains nat_cmp t.twice n ≡ true
  named_twice n one other differ =
      let a = row_naming m rs are n one in
      let b = row_naming m rs are n other in
      tables.twice n ∙ two_there (named_row n) rs a.place b.place (rows.Entry one.parent a.child a.named) (rows.Entry other.parent b.child b.named) a.here b.here (is_number (unwrap_or a.child one.parent) n a.is) (is_number (unwrap_or b.child other.parent) n b.is) (λ same.
      let both' = same_Some _ _ (sym a.pair ∙ ap (slice_get (objects.entries m)) same ∙ b.pair) in
      let key : entry_key one.parent one.name ≡ entry_key other.parent other.name = ap (λ (x : List ℕ × List ℕ). x.0) both' in
      differ (same_parent one.parent other.parent one.name other.name one.entry.low other.entry.low key) (same_name one.parent other.parent one.name other.name key))

  -- ---- a row accuses what is bad

  low_named : (i parent : ℕ) (child : Option ℕ) (b : Bool) → EntryAt m rs are i parent child b → unwrap_or child parent < 2 ^ 64
  low_named i parent child b e = by child e.child_low
    where
      by : (c : Option ℕ) → ((n : ℕ) → c ≡ Some n → n < 2 ^ 64) → unwrap_or c parent < 2 ^ 64
      by None h = e.entry.low
      by (Some n) h = h n refl

  bad_named : (i parent : ℕ) (child : Option ℕ) (b : Bool) → EntryAt m rs are i parent child b → is_bad_name t parent child b (unwrap_or child parent) ≡ true → IsBadEntry m (unwrap_or child parent)
  bad_named i parent child b e is =
      let n = unwrap_or child parent in
      let low = low_named i parent child b e in
      let it = names_by m rs are i parent child b n e refl in
      let k = known_inode_of m rs are t tables parent e.entry.low in
      let named : names parent e.value ≡ n = ap (λ c. unwrap_or c parent) (sym e.reads) in
      elim (either_of _ (not (contains nat_cmp t.reached n)) is) [
        | inr x ↦ apart it (λ r. let yes' = all.all n (reached_linked n r) in let bad : true ≡ false = sym yes' ∙ not_true _ x in absurd (cc))
        | inl x7 ↦ elim (either_of _ (contains nat_cmp t.orphans n) x7) [
          | inr x ↦ orphaned n low it x
          | inl x6 ↦ elim (either_of _ (n == 1) x6) [
            | inr x ↦ (let one = same_number n 1 x in root one (subst (IsNamed m) one it))
            | inl x5 ↦ elim (either_of _ (contains nat_cmp t.twice n) x5) [
              | inr x ↦ two_names n x
              | inl x4 ↦ elim (either_of _ (is_none (get nat_cmp t.inodes n)) x4) [
                | inr x ↦ gone n low it x
                | inl x3 ↦ elim (either_of _ (not b) x3) [
                  | inr x ↦ wrong parent e.name e.value e.entry named (nameless (λ h. let yes' = e.is_none h in let bad : true ≡ false = sym yes' ∙ not_true b x in absurd (cc)))
                  | inl x2 ↦ elim (either_of (is_none child) (not (is_dir (inode_at t parent))) x2) [
                    | inr x ↦ wrong parent e.name e.value e.entry named (parentless (λ h. (dir_test (inode_at t parent) false (not_true _ x)).1 refl (k ∙ h)))
                    | inl x ↦ wrong parent e.name e.value e.entry named (unread (sym e.reads ∙ some_none child x))
                  ]
                ]
              ]
            ]
          ]
        ]
      ]
    where
      orphaned : (n : ℕ) → n < 2 ^ 64 → IsNamed m n → contains nat_cmp t.orphans n ≡ true → IsBadEntry m n
      orphaned n low it x = by (n == 1) refl
        where
          by : (c : Bool) → (n == 1) ≡ c → IsBadEntry m n
          by true e = let one = same_number n 1 e in root one (subst (IsNamed m) one it)
          by false e = both (differs n 1 e) it (sym (known_orphan m rs are t tables n low) ∙ x)

      gone : (n : ℕ) → n < 2 ^ 64 → IsNamed m n → is_none (get nat_cmp t.inodes n) ≡ true → IsBadEntry m n
      gone n low it x = elim (known_inode m rs are t tables n low) [
        | inl h ↦ missing it h.1
        | inr h ↦ (let bad : Some h.0 ≡ None = sym h.2 ∙ some_none _ x in absurd (cc))
      ]

  pub sound_entry : (i : ℕ) (row : Row) (n : ℕ) → slice_get rs i ≡ Some row → bad_entry t row ≡ Some n → IsBadEntry m n
  sound_entry i (rows.Head head) n at e = absurd (cc)
  sound_entry i (rows.Chunk node end is_empty) n at e = absurd (cc)
  sound_entry i (rows.Orphan node reads) n at e = absurd (cc)
  sound_entry i rows.Strange n at e = absurd (cc)
  sound_entry i (rows.Entry parent child b) n at e = by (is_bad_name t parent child b (unwrap_or child parent)) refl e
    where
      by : (c : Bool) → is_bad_name t parent child b (unwrap_or child parent) ≡ c → cond c (Some (unwrap_or child parent)) None ≡ Some n → IsBadEntry m n
      by true is e = subst (IsBadEntry m) (same_Some _ n e) (bad_named i parent child b (entry_at m rs are i parent child b at) is)
      by false is e = absurd (cc)
  sound_entry i (rows.Inode node it) n at e = by (is_lost t node) refl e
    where
      by : (c : Bool) → is_lost t node ≡ c → cond c (Some node) None ≡ Some n → IsBadEntry m n
      by true is e =
          let o = inode_at_row m rs are t tables i node it at in
          let a = and_parts (not (node == 1) && not (contains nat_cmp t.named node)) (not (contains nat_cmp t.orphans node)) is in
          let b = and_parts (not (node == 1)) (not (contains nat_cmp t.named node)) a.0 in
          subst (IsBadEntry m) (same_Some node n e)
          (lost (subst IsSome (sym o.2) refl) (differs node 1 (not_true _ b.0)) (λ h. let y = named_all m rs are t tables node h in let bad : true ≡ false = sym y ∙ not_true _ b.1 in absurd (cc))
          (not_there (objects.get m (orphan_key node)) (sym (known_orphan m rs are t tables node o.1) ∙ not_true _ a.1)))
      by false is e = absurd (cc)

  -- ---- what is bad is accused by a row

  accuses : (n : ℕ) (it : IsNamed m n) (r : NamingRow m rs are n it) → is_bad_name t it.parent r.child r.named n ≡ true → (i : ℕ) × (row : Row) × (slice_get rs i ≡ Some row) × (bad_entry t row ≡ Some n)
  accuses n it r bad = (r.place, rows.Entry it.parent r.child r.named, r.here, ap (λ k. cond (is_bad_name t it.parent r.child r.named k) (Some k) None) r.is ∙ ap (λ b. cond b (Some n) None) bad)

  abbrev Wrong : (t : Tables) (parent : ℕ) (child : Option ℕ) (b : Bool) → Bool
  Wrong t parent child b = is_none child || not (is_dir (inode_at t parent)) || not b

  from_wrong : (parent : ℕ) (child : Option ℕ) (b : Bool) (n : ℕ) → Wrong t parent child b ≡ true → is_bad_name t parent child b n ≡ true
  from_wrong parent child b n w = left_true _ (not (contains nat_cmp t.reached n)) (left_true _ (contains nat_cmp t.orphans n) (left_true _ (n == 1) (left_true _ (contains nat_cmp t.twice n) (left_true _ (is_none (get nat_cmp t.inodes n)) w))))

  pub complete_entry : (n : ℕ) → n < 2 ^ 64 → IsBadEntry m n → (i : ℕ) × (row : Row) × (slice_get rs i ≡ Some row) × (bad_entry t row ≡ Some n)
  complete_entry n low (wrong parent name value entry is why) =
      let it : IsNamed m n = record { parent = parent; name = name; value = value; entry = entry; is = is } in
      let r = row_naming m rs are n it in
      accuses n it r (from_wrong parent r.child r.named n (by r why))
    where
      by : (r : NamingRow m rs are n (record { parent = parent; name = name; value = value; entry = entry; is = is })) → IsWrong m parent name value → Wrong t parent r.child r.named ≡ true
      by r (unread e) = left_true _ (not r.named) (left_true _ (not (is_dir (inode_at t parent))) (ap is_none (r.reads ∙ e)))
      by r (parentless e) =
          let k = known_inode_of m rs are t tables parent entry.low in
          left_true _ (not r.named) (right_true (is_none r.child) _ (not_false _ (never_true _ (λ d. e (sym k ∙ (dir_test (inode_at t parent) true d).0 refl)))))
      by r (nameless e) = right_true (is_none r.child || not (is_dir (inode_at t parent))) _ (not_false _ (never_true _ (λ d. e (r.is_name d))))
  complete_entry n low (missing it none) =
      accuses n it (row_naming m rs are n it) (left_true _ (not (contains nat_cmp t.reached n)) (left_true _ (contains nat_cmp t.orphans n) (left_true _ (n == 1) (left_true _ (contains nat_cmp t.twice n) (right_true (Wrong t it.parent (row_naming m rs are n it).child (row_naming m rs are n it).named) _ absent)))))
    where
      absent : is_none (get nat_cmp t.inodes n) ≡ true
      absent = elim (known_inode m rs are t tables n low) [ inl h ↦ ap is_none h.0 | inr h ↦ (let bad : Some h.1 ≡ None = sym h.3 ∙ none in absurd (cc)) ]
  complete_entry n low (twice one other differ) =
      let r = row_naming m rs are n one in
      accuses n one r (left_true _ (not (contains nat_cmp t.reached n)) (left_true _ (contains nat_cmp t.orphans n) (left_true _ (n == 1) (right_true (Wrong t one.parent r.child r.named || is_none (get nat_cmp t.inodes n)) _ (named_twice n one other differ)))))
  complete_entry n low (root one named) =
      let it = subst (IsNamed m) (sym one) named in
      let r = row_naming m rs are n it in
      accuses n it r (left_true _ (not (contains nat_cmp t.reached n)) (left_true _ (contains nat_cmp t.orphans n) (right_true (Wrong t it.parent r.child r.named || is_none (get nat_cmp t.inodes n) || contains nat_cmp t.twice n) _ (is_number n 1 one))))
  complete_entry n low (both other it orphan) =
      let r = row_naming m rs are n it in
      accuses n it r (left_true _ (not (contains nat_cmp t.reached n)) (right_true (Wrong t it.parent r.child r.named || is_none (get nat_cmp t.inodes n) || contains nat_cmp t.twice n || n == 1) _ (known_orphan m rs are t tables n low ∙ orphan)))
  complete_entry n low (apart it unreached) =
      let r = row_naming m rs are n it in
      accuses n it r (right_true (Wrong t it.parent r.child r.named || is_none (get nat_cmp t.inodes n) || contains nat_cmp t.twice n || n == 1 || contains nat_cmp t.orphans n) _
      (not_false _ (never_true _ (λ y. unreached (linked_reached n (all.linked n y))))))
  complete_entry n low (lost there other unnamed none) =
      let v = value_of (objects.get m (inode_key n)) there in
      let r = row_of_object m rs are (inode_key n) v.0 v.1 in
      let s = tells_inode n v.0 r.1 low r.3 in
      let a = not_false (n == 1) (never_true _ (λ e. other (same_number n 1 e))) in
      let b = not_false (contains nat_cmp t.named n) (never_true _ (λ e. unnamed (named_some m rs are t tables n e))) in
      let c = not_false (contains nat_cmp t.orphans n) (known_orphan m rs are t tables n low ∙ ap is_some none) in
      (r.0, r.1, r.2, ap (bad_entry t) s.1 ∙ (λ i. cond (a i && b i && c i) (Some n) None))

  pub least_of_entries : (least : Option ℕ) → IsLeastOf (bad_entry t) rs least → FoundLeast (IsBadEntry m) least
  least_of_entries least is = from_rows (IsBadEntry m) (bad_entry t) rs least is sound_entry complete_entry
