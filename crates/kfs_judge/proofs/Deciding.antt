-- The first damage, kind by kind.
use Rattle.std.proofs.Common.{◌≡◌, ℕ, ◌<◌, ◌≤◌, ◌^◌, inl, inr, true, false, refl, sym, ◌∙◌, ap, subst, arith, List, [], ◌++◌, slice_get, Option, Some, None, unwrap_or}
use Rattle.std.specs.Option.{option_map, option_map_or, option_and_then}
use Rattle.std.specs.FinMap as objects
use Rattle.std.proofs.lemmas.Option.{same_Some}
use Rattle.kv_base.specs.declared.damage.Damage.TheVariants as damages
use Rattle.kv_device.specs.Objects.{Objects}
use Rattle.kfs_objects.specs.declared.records.Super.{Super}
use Rattle.kfs_objects.specs.Keys.{be64, be32, super_key, IsObjectKey, is_super, is_inode, is_entry, is_chunk, is_orphan}
use Rattle.kfs_objects.specs.Records.{read_super}
use Rattle.kfs_model.specs.Tree.{Limits}
use Rattle.kfs_shows.proofs.KeysApart.{kinds}
use Rattle.kfs_damages.specs.Damages.{head_in, next_in, HasHead, IsBadObject, IsBadInode, IsBadEntry, IsBadChunk, IsBadOrphan, HasRoom, named_charge, IsLeast, None_, IsTreeDamage, IsClear}
use Rattle.kfs_judge.specs.declared.row.Row.{Row}
use Rattle.kfs_judge.specs.declared.row.Row.TheVariants as rows
use Rattle.kfs_judge.specs.Judged.{head_row, head_of, super_pair, is_strange, FirstStrange}
use Rattle.kfs_judge.specs.Rows.{AreRows, IsRow}
use Rattle.kfs_judge.specs.Tables.{recent}
use Rattle.kfs_judge.proofs.Finding.{pair_at, row_at, row_of_object, object_of_row}
use Rattle.kfs_judge.specs.Judging.{heard}
use Rattle.kfs_judge.proofs.Hearing.{get_heard}
use Rattle.kfs_judge.proofs.Known.{recent_some, recent_none}

module _ (k : Limits) (m : Objects) where
  pub no_head : (HasHead m → ⊥) → IsTreeDamage k m (damages.Super 0)
  no_head h = inl (refl, h)

  module _ (head : HasHead m) where
    pub bad_object : (n : ℕ) → IsLeast (IsBadObject m) n → IsTreeDamage k m (damages.Object n)
    bad_object n least = inr (head, inl (record { place = n; is = refl; least = least }))

    module _ (keys : None_ (IsBadObject m)) where
      pub bad_inode : (n : ℕ) → IsLeast (IsBadInode m) n → IsTreeDamage k m (damages.Inode n)
      bad_inode n least = inr (head, inr (keys, inl (record { place = n; is = refl; least = least })))

      module _ (inodes : None_ (IsBadInode m)) where
        pub bad_entry : (n : ℕ) → IsLeast (IsBadEntry m) n → IsTreeDamage k m (damages.Entry n)
        bad_entry n least = inr (head, inr (keys, inr (inodes, inl (record { place = n; is = refl; least = least }))))

        module _ (entries : None_ (IsBadEntry m)) where
          pub bad_chunk : (n : ℕ) → IsLeast (IsBadChunk m) n → IsTreeDamage k m (damages.Chunk n)
          bad_chunk n least = inr (head, inr (keys, inr (inodes, inr (entries, inl (record { place = n; is = refl; least = least })))))

          module _ (chunks : None_ (IsBadChunk m)) where
            pub bad_orphan : (n : ℕ) → IsLeast (IsBadOrphan m) n → IsTreeDamage k m (damages.Orphan n)
            bad_orphan n least = inr (head, inr (keys, inr (inodes, inr (entries, inr (chunks, inl (record { place = n; is = refl; least = least }))))))

            module _ (orphans : None_ (IsBadOrphan m)) where
              pub no_room : (n : ℕ) → n ≡ named_charge m → (HasRoom k m → ⊥) → IsTreeDamage k m (damages.Room n)
              no_room n is h = inr (head, inr (keys, inr (inodes, inr (entries, inr (chunks, inr (orphans, (ap damages.Room is, h)))))))

              pub all_clear : HasRoom k m → IsClear k m
              all_clear room = record { head = head; objects_are = keys; inodes = inodes; entries = entries; chunks = chunks; orphans = orphans; room = room }

-- ---- the super

tells_head : (v : List ℕ) (row : Row) → IsRow (super_key, v) row → (head : Option Super) × (row ≡ rows.Head head) × (option_map super_pair head ≡ read_super v)
tells_head v (rows.Head head) h = (head, refl, h.tells.1)
tells_head v (rows.Inode node it) h = absurd (kinds 115 105 [] (be64 node) (λ e. omega arith) h.tells.0)
tells_head v (rows.Entry parent child b) h = let e = h.tells in absurd (kinds 115 101 [] (be64 parent ++ e.name) (λ e. omega arith) e.spelled)
tells_head v (rows.Chunk node end is_empty) h = let e = h.tells in absurd (kinds 115 100 [] (be64 node ++ be32 e.chunk) (λ e. omega arith) e.spelled)
tells_head v (rows.Orphan node reads) h = absurd (kinds 115 111 [] (be64 node) (λ e. omega arith) h.tells.0)
tells_head v rows.Strange h = absurd (h.tells is_super)

head_row_is : (row : Row) (head : Option Super) → head_row row ≡ Some head → row ≡ rows.Head head
head_row_is (rows.Head found) head e = ap rows.Head (same_Some found head e)
head_row_is (rows.Inode node it) head e = absurd (cc)
head_row_is (rows.Entry parent child b) head e = absurd (cc)
head_row_is (rows.Chunk node end is_empty) head e = absurd (cc)
head_row_is (rows.Orphan node reads) head e = absurd (cc)
head_row_is rows.Strange head e = absurd (cc)

-- a key is of the form that its row says
form_of : (e : List ℕ × List ℕ) (row : Row) → IsRow e row → is_strange row ≡ false → IsObjectKey e.0
form_of e (rows.Head head) h s = subst IsObjectKey (sym h.tells.0) is_super
form_of e (rows.Inode node it) h s = subst IsObjectKey (sym h.tells.0) (is_inode node h.tells.1)
form_of e (rows.Entry parent child b) h s = let x = h.tells in subst IsObjectKey (sym x.spelled) (is_entry parent x.name x.low x.short)
form_of e (rows.Chunk node end is_empty) h s = let x = h.tells in subst IsObjectKey (sym x.spelled) (is_chunk node x.chunk x.low x.small)
form_of e (rows.Orphan node reads) h s = subst IsObjectKey (sym h.tells.0) (is_orphan node h.tells.1)
form_of e rows.Strange h s = absurd (cc)

strange_is : (e : List ℕ × List ℕ) (row : Row) → IsRow e row → is_strange row ≡ true → IsObjectKey e.0 → ⊥
strange_is e (rows.Head head) h s = absurd (cc)
strange_is e (rows.Inode node it) h s = absurd (cc)
strange_is e (rows.Entry parent child b) h s = absurd (cc)
strange_is e (rows.Chunk node end is_empty) h s = absurd (cc)
strange_is e (rows.Orphan node reads) h s = absurd (cc)
strange_is e rows.Strange h s = h.tells

module _ (m : Objects) (rs : List Row) (are : AreRows (objects.entries m) rs) where
  pub head_known : option_map super_pair (head_of rs) ≡ head_in m
  head_known = by (recent head_row rs) refl
    where
      none : (o : Option (List ℕ)) → objects.get m super_key ≡ o → recent head_row rs ≡ None → None ≡ option_and_then read_super o
      none None is e = refl
      none (Some v) is e =
          let r = row_of_object m rs are super_key v is in
          let s = tells_head v r.1 r.3 in
          let a = recent_none head_row rs e r.0 r.1 r.2 in
          absurd (let bad : Some s.0 ≡ None = sym (ap head_row s.1) ∙ a in cc)

      by : (o : Option (Option Super)) → recent head_row rs ≡ o → option_map super_pair (unwrap_or o None) ≡ head_in m
      by None is = none (objects.get m super_key) refl is
      by (Some head) is =
          let r = recent_some head_row rs head is in
          let row = head_row_is r.1 head r.3 in
          let o = object_of_row m rs are r.0 (rows.Head head) (r.2 ∙ ap Some row) in
          let h = o.4 in
          h.tells.1 ∙ sym (ap (option_and_then read_super) (subst (λ k. objects.get m k ≡ Some o.1) h.tells.0 o.2))

  pub no_head_none : head_of rs ≡ None → HasHead m → ⊥
  no_head_none none h = let bad : ◌≡◌ {A = Option (ℕ × ℕ)} None (Some (h.changes, h.next)) = sym (ap (option_map super_pair) none) ∙ head_known ∙ h.reads in cc

  same_head : (head : Super) → head_of rs ≡ Some head → (h : HasHead m) → (head.changes ≡ h.changes) × (head.next ≡ h.next)
  same_head head is h =
      let e : Some (super_pair head) ≡ Some (h.changes, h.next) = sym (ap (option_map super_pair) is) ∙ head_known ∙ h.reads in
      let s = same_Some _ _ e in
      (ap (λ (p : ℕ × ℕ). p.0) s, ap (λ (p : ℕ × ℕ). p.1) s)

  pub high_changes : (head : Super) → head_of rs ≡ Some head → 2 ^ 62 ≤ head.changes → HasHead m → ⊥
  high_changes head is high h = let s = (same_head head is h).0 in let few = h.few in omega arith

  pub high_next : (head : Super) → head_of rs ≡ Some head → 2 ^ 62 ≤ head.next → HasHead m → ⊥
  high_next head is high h = let s = (same_head head is h).1 in let low = h.low in omega arith

  pub has_head : (head : Super) → head_of rs ≡ Some head → head.changes < 2 ^ 62 → head.next < 2 ^ 62 → HasHead m
  has_head head is few low = record { changes = head.changes; next = head.next; reads = sym (sym (ap (option_map super_pair) is) ∙ head_known); few = few; low = low }

  pub next_is : (head : Super) → head_of rs ≡ Some head → head.next ≡ next_in m
  next_is head is = ap (λ (o : Option (ℕ × ℕ)). option_map_or (λ (p : ℕ × ℕ). p.1) o 0) (sym (ap (option_map super_pair) is) ∙ head_known)

  -- ---- the keys

  pub strange_least : (n : ℕ) → n < 2 ^ 64 → FirstStrange rs (Some n) → IsLeast (IsBadObject m) n
  strange_least n low f =
      let p = pair_at (objects.entries m) rs n f.0.0 are f.0.1 in
      record {
        low = low;
        here = record { key = p.0.0; value = p.0.1; here = p.1; formless = strange_is p.0 f.0.0 p.2 f.0.2 };
        earlier = λ k lt bad.
            let r = row_at (objects.entries m) rs k (bad.key, bad.value) are bad.here in
            bad.formless (form_of (bad.key, bad.value) r.0 r.2 (f.1 k r.0 lt r.1));
      }

  pub all_formed : FirstStrange rs None → (i : ℕ) (e : List ℕ × List ℕ) → slice_get (objects.entries m) i ≡ Some e → IsObjectKey e.0
  all_formed f i e at = let r = row_at (objects.entries m) rs i e are at in form_of e r.0 r.2 (f i r.0 r.1)

  pub none_strange : FirstStrange rs None → None_ (IsBadObject m)
  none_strange f n low bad = bad.formless (all_formed f n (bad.key, bad.value) bad.here)

-- the super is among the objects that a call can name
pub heard_head : (m : Objects) → HasHead (heard m) → HasHead m
heard_head m h = record { changes = h.changes; next = h.next; reads = ap (option_and_then read_super) (sym (get_heard m super_key)) ∙ h.reads; few = h.few; low = h.low }
