-- Rows and the objects that they are rows of.
use Rattle.std.proofs.Common.{◌≡◌, ℕ, zero, suc, true, false, cond, Bool, T, refl, sym, ◌∙◌, ap, subst, List, [], ◌∷◌, ◌&&◌, slice_get, Some}
use Rattle.std.specs.Ordering.{eq_by_cmp, is_eq, is_lt}
use Rattle.std.specs.declared.cmp.Ordering.{Ordering}
use Rattle.std.specs.declared.cmp.Ordering.TheVariants.{Less, Equal, Greater}
use Rattle.std.specs.Cmp.Lexicographic.{nat_list_cmp_total}
use Rattle.std.specs.FinMap as objects
use Rattle.std.specs.FinMap.{find}
use Rattle.std.specs.FinMap.Entries.{below_all, is_sorted}
use Rattle.std.proofs.lemmas.Option.{same_Some}
use Rattle.kv_device.specs.Bytes.{bytes_cmp}
use Rattle.kv_device.specs.Objects.{Objects}
use Rattle.kfs_shows.proofs.Lookups.{same_bytes, tie_test, apart_test}
use Rattle.kfs_judge.specs.declared.row.Row.{Row}
use Rattle.kfs_judge.specs.Rows.{AreRows, IsRow}

-- ---- rows and pairs at a place

pub pair_at : (es : List (List ℕ × List ℕ)) (rows : List Row) (i : ℕ) (row : Row) → AreRows es rows → slice_get rows i ≡ Some row → (e : List ℕ × List ℕ) × (slice_get es i ≡ Some e) × IsRow e row
pair_at [] [] i row h at = absurd (cc)
pair_at [] (r ∷ rows) i row h at = absurd h
pair_at (e ∷ es) [] i row h at = absurd h
pair_at (e ∷ es) (r ∷ rows) zero row h at = (e, refl, subst (IsRow e) (same_Some _ _ at) h.0)
pair_at (e ∷ es) (r ∷ rows) (suc i) row h at = pair_at es rows i row h.1 at

pub row_at : (es : List (List ℕ × List ℕ)) (rows : List Row) (i : ℕ) (e : List ℕ × List ℕ) → AreRows es rows → slice_get es i ≡ Some e → (row : Row) × (slice_get rows i ≡ Some row) × IsRow e row
row_at [] rows i e h at = absurd (cc)
row_at (x ∷ es) [] i e h at = absurd h
row_at (x ∷ es) (r ∷ rows) zero e h at = (r, refl, subst (λ x. IsRow x r) (same_Some _ _ at) h.0)
row_at (x ∷ es) (r ∷ rows) (suc i) e h at = row_at es rows i e h.1 at

-- ---- pairs of a map

found_at : (es : List (List ℕ × List ℕ)) (k v : List ℕ) → find bytes_cmp k es ≡ Some v → (i : ℕ) × (slice_get es i ≡ Some (k, v))
found_at [] k v e = absurd (cc)
found_at (x ∷ es) k v e = by (bytes_cmp k x.0) refl (λ e. found_at es k v e) e
  where
    by : (r : Ordering) → bytes_cmp k x.0 ≡ r → (find bytes_cmp k es ≡ Some v → (i : ℕ) × (slice_get es i ≡ Some (k, v))) → cond (is_eq r) (Some x.1) (find bytes_cmp k es) ≡ Some v → (i : ℕ) × (slice_get (x ∷ es) i ≡ Some (k, v))
    by Less r rest e = let h = rest e in (suc h.0, h.1)
    by Greater r rest e = let h = rest e in (suc h.0, h.1)
    by Equal r rest e = let key = same_bytes k x.0 r in let value = same_Some _ _ e in (0, λ i. Some (sym key i, value i))

left_of : (a b : Bool) → T (a && b) → T a
left_of true b h = tt
left_of false b h = h

right_of : (a b : Bool) → T (a && b) → T b
right_of true b h = h
right_of false b h = absurd h

is_less : (r : Ordering) → T (is_lt r) → is_eq r ≡ false
is_less Less h = refl
is_less Equal h = absurd h
is_less Greater h = absurd h

apart : (k : List ℕ) (x : List ℕ × List ℕ) (es : List (List ℕ × List ℕ)) (i : ℕ) (v : List ℕ) → T (below_all bytes_cmp x.0 es) → slice_get es i ≡ Some (k, v) → T (is_lt (bytes_cmp x.0 k))
apart k x [] i v h at = absurd (cc)
apart k x (y ∷ es) zero v h at = subst (λ (e : List ℕ × List ℕ). T (is_lt (bytes_cmp x.0 e.0))) (same_Some _ _ at) (left_of _ _ h)
apart k x (y ∷ es) (suc i) v h at = apart k x es i v (right_of _ _ h) at

at_found : (es : List (List ℕ × List ℕ)) (i : ℕ) (k v : List ℕ) → T (is_sorted bytes_cmp es) → slice_get es i ≡ Some (k, v) → find bytes_cmp k es ≡ Some v
at_found [] i k v s at = absurd (cc)
at_found (x ∷ es) zero k v s at =
    let same : x ≡ (k, v) = same_Some _ _ at in
    let key : x.0 ≡ k = ap (λ (e : List ℕ × List ℕ). e.0) same in
    ap (λ b. cond b (Some x.1) (find bytes_cmp k es)) (ap (eq_by_cmp bytes_cmp k) key ∙ tie_test nat_list_cmp_total same_bytes k) ∙ ap (λ (e : List ℕ × List ℕ). Some e.1) same
at_found (x ∷ es) (suc i) k v s at =
    let less = apart k x es i v (left_of _ _ s) at in
    let other : k ≡ x.0 → ⊥ = λ e. subst (λ q. T (is_lt q)) (ap (bytes_cmp x.0) e ∙ tied x.0) less in
    ap (λ b. cond b (Some x.1) (find bytes_cmp k es)) (apart_test nat_list_cmp_total same_bytes k x.0 other) ∙ at_found es i k v (right_of _ _ s) at
  where
    equal : (r : Ordering) → is_eq r ≡ true → r ≡ Equal
    equal Less e = absurd (cc)
    equal Equal e = refl
    equal Greater e = absurd (cc)

    tied : (q : List ℕ) → bytes_cmp q q ≡ Equal
    tied q = equal (bytes_cmp q q) (tie_test nat_list_cmp_total same_bytes q)

module _ (m : Objects) (rows : List Row) (are : AreRows (objects.entries m) rows) where
  -- each object has a row
  pub row_of_object : (k v : List ℕ) → objects.get m k ≡ Some v → (i : ℕ) × (row : Row) × (slice_get rows i ≡ Some row) × IsRow (k, v) row × (slice_get (objects.entries m) i ≡ Some (k, v))
  row_of_object k v e =
      let at = found_at (objects.entries m) k v (sym (objects.get-entries m k) ∙ e) in
      let r = row_at (objects.entries m) rows at.0 (k, v) are at.1 in
      (at.0, r.0, r.1, r.2, at.1)

  -- and each row an object
  pub object_of_row : (i : ℕ) (row : Row) → slice_get rows i ≡ Some row → (k : List ℕ) × (v : List ℕ) × (objects.get m k ≡ Some v) × (slice_get (objects.entries m) i ≡ Some (k, v)) × IsRow (k, v) row
  object_of_row i row at =
      let p = pair_at (objects.entries m) rows i row are at in
      (p.0.0, p.0.1, objects.get-entries m p.0.0 ∙ at_found (objects.entries m) i p.0.0 p.0.1 (objects.entries_sorted m) p.1, p.1, p.2)

  -- two rows of one key are one
  pub one_place : (i j : ℕ) (k v w : List ℕ) → slice_get (objects.entries m) i ≡ Some (k, v) → slice_get (objects.entries m) j ≡ Some (k, w) → i ≡ j
  one_place i j k v w = same_place (objects.entries m) i j k v w (objects.entries_sorted m)
    where
      never : (x : List ℕ × List ℕ) (es : List (List ℕ × List ℕ)) (i : ℕ) (v : List ℕ) → T (below_all bytes_cmp x.0 es) → slice_get es i ≡ Some (x.0, v) → ⊥
      never x es i v h at = let e = is_less _ (apart x.0 x es i v h at) in let f = tie_test nat_list_cmp_total same_bytes x.0 in let bad : true ≡ false = sym f ∙ e in cc

      same_place : (es : List (List ℕ × List ℕ)) (i j : ℕ) (k v w : List ℕ) → T (is_sorted bytes_cmp es) → slice_get es i ≡ Some (k, v) → slice_get es j ≡ Some (k, w) → i ≡ j
      same_place [] i j k v w s a b = absurd (cc)
      same_place (x ∷ es) zero zero k v w s a b = refl
      same_place (x ∷ es) zero (suc j) k v w s a b = let key : k ≡ x.0 = sym (ap (λ (e : List ℕ × List ℕ). e.0) (same_Some _ _ a)) in absurd (never x es j w (left_of _ _ s) (subst (λ q. slice_get es j ≡ Some (q, w)) key b))
      same_place (x ∷ es) (suc i) zero k v w s a b = let key : k ≡ x.0 = sym (ap (λ (e : List ℕ × List ℕ). e.0) (same_Some _ _ b)) in absurd (never x es i v (left_of _ _ s) (subst (λ q. slice_get es i ≡ Some (q, v)) key a))
      same_place (x ∷ es) (suc i) (suc j) k v w s a b = ap suc (same_place es i j k v w (right_of _ _ s) a b)
