-- A finite map made of the entries of a `BTreeMap`.
use Rattle.std.proofs.Common.{◌≡◌, ℕ, Bool, true, false, cond, refl, sym, ◌∙◌, ap, subst, List, [], ◌∷◌, length, Some, None, Result, Ok, Err, OnErr, T, suc, ◌++◌, take, filter, append_assoc}
use Rattle.std.specs.Ordering.{is_lt}
use Rattle.std.specs.declared.cmp.Ordering.TheVariants.{Less}
use Rattle.std.specs.Cmp.{eq_by_cmp_equiv}
use Rattle.std.specs.Cmp.Lexicographic.{nat_list_cmp_total}
use Rattle.std.specs.Map.{lookup, keys_of}
use Rattle.std.specs.BTreeMap.{is_at}
use Rattle.std.specs.Prelude.{◌&&◌}
use Rattle.std.specs.List.{AllByRecursion}
use Rattle.std.specs.List.Sorted.{IsStrictlySortedBy}
use Rattle.std.specs.FinMap as objects
use Rattle.std.specs.FinMap.Entries.{below_all, is_sorted}
use Rattle.kv_device.specs.Bytes.{bytes_cmp}

-- keys that compare alike are one
pub same_keys : objects.IsAntisymmetric bytes_cmp
same_keys = objects.slice_cmp-IsAntisymmetric objects.nat_cmp-IsAntisymmetric

-- what holds anyway
pub on_err : {A E P : Type 0} (r : Result A E) → P → OnErr r P
on_err (Ok a) p = tt
on_err (Err e) p = p

both : (a b : Bool) → T a → T b → T (a && b)
both true b p q = q
both false b p q = p

module _ {X : Type 0} where
  find_lookup : (es : List (List ℕ × X)) (q : List ℕ) → objects.find bytes_cmp q es ≡ lookup (is_at (bytes_cmp q)) es
  find_lookup [] q = refl
  find_lookup (e ∷ es) q = ap (cond (is_at (bytes_cmp q) e.0) (Some e.1)) (find_lookup es q)

  pub get_lookup : (es : List (List ℕ × X)) (q : List ℕ) → objects.get (objects.from_entries {R = bytes_cmp} es) q ≡ lookup (is_at (bytes_cmp q)) es
  get_lookup es q = objects.get-from_entries nat_list_cmp_total es q ∙ find_lookup es q

  -- entries that differ at one key make maps that differ there
  pub one_inserted : (es fs : List (List ℕ × X)) (k : List ℕ) (v : X)
      → ((q : List ℕ) → lookup (is_at (bytes_cmp q)) fs ≡ cond (is_at (bytes_cmp k) q) (Some v) (lookup (is_at (bytes_cmp q)) es))
      → objects.from_entries {R = bytes_cmp} fs ≡ objects.insert (objects.from_entries es) k v
  one_inserted es fs k v h = objects.same_map nat_list_cmp_total same_keys _ _ (λ q.
      get_lookup fs q ∙ h q ∙ ap (λ b. cond b (Some v) (lookup (is_at (bytes_cmp q)) es)) ((eq_by_cmp_equiv nat_list_cmp_total).symm k q)
      ∙ sym (objects.get-insert nat_list_cmp_total (objects.from_entries es) k v q ∙ ap (cond (is_at (bytes_cmp q) k) (Some v)) (get_lookup es q)))

  pub one_removed : (es fs : List (List ℕ × X)) (k : List ℕ)
      → ((q : List ℕ) → lookup (is_at (bytes_cmp q)) fs ≡ cond (is_at (bytes_cmp k) q) None (lookup (is_at (bytes_cmp q)) es))
      → objects.from_entries {R = bytes_cmp} fs ≡ objects.remove (objects.from_entries es) k
  one_removed es fs k h = objects.same_map nat_list_cmp_total same_keys _ _ (λ q.
      get_lookup fs q ∙ h q ∙ ap (λ b. cond b None (lookup (is_at (bytes_cmp q)) es)) ((eq_by_cmp_equiv nat_list_cmp_total).symm k q)
      ∙ sym (objects.get-remove nat_list_cmp_total (objects.from_entries es) k q ∙ ap (cond (is_at (bytes_cmp q) k) None) (get_lookup es q)))

  below_test : (x : List ℕ) (es : List (List ℕ × X)) → AllByRecursion (λ y. bytes_cmp x y ≡ Less) (keys_of es) → T (below_all bytes_cmp x es)
  below_test x [] h = tt
  below_test x (e ∷ es) h = subst (λ o. T (is_lt o && below_all bytes_cmp x es)) (sym h.0) (below_test x es h.1)

  pub sorted_test : (es : List (List ℕ × X)) → IsStrictlySortedBy bytes_cmp (keys_of es) → T (is_sorted bytes_cmp es)
  unfolding IsStrictlySortedBy
  sorted_test [] h = tt
  sorted_test (e ∷ es) h = both _ _ (below_test e.0 es h.0) (sorted_test es h.1)

  -- entries in order are those of the map
  pub entries-from_entries : (es : List (List ℕ × X)) → IsStrictlySortedBy bytes_cmp (keys_of es) → objects.entries (objects.from_entries {R = bytes_cmp} es) ≡ es
  entries-from_entries es h =
      let s = sorted_test es h in
      let same : objects.from_entries {R = bytes_cmp} es ≡ objects.from_sorted es = objects.same_map nat_list_cmp_total same_keys _ _ (λ q.
      objects.get-from_entries nat_list_cmp_total es q ∙ sym (objects.get-from_sorted bytes_cmp es q s)) in
      ap objects.entries same ∙ objects.entries-from_sorted bytes_cmp es s

  pub len-from_entries : (es : List (List ℕ × X)) → IsStrictlySortedBy bytes_cmp (keys_of es) → objects.len (objects.from_entries {R = bytes_cmp} es) ≡ length es
  len-from_entries es h = objects.len-entries _ ∙ ap length (entries-from_entries es h)

  -- the same of the value of a `KeyMap`
  pub entries_shown : (es : List (List ℕ × X)) (m : objects.FinMap bytes_cmp X) → IsStrictlySortedBy bytes_cmp (keys_of es) → objects.from_entries {R = bytes_cmp} es ≡ m → objects.entries m ≡ es
  entries_shown es m h e = ap objects.entries (sym e) ∙ entries-from_entries es h

-- one more of the wanted entries
pub wanted_more : {E : Type 0} (P : E → Bool) (found : List E) (e : E) (rest left : List E) (room less : ℕ) (all : List E) → left ≡ e ∷ rest → P e ≡ true → room ≡ suc less
    → found ++ take room (filter P left) ≡ all → (found ++ e ∷ []) ++ take less (filter P rest) ≡ all
wanted_more P found e rest left room less all l p r h =
    let here : filter P left ≡ e ∷ filter P rest = ap (filter P) l ∙ ap (λ b. cond b (e ∷ filter P rest) (filter P rest)) p in
    append_assoc found (e ∷ []) (take less (filter P rest)) ∙ sym (λ i. found ++ take (r i) (here i)) ∙ h
