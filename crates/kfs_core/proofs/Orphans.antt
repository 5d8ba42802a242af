-- The first key with a prefix, and none.
use Rattle.std.proofs.Common.{◌≡◌, ℕ, true, false, cond, Bool, refl, sym, ◌∙◌, ap, subst, arith, List, [], ◌∷◌, length, map, filter, take, Option, Some, None, IsSome, slice_get}
use Rattle.std.specs.Ordering.{eq_by_cmp}
use Rattle.std.specs.Cmp.Lexicographic.{nat_list_cmp_total}
use Rattle.std.specs.FinMap as objects
use Rattle.std.specs.FinMap.{find}
use Rattle.std.specs.FinMap.Entries.{find-where_key}
use Rattle.std.proofs.lemmas.Option.{same_Some}
use Rattle.kv_base.specs.declared.pairs.Pair.{Pair}
use Rattle.kv_device.specs.Bytes.{bytes_cmp}
use Rattle.kv_device.specs.Objects.{Objects, pairs_from, is_wanted, pair_of}
use Rattle.kfs_objects.specs.Keys.{be64, orphan_key}
use Rattle.kfs_shows.proofs.Lookups.{same_bytes, tie_test}
use Rattle.kfs_core.specs.Clearing.{NoOrphans}

wanted_orphan : (n : ℕ) → is_wanted (111 ∷ []) (111 ∷ []) (orphan_key n) ≡ true
wanted_orphan n = by (be64 n)
  where
    by : (xs : List ℕ) → is_wanted (111 ∷ []) (111 ∷ []) (111 ∷ xs) ≡ true
    by [] = refl
    by (x ∷ xs) = refl

pub found_in_filter : (m : Objects) (w : List ℕ → Bool) (q : List ℕ) → find bytes_cmp q (filter (λ e. w e.0) (objects.entries m)) ≡ cond (w q) (objects.get m q) None
found_in_filter m w q = find-where_key bytes_cmp w q (λ x e. ap w (sym (same_bytes q x e))) (objects.entries m) ∙ ap (λ o. cond (w q) o None) (sym (objects.get-entries m q))

passed : (b : Bool) (o : Option (List ℕ)) (v : List ℕ) → cond b o None ≡ Some v → o ≡ Some v
passed true o v e = e
passed false o v e = absurd (cc)

passed_test : (b : Bool) (o : Option (List ℕ)) (v : List ℕ) → cond b o None ≡ Some v → b ≡ true
passed_test true o v e = refl
passed_test false o v e = absurd (cc)

abbrev first_is : Objects → List (List ℕ × List ℕ) → List Pair → Type 0
first_is m fs pairs = (pair : Pair) → map pair_of pairs ≡ take 1 fs → slice_get pairs 0 ≡ Some pair → find bytes_cmp pair.key fs ≡ Some pair.value

first_found : (m : Objects) (fs : List (List ℕ × List ℕ)) (pairs : List Pair) → first_is m fs pairs
first_found m fs [] pair e f = absurd (cc)
first_found m [] (p ∷ pairs) pair e f = absurd (cc)
first_found m (x ∷ fs) (p ∷ pairs) pair e f =
    let same : p ≡ pair = same_Some _ _ f in
    let head : (pair.key, pair.value) ≡ x = ap (λ (q : Pair). (q.key, q.value)) (sym same) ∙ (let h : (p.key, p.value) ≡ x = cc in h) in
    ap (λ b. cond b (Some x.1) (find bytes_cmp pair.key fs)) (ap (eq_by_cmp bytes_cmp pair.key) (sym (ap (λ (y : List ℕ × List ℕ). y.0) head)) ∙ tie_test nat_list_cmp_total same_bytes pair.key)
    ∙ ap Some (sym (ap (λ (y : List ℕ × List ℕ). y.1) head))

-- the first pair with a prefix is there
pub first_there : (m : Objects) (p : List ℕ) (pairs : List Pair) (pair : Pair) → map pair_of pairs ≡ take 1 (pairs_from m p p) → slice_get pairs 0 ≡ Some pair → IsSome (objects.get m pair.key)
unfolding pairs_from
first_there m p pairs pair e f =
    let w = λ (q : List ℕ). is_wanted p p q in
    let there : objects.get m pair.key ≡ Some pair.value = passed (w pair.key) (objects.get m pair.key) pair.value (sym (found_in_filter m w pair.key) ∙ first_found m (filter (λ e. w e.0) (objects.entries m)) pairs pair e f) in
    subst IsSome (sym there) refl

-- its key begins with it
pub first_wanted : (m : Objects) (p : List ℕ) (pairs : List Pair) (pair : Pair) → map pair_of pairs ≡ take 1 (pairs_from m p p) → slice_get pairs 0 ≡ Some pair → is_wanted p p pair.key ≡ true
unfolding pairs_from
first_wanted m p pairs pair e f =
    let w = λ (q : List ℕ). is_wanted p p q in
    passed_test (w pair.key) (objects.get m pair.key) pair.value (sym (found_in_filter m w pair.key) ∙ first_found m (filter (λ e. w e.0) (objects.entries m)) pairs pair e f)

nothing : (fs : List (List ℕ × List ℕ)) (pairs : List Pair) → length pairs ≡ 0 → map pair_of pairs ≡ take 1 fs → fs ≡ []
nothing [] pairs z e = refl
nothing (x ∷ fs) [] z e = absurd (cc)
nothing (x ∷ fs) (p ∷ pairs) z e = absurd (omega arith)

-- where there is none, no node has an orphan object
pub none_there : (m : Objects) (pairs : List Pair) → length pairs ≡ 0 → map pair_of pairs ≡ take 1 (pairs_from m (111 ∷ []) (111 ∷ [])) → NoOrphans m
unfolding pairs_from
none_there m pairs z e n =
    let w = λ (q : List ℕ). is_wanted (111 ∷ []) (111 ∷ []) q in
    let empty' : filter (λ (e : List ℕ × List ℕ). w e.0) (objects.entries m) ≡ [] = nothing _ pairs z e in
    ap (λ b. cond b (objects.get m (orphan_key n)) None) (sym (wanted_orphan n)) ∙ sym (found_in_filter m w (orphan_key n)) ∙ ap (find bytes_cmp (orphan_key n)) empty'
