-- How large a map is after changes.
use Rattle.std.proofs.Common.{◌≡◌, ℕ, ◌+◌, ◌≤◌, Bool, true, false, cond, refl, sym, ◌∙◌, ap, subst, List, [], ◌∷◌, length, map, count_by, nat_lt, Option, Some, None, T, ◌&&◌, arith}
use Rattle.std.proofs.lemmas.List.Sums.{sum_by-cons}
use Rattle.std.specs.Cmp.{tied_itself}
use Rattle.std.specs.Ordering.{is_lt, is_eq, eq_by_cmp, ordering_reverse}
use Rattle.std.specs.declared.cmp.Ordering.{Ordering}
use Rattle.std.specs.declared.cmp.Ordering.TheVariants.{Less, Equal, Greater}
use Rattle.std.specs.FinMap.Entries.{below_all, is_sorted, by_order}
use Rattle.std.specs.Cmp.Lexicographic.{nat_list_cmp_total}
use Rattle.std.specs.FinMap as objects
use Rattle.kv_device.specs.Bytes.{bytes_cmp}
use Rattle.kv_device.specs.Objects.{Objects, Changes, changed, changed_all, seen_through, page_count}
use Rattle.kv_device.specs.Sizes.{weight_at, one, large, new_total, old_total}
use Rattle.kv_device.proofs.KeyMapLaws.{same_keys}
use Rattle.kv_device.proofs.MachineLaws.{find_below, rest_sorted, front_below, get-changed}

-- the weights of all values
abbrev pub sum_of : (List ℕ → ℕ) → List (List ℕ × List ℕ) → ℕ
sum_of w [] = 0
sum_of w (e ∷ es) = w e.1 + sum_of w es

unfoldable pub total : (List ℕ → ℕ) → Objects → ℕ
total w m = sum_of w (objects.entries m)

less : (o : Ordering) → T (is_lt o) → o ≡ Less
less Less p = refl
less Equal p = absurd p
less Greater p = absurd p

both : (a b : Bool) → T a → T b → T (a && b)
both true b p q = q
both false b p q = p

below_less : {X : Type 0} (x y : List ℕ) (es : List (List ℕ × X)) → bytes_cmp x y ≡ Less → T (below_all bytes_cmp y es) → T (below_all bytes_cmp x es)
below_less x y [] p h = tt
below_less x y (e ∷ es) p h =
    both _ _ (subst (λ r. T (is_lt r)) (sym (nat_list_cmp_total.trans x y e.0 p (less _ (front_below _ _ h)))) tt) (below_less x y es p (rest_sorted _ _ h))

-- one more value, in the place of an older one
sum_of-put : (w : List ℕ → ℕ) (k v : List ℕ) (es : List (List ℕ × List ℕ)) → T (is_sorted bytes_cmp es)
    → sum_of w (objects.put bytes_cmp k v es) + weight_at w (objects.find bytes_cmp k es) ≡ sum_of w es + w v
sum_of-put w k v [] h = omega arith
sum_of-put w k v (e ∷ es) h =
    elim (bytes_cmp k e.0) as (λ r. bytes_cmp k e.0 ≡ r → sum_of w (by_order r ((k, v) ∷ e ∷ es) ((e.0, v) ∷ es) (e ∷ objects.put bytes_cmp k v es)) + weight_at w (cond (is_eq r) (Some e.1) (objects.find bytes_cmp k es)) ≡ (w e.1 + sum_of w es) + w v) [
      | Less ↦ λ p.
          let none : objects.find bytes_cmp k es ≡ None = find_below k es (below_less k e.0 es p (front_below _ _ h)) in
          subst (λ (x : Option (List ℕ)). (w v + (w e.1 + sum_of w es)) + weight_at w x ≡ (w e.1 + sum_of w es) + w v) (sym none) (omega arith)
      | Equal ↦ λ p. omega arith
      | Greater ↦ λ p. let rest = sum_of-put w k v es (rest_sorted (below_all bytes_cmp e.0 es) (is_sorted bytes_cmp es) h) in omega arith
    ] refl

pub total-insert : (w : List ℕ → ℕ) (m : Objects) (k v : List ℕ) → total w (objects.insert m k v) + weight_at w (objects.get m k) ≡ total w m + w v
unfolding total
total-insert w m k v =
    ap (λ es. sum_of w es + weight_at w (objects.get m k)) (objects.entries-insert nat_list_cmp_total m k v)
    ∙ ap (λ o. sum_of w (objects.put bytes_cmp k v (objects.entries m)) + weight_at w o) (objects.get-entries m k)
    ∙ sum_of-put w k v (objects.entries m) (objects.entries_sorted m)

-- what was put at a key that had nothing is all that was added
put_again : (m : Objects) (k v : List ℕ) → objects.get m k ≡ Some v → objects.insert (objects.remove m k) k v ≡ m
put_again m k v at = objects.same_map nat_list_cmp_total same_keys _ _ (λ q.
    objects.get-insert nat_list_cmp_total (objects.remove m k) k v q
    ∙ ap (cond (eq_by_cmp bytes_cmp q k) (Some v)) (objects.get-remove nat_list_cmp_total m k q)
    ∙ by q (bytes_cmp q k) refl)
  where
    by : (q : List ℕ) (o : Ordering) → bytes_cmp q k ≡ o → cond (is_eq o) (Some v) (cond (is_eq o) None (objects.get m q)) ≡ objects.get m q
    by q Less e = refl
    by q Equal e = sym at ∙ ap (objects.get m) (sym (same_keys q k e))
    by q Greater e = refl

nothing_removed : (m : Objects) (k : List ℕ) → objects.get m k ≡ None → objects.remove m k ≡ m
nothing_removed m k at = objects.same_map nat_list_cmp_total same_keys _ _ (λ q. objects.get-remove nat_list_cmp_total m k q ∙ by q (bytes_cmp q k) refl)
  where
    by : (q : List ℕ) (o : Ordering) → bytes_cmp q k ≡ o → cond (is_eq o) None (objects.get m q) ≡ objects.get m q
    by q Less e = refl
    by q Equal e = sym at ∙ ap (objects.get m) (sym (same_keys q k e))
    by q Greater e = refl

gone : (m : Objects) (k : List ℕ) → objects.get (objects.remove m k) k ≡ None
gone m k = objects.get-remove nat_list_cmp_total m k k ∙ ap (λ o. cond (is_eq o) None (objects.get m k)) (tied_itself nat_list_cmp_total k)

total-remove : (w : List ℕ → ℕ) (m : Objects) (k : List ℕ) → total w (objects.remove m k) + weight_at w (objects.get m k) ≡ total w m
total-remove w m k = by (objects.get m k) refl
  where
    by : (o : Option (List ℕ)) → objects.get m k ≡ o → total w (objects.remove m k) + weight_at w o ≡ total w m
    by None at = omega (arith, ap (total w) (nothing_removed m k at))
    by (Some v) at =
        let put = total-insert w (objects.remove m k) k v in
        let none = ap (weight_at w) (gone m k) in
        let again = ap (total w) (put_again m k v at) in
        omega arith

-- one change takes what stood there, and adds what it puts
pub total-changed : (w : List ℕ → ℕ) (m : Objects) (k : List ℕ) (change : Option (List ℕ)) → total w (changed m (k, change)) + weight_at w (objects.get m k) ≡ total w m + weight_at w change
total-changed w m k None = let gone = total-remove w m k in omega arith
total-changed w m k (Some v) = total-insert w m k v

-- changes of lower keys leave what stands at these
old_total-changed : (w : List ℕ → ℕ) (m : Objects) (k : List ℕ) (change : Option (List ℕ)) (es : List (List ℕ × Option (List ℕ))) → T (below_all bytes_cmp k es)
    → old_total w (changed m (k, change)) es ≡ old_total w m es
old_total-changed w m k change [] h = refl
old_total-changed w m k change (e ∷ es) h =
    let rest = old_total-changed w m k change es (rest_sorted _ _ h) in
    let apart : is_eq (bytes_cmp e.0 k) ≡ false = ap is_eq (nat_list_cmp_total.antisymm e.0 k ∙ ap ordering_reverse (less _ (front_below _ _ h))) in
    let same : objects.get (changed m (k, change)) e.0 ≡ objects.get m e.0 = get-changed m k change e.0 ∙ ap (λ b. cond b change (objects.get m e.0)) apart in
    λ i. weight_at w (same i) + rest i

pub total-changed_all : (w : List ℕ → ℕ) (es : List (List ℕ × Option (List ℕ))) (m : Objects) → T (is_sorted bytes_cmp es)
    → total w (changed_all es m) + old_total w m es ≡ total w m + new_total w es
total-changed_all w [] m h = refl
total-changed_all w (e ∷ es) m h =
    let rest = total-changed_all w es (changed m e) (rest_sorted (below_all bytes_cmp e.0 es) (is_sorted bytes_cmp es) h) in
    let first = total-changed w m e.0 e.1 in
    let same = old_total-changed w m e.0 e.1 es (front_below _ _ h) in
    omega arith

-- the same of all changes of a transaction
pub total-seen_through : (w : List ℕ → ℕ) (changes : Changes) (m : Objects)
    → total w (seen_through changes m) + old_total w m (objects.entries changes) ≡ total w m + new_total w (objects.entries changes)
unfolding seen_through
total-seen_through w changes m = total-changed_all w (objects.entries changes) m (objects.entries_sorted changes)

sum_of-one : (es : List (List ℕ × List ℕ)) → sum_of one es ≡ length es
sum_of-one [] = refl
sum_of-one (e ∷ es) = let rest = sum_of-one es in omega arith

sum_of-large : (es : List (List ℕ × List ℕ)) → sum_of large es ≡ count_by (λ v. nat_lt 128 (length v)) (map (λ e. e.1) es)
sum_of-large [] = refl
sum_of-large (e ∷ es) =
    let rest = sum_of-large es in
    sym (sum_by-cons large e.1 (map (λ e. e.1) es) ∙ ap (λ n. large e.1 + n) (sym rest))

-- the keys
pub total-one : (m : Objects) → total one m ≡ objects.len m
unfolding total
total-one m = sum_of-one (objects.entries m) ∙ sym (objects.len-entries m)

-- the pages
pub total-large : (m : Objects) → total large m ≡ page_count m
unfolding total page_count
total-large m = sum_of-large (objects.entries m)

pub large-le : (v : List ℕ) → large v ≤ 1
large-le v = by (nat_lt 128 (length v))
  where
    by : (b : Bool) → cond b 1 0 ≤ 1
    by true = omega arith
    by false = omega arith

-- a weight of at most 1 sums to no more than the changes
pub new_total-le : (w : List ℕ → ℕ) (changes : Changes) → ((v : List ℕ) → w v ≤ 1) → new_total w (objects.entries changes) ≤ objects.len changes
new_total-le w changes low = rw (objects.len-entries changes) (by (objects.entries changes))
  where
    at : (o : Option (List ℕ)) → weight_at w o ≤ 1
    at None = omega arith
    at (Some v) = low v

    by : (es : List (List ℕ × Option (List ℕ))) → new_total w es ≤ length es
    by [] = omega arith
    by (e ∷ es) = let rest = by es in let first = at e.1 in omega arith
