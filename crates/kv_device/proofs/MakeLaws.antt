-- Making changes one after another, and taking one back.
use Rattle.std.proofs.Common.{◌≡◌, ℕ, true, cond, refl, sym, ◌∙◌, ap, subst, List, ◌∷◌, Option, Some, is_some, T}
use Rattle.std.specs.Ordering.{is_eq, eq_by_cmp}
use Rattle.std.specs.declared.cmp.Ordering.{Ordering}
use Rattle.std.specs.declared.cmp.Ordering.TheVariants.{Less, Equal, Greater}
use Rattle.std.specs.FinMap.Entries.{below_all, is_sorted}
use Rattle.std.specs.Cmp.{tied_itself}
use Rattle.std.specs.Cmp.Lexicographic.{nat_list_cmp_total}
use Rattle.std.specs.FinMap as objects
use Rattle.kv_device.specs.Bytes.{bytes_cmp}
use Rattle.kv_device.specs.Objects.{Objects, changed, changed_all}
use Rattle.kv_device.proofs.KeyMapLaws.{same_keys}
use Rattle.kv_device.proofs.MachineLaws.{rest_sorted, get-changed, get-changed_all, over-cond}

-- a key that was put is there
pub put_there : (m n : Objects) (k v x : List ℕ) → n ≡ objects.insert m k v → x ≡ k → objects.contains_key n x ≡ true
put_there m n k v x put same =
    (λ i. is_some (objects.get (put i) (same i))) ∙ ap is_some (objects.get-insert nat_list_cmp_total m k v k) ∙ ap (λ o. is_some (cond (is_eq o) (Some v) (objects.get m k))) (tied_itself nat_list_cmp_total k)

-- of changes in the order of their keys the first may be made last
pub first_last : (es rest : List (List ℕ × Option (List ℕ))) (m : Objects) (k : List ℕ) (change : Option (List ℕ)) → es ≡ (k, change) ∷ rest → T (is_sorted bytes_cmp es)
    → changed (changed_all rest m) (k, change) ≡ changed_all es m
first_last es rest m k change is s = by rest is s
  where
    made : (rest : List (List ℕ × Option (List ℕ))) → T (is_sorted bytes_cmp ((k, change) ∷ rest)) → changed (changed_all rest m) (k, change) ≡ changed_all ((k, change) ∷ rest) m
    made rest s = objects.same_map nat_list_cmp_total same_keys _ _ (λ q.
        get-changed (changed_all rest m) k change q
        ∙ ap (cond (eq_by_cmp bytes_cmp q k) change) (get-changed_all rest m q (rest_sorted (below_all bytes_cmp k rest) (is_sorted bytes_cmp rest) s))
        ∙ sym (over-cond (eq_by_cmp bytes_cmp q k) change (objects.find bytes_cmp q rest) (objects.get m q))
        ∙ sym (get-changed_all ((k, change) ∷ rest) m q s))

    by : (rest : List (List ℕ × Option (List ℕ))) → es ≡ (k, change) ∷ rest → T (is_sorted bytes_cmp es) → changed (changed_all rest m) (k, change) ≡ changed_all es m
    by rest is s = made rest (subst (λ x. T (is_sorted bytes_cmp x)) is s) ∙ ap (λ x. changed_all x m) (sym is)

-- the old value in its place again
pub undone : (m n : Objects) (k v x : List ℕ) (old : Option (List ℕ)) → n ≡ objects.insert m k v → x ≡ k → old ≡ objects.get m k → changed n (x, old) ≡ m
undone m n k v x old put same was =
    (λ i. changed (put i) (same i, old))
    ∙ objects.same_map nat_list_cmp_total same_keys _ _ (λ q.
    get-changed (objects.insert m k v) k old q ∙ ap (cond (eq_by_cmp bytes_cmp q k) old) (objects.get-insert nat_list_cmp_total m k v q) ∙ by q (bytes_cmp q k) refl)
  where
    by : (q : List ℕ) (o : Ordering) → bytes_cmp q k ≡ o → cond (is_eq o) old (cond (is_eq o) (Some v) (objects.get m q)) ≡ objects.get m q
    by q Less e = refl
    by q Equal e = was ∙ ap (objects.get m) (sym (same_keys q k e))
    by q Greater e = refl
