-- The objects of a range, and changes of them.
use Rattle.std.proofs.Common.{◌≡◌, ℕ, Bool, true, false, cond, refl, sym, ◌∙◌, ap, List, [], ◌∷◌, filter, T, Option, Some, None}
use Rattle.std.specs.Ordering.{is_eq}
use Rattle.std.specs.declared.cmp.Ordering.{Ordering}
use Rattle.std.specs.FinMap.Entries.{below_all, is_sorted, find-where_key, is_sorted-where_key, same_entries}
use Rattle.std.specs.declared.cmp.Ordering.TheVariants.{Less, Equal, Greater}
use Rattle.std.specs.Cmp.Lexicographic.{nat_list_cmp_total}
use Rattle.std.specs.FinMap as objects
use Rattle.kv_device.specs.Bytes.{bytes_cmp}
use Rattle.kv_device.specs.Objects.{Objects, Changes, seen_through, pairs_from, is_wanted, wanted_of}
use Rattle.kv_device.proofs.KeyMapLaws.{same_keys}
use Rattle.kv_device.proofs.MachineLaws.{get-seen_through, over, find_below, rest_sorted, front_below}

-- of a map that answers alike at the wanted keys the same entries are wanted
pub wanted_entries : (m n : Objects) (p : List ℕ → Bool) → ((q : List ℕ) → p q ≡ true → objects.get m q ≡ objects.get n q) → filter (λ e. p e.0) (objects.entries m) ≡ filter (λ e. p e.0) (objects.entries n)
wanted_entries m n p alike =
    same_entries bytes_cmp nat_list_cmp_total same_keys _ _
    (is_sorted-where_key bytes_cmp p (objects.entries m) (objects.entries_sorted m)) (is_sorted-where_key bytes_cmp p (objects.entries n) (objects.entries_sorted n))
    (λ q.
    find-where_key bytes_cmp p q (same_test q) (objects.entries m) ∙ ap (λ o. cond (p q) o None) (sym (objects.get-entries m q))
    ∙ by q (p q) refl
    ∙ sym (find-where_key bytes_cmp p q (same_test q) (objects.entries n) ∙ ap (λ o. cond (p q) o None) (sym (objects.get-entries n q))))
  where
    same_test : (q x : List ℕ) → bytes_cmp q x ≡ Equal → p x ≡ p q
    same_test q x e = ap p (sym (same_keys q x e))

    by : (q : List ℕ) (b : Bool) → p q ≡ b → cond b (objects.get m q) None ≡ cond b (objects.get n q) None
    by q true e = alike q e
    by q false e = refl

-- changes of the wanted objects alone give the same wanted pairs
pub pairs_through : (changes : Changes) (m : Objects) (from prefix : List ℕ) → pairs_from (seen_through changes (wanted_of m from prefix)) from prefix ≡ pairs_from (seen_through changes m) from prefix
unfolding pairs_from
pairs_through changes m from prefix =
    wanted_entries (seen_through changes (wanted_of m from prefix)) (seen_through changes m) (is_wanted from prefix) (λ q wanted.
    get-seen_through changes (wanted_of m from prefix) q
    ∙ ap (over (objects.get changes q)) (objects.get-retain_keys m (is_wanted from prefix) q (λ x e. ap (is_wanted from prefix) (sym (same_keys q x e))) ∙ ap (λ b. cond b (objects.get m q) None) wanted)
    ∙ sym (get-seen_through changes m q))

-- ---- a copy, one object after another

-- the objects with these put, the first of them first
abbrev pub puts : List (List ℕ × List ℕ) → Objects → Objects
puts [] m = m
puts (e ∷ es) m = puts es (objects.insert m e.0 e.1)

abbrev first_of_two : Option (List ℕ) → Option (List ℕ) → Option (List ℕ)
first_of_two None o = o
first_of_two (Some v) o = Some v

get-puts : (es : List (List ℕ × List ℕ)) (m : Objects) (q : List ℕ) → T (is_sorted bytes_cmp es) → objects.get (puts es m) q ≡ first_of_two (objects.find bytes_cmp q es) (objects.get m q)
get-puts [] m q s = refl
get-puts (e ∷ es) m q s =
    get-puts es (objects.insert m e.0 e.1) q (rest_sorted (below_all bytes_cmp e.0 es) (is_sorted bytes_cmp es) s)
    ∙ ap (first_of_two (objects.find bytes_cmp q es)) (objects.get-insert nat_list_cmp_total m e.0 e.1 q)
    ∙ by (bytes_cmp q e.0) refl
  where
    by : (o : Ordering) → bytes_cmp q e.0 ≡ o → first_of_two (objects.find bytes_cmp q es) (cond (is_eq o) (Some e.1) (objects.get m q)) ≡ first_of_two (cond (is_eq o) (Some e.1) (objects.find bytes_cmp q es)) (objects.get m q)
    by Less r = refl
    by Equal r =
        let none : objects.find bytes_cmp q es ≡ None = ap (λ x. objects.find bytes_cmp x es) (same_keys q e.0 r) ∙ find_below e.0 es (front_below (below_all bytes_cmp e.0 es) (is_sorted bytes_cmp es) s) in
        ap (λ f. first_of_two f (Some e.1)) none
    by Greater r = refl

or_nothing : (o : Option (List ℕ)) → first_of_two o None ≡ o
or_nothing None = refl
or_nothing (Some v) = refl

-- the copy is whole
pub puts_wanted : (m : Objects) (p : List ℕ → Bool) → puts (filter (λ e. p e.0) (objects.entries m)) objects.empty ≡ objects.retain_keys m p
puts_wanted m p = objects.same_map nat_list_cmp_total same_keys _ _ (λ q.
    get-puts (filter (λ e. p e.0) (objects.entries m)) objects.empty q (is_sorted-where_key bytes_cmp p (objects.entries m) (objects.entries_sorted m))
    ∙ ap (first_of_two (objects.find bytes_cmp q (filter (λ e. p e.0) (objects.entries m)))) (objects.get-empty bytes_cmp q)
    ∙ or_nothing (objects.find bytes_cmp q (filter (λ e. p e.0) (objects.entries m)))
    ∙ find-where_key bytes_cmp p q (λ x e. ap p (sym (same_keys q x e))) (objects.entries m)
    ∙ ap (λ o. cond (p q) o None) (sym (objects.get-entries m q))
    ∙ sym (objects.get-retain_keys m p q (λ x e. ap p (sym (same_keys q x e)))))

-- one more, where it is wanted
pub puts_more : (P : List ℕ × List ℕ → Bool) (left rest : List (List ℕ × List ℕ)) (e : List ℕ × List ℕ) (near new all : Objects) → left ≡ e ∷ rest → new ≡ cond (P e) (objects.insert near e.0 e.1) near
    → puts (filter P left) near ≡ all → puts (filter P rest) new ≡ all
puts_more P left rest e near new all l n h = ap (puts (filter P rest)) n ∙ by (P e) ∙ ap (λ es. puts (filter P es) near) (sym l) ∙ h
  where
    by : (b : Bool) → puts (filter P rest) (cond b (objects.insert near e.0 e.1) near) ≡ puts (cond b (e ∷ filter P rest) (filter P rest)) near
    by true = refl
    by false = refl
