-- Objects that are read piece by piece, each from the last key of the one before.
use Rattle.std.proofs.Common.{◌≡◌, ℕ, zero, suc, ◌+◌, ◌≤◌, ◌&&◌, not, true, false, cond, Bool, T, refl, sym, ◌∙◌, ap, subst, arith, List, [], ◌∷◌, ◌++◌, filter, take, drop, slice_get, nat_eq, Some}
use Rattle.std.specs.Ordering.{is_gt, is_lt, ordering_reverse}
use Rattle.std.specs.List.{starts_with}
use Rattle.std.specs.declared.cmp.Ordering.{Ordering}
use Rattle.std.specs.declared.cmp.Ordering.TheVariants.{Less, Equal, Greater}
use Rattle.std.specs.Cmp.{tied_itself}
use Rattle.std.specs.Cmp.Lexicographic.{nat_list_cmp_total}
use Rattle.std.specs.FinMap as objects
use Rattle.std.specs.FinMap.Entries.{below_all, is_sorted, is_sorted-where_key}
use Rattle.std.proofs.lemmas.List.{take-append-drop, take-take}
use Rattle.std.proofs.lemmas.Option.{same_Some}
use Rattle.kv_device.specs.Bytes.{bytes_cmp}
use Rattle.kv_device.specs.Objects.{Objects, pairs_from, is_wanted}
use Rattle.kfs_shows.proofs.Lookups.{same_bytes}

-- a piece without its first elements, after those before it
pub piece_next : {A : Type 0} (a k n : ℕ) (xs : List A) → k ≤ n → take (a + k) xs ++ drop k (take n (drop a xs)) ≡ take (a + n) xs
piece_next {A = A} zero k n xs le =
    let e : 0 + k ≡ k = omega arith in
    let f : 0 + n ≡ n = omega arith in
    ap (λ i. take i xs ++ drop k (take n xs)) e ∙ ap (λ l. l ++ drop k (take n xs)) (sym (take-take k n xs le)) ∙ take-append-drop k (take n xs) ∙ ap (λ i. take i xs) (sym f)
piece_next {A = A} (suc a) k n xs le =
    let e : suc a + k ≡ suc (a + k) = omega arith in
    let f : suc a + n ≡ suc (a + n) = omega arith in
    ap (λ i. take i xs ++ drop k (take n (drop (suc a) xs))) e ∙ by (λ xs. piece_next a k n xs le) xs ∙ ap (λ i. take i xs) (sym f)
  where
    none : (i j : ℕ) → drop i (take {A = A} j []) ≡ []
    none zero zero = refl
    none zero (suc j) = refl
    none (suc i) zero = refl
    none (suc i) (suc j) = refl

    by : ((xs : List A) → take (a + k) xs ++ drop k (take n (drop a xs)) ≡ take (a + n) xs) → (xs : List A) → take (suc (a + k)) xs ++ drop k (take n (drop (suc a) xs)) ≡ take (suc (a + n)) xs
    by rest [] = none k n
    by rest (x ∷ xs) = ap (λ l. x ∷ l) (rest xs)

-- ---- from a key on

abbrev from_on : List ℕ → List ℕ × List ℕ → Bool
from_on k e = not (is_gt (bytes_cmp k e.0))

not_greater : (r : Ordering) → T (is_lt r) → not (is_gt r) ≡ true
not_greater Less h = refl
not_greater Equal h = absurd h
not_greater Greater h = absurd h

left_of : (a b : Bool) → T (a && b) → T a
left_of true b h = tt
left_of false b h = h

right_of : (a b : Bool) → T (a && b) → T b
right_of true b h = h
right_of false b h = absurd h

all_above : (k : List ℕ) (es : List (List ℕ × List ℕ)) → T (below_all bytes_cmp k es) → filter (from_on k) es ≡ es
all_above k [] h = refl
all_above k (e ∷ es) h =
    ap (λ b. cond b (e ∷ filter (from_on k) es) (filter (from_on k) es)) (not_greater (bytes_cmp k e.0) (left_of _ _ h))
    ∙ ap (λ l. e ∷ l) (all_above k es (right_of _ _ h))

less_at : (k q : List ℕ) (es : List (List ℕ × List ℕ)) (i : ℕ) (v : List ℕ) → T (below_all bytes_cmp q es) → slice_get es i ≡ Some (k, v) → bytes_cmp q k ≡ Less
less_at k q [] i v h e = absurd (cc)
less_at k q (x ∷ es) zero v h e =
    let same : x ≡ (k, v) = same_Some _ _ e in
    let is : (r : Ordering) → T (is_lt r) → r ≡ Less = λ r. elim r as (λ r. T (is_lt r) → r ≡ Less) [ Less ↦ λ t. refl | Equal ↦ λ t. absurd t | Greater ↦ λ t. absurd t ] in
    is (bytes_cmp q k) (subst (λ (y : List ℕ × List ℕ). T (is_lt (bytes_cmp q y.0))) same (left_of _ _ h))
less_at k q (x ∷ es) (suc i) v h e = less_at k q es i v (right_of _ _ h) e

from_place : (k : List ℕ) (es : List (List ℕ × List ℕ)) (i : ℕ) (v : List ℕ) → T (is_sorted bytes_cmp es) → slice_get es i ≡ Some (k, v) → filter (from_on k) es ≡ drop i es
from_place k [] i v s e = absurd (cc)
from_place k (x ∷ es) zero v s e =
    let same : x ≡ (k, v) = same_Some _ _ e in
    let key : x.0 ≡ k = ap (λ (y : List ℕ × List ℕ). y.0) same in
    let here : from_on k x ≡ true = ap (λ q. not (is_gt (bytes_cmp k q))) key ∙ ap (λ r. not (is_gt r)) (tied_itself nat_list_cmp_total k) in
    ap (λ b. cond b (x ∷ filter (from_on k) es) (filter (from_on k) es)) here
    ∙ ap (λ l. x ∷ l) (all_above k es (subst (λ q. T (below_all bytes_cmp q es)) key (left_of _ _ s)))
from_place k (x ∷ es) (suc i) v s e =
    let less = less_at k x.0 es i v (left_of _ _ s) e in
    let greater : bytes_cmp k x.0 ≡ Greater = nat_list_cmp_total.antisymm k x.0 ∙ ap ordering_reverse less in
    ap (λ r. cond (not (is_gt r)) (x ∷ filter (from_on k) es) (filter (from_on k) es)) greater
    ∙ from_place k es i v (right_of _ _ s) e

twice : (f g h : List ℕ × List ℕ → Bool) → ((e : List ℕ × List ℕ) → cond (g e) (f e) false ≡ h e) → (es : List (List ℕ × List ℕ)) → filter f (filter g es) ≡ filter h es
twice f g h same [] = refl
twice f g h same (e ∷ es) = by (g e) (same e) (twice f g h same es)
  where
    by : (b : Bool) → cond b (f e) false ≡ h e → filter f (filter g es) ≡ filter h es → filter f (cond b (e ∷ filter g es) (filter g es)) ≡ cond (h e) (e ∷ filter h es) (filter h es)
    by true s rest = ap (λ b. cond b (e ∷ filter f (filter g es)) (filter f (filter g es))) s ∙ ap (λ l. cond (h e) (e ∷ l) l) rest
    by false s rest = rest ∙ ap (λ b. cond b (e ∷ filter h es) (filter h es)) s

passed : (g : List ℕ × List ℕ → Bool) (es : List (List ℕ × List ℕ)) (i : ℕ) (x : List ℕ × List ℕ) → slice_get (filter g es) i ≡ Some x → g x ≡ true
passed g [] i x e = absurd (cc)
passed g (y ∷ es) i x e = by (g y) refl (λ i e. passed g es i x e) i e
  where
    by : (b : Bool) → g y ≡ b → ((i : ℕ) → slice_get (filter g es) i ≡ Some x → g x ≡ true) → (i : ℕ) → slice_get (cond b (y ∷ filter g es) (filter g es)) i ≡ Some x → g x ≡ true
    by true t rest zero e = ap g (sym (same_Some _ _ e)) ∙ t
    by true t rest (suc i) e = rest i e
    by false t rest i e = rest i e

first_true : (a b : Bool) → (a && b) ≡ true → a ≡ true
first_true true b e = refl
first_true false b e = e

upto : (p k x : List ℕ) → not (is_gt (bytes_cmp p k)) ≡ true → not (is_gt (bytes_cmp k x)) ≡ true → not (is_gt (bytes_cmp p x)) ≡ true
upto p k x a b = by (bytes_cmp p k) (bytes_cmp k x) refl refl a b
  where
    by : (r s : Ordering) → bytes_cmp p k ≡ r → bytes_cmp k x ≡ s → not (is_gt r) ≡ true → not (is_gt s) ≡ true → not (is_gt (bytes_cmp p x)) ≡ true
    by Less Less r s a b = ap (λ o. not (is_gt o)) (nat_list_cmp_total.trans p k x r s)
    by Less Equal r s a b = ap (λ q. not (is_gt (bytes_cmp p q))) (sym (same_bytes k x s)) ∙ ap (λ o. not (is_gt o)) r
    by Less Greater r s a b = absurd (cc)
    by Equal o r s a b = ap (λ q. not (is_gt (bytes_cmp q x))) (same_bytes p k r) ∙ ap (λ o. not (is_gt o)) s ∙ b
    by Greater o r s a b = absurd (cc)

-- from the key of one of them on
pub from_next : (m : Objects) (p : List ℕ) (i : ℕ) (k v : List ℕ) → slice_get (pairs_from m p p) i ≡ Some (k, v) → pairs_from m k p ≡ drop i (pairs_from m p p)
unfolding pairs_from
from_next m p i k v e =
    let es = objects.entries m in
    let g : List ℕ × List ℕ → Bool = λ e. is_wanted p p e.0 in
    let h : List ℕ × List ℕ → Bool = λ e. is_wanted k p e.0 in
    let here = first_true (not (is_gt (bytes_cmp p k))) (starts_with nat_eq k p) (passed g es i (k, v) e) in
    sym (twice (from_on k) g h (λ e. both here e) es) ∙ from_place k (filter g es) i v (is_sorted-where_key bytes_cmp (λ q. is_wanted p p q) es (objects.entries_sorted m)) e
  where
    by : (a b s : Bool) → (b ≡ true → a ≡ true) → cond (a && s) b false ≡ (b && s)
    by true true true h = refl
    by true true false h = refl
    by true false true h = refl
    by true false false h = refl
    by false true s h = let bad = h refl in absurd (cc)
    by false false s h = refl

    both : not (is_gt (bytes_cmp p k)) ≡ true → (e : List ℕ × List ℕ) → cond (is_wanted p p e.0) (from_on k e) false ≡ is_wanted k p e.0
    both here e = by (not (is_gt (bytes_cmp p e.0))) (not (is_gt (bytes_cmp k e.0))) (starts_with nat_eq e.0 p) (upto p k e.0 here)
