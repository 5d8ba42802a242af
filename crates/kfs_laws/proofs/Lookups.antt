-- What is found, also after one entry is put, at the orders of places and of numbers.
use Rattle.std.proofs.Common.{◌≡◌, ◌≢◌, ℕ, ◌==◌, ◌&&◌, ◌||◌, [], ◌∷◌, arith, ◌⊎◌, inl, inr, Bool, true, false, cond, T, refl, sym, ◌∙◌, ap, List, length, ◌+◌, is_some, Option, Some, None}
use Rattle.std.specs.List.{list_any}
pub use Rattle.std.proofs.lemmas.Bool.{or_left}
use Rattle.std.proofs.lemmas.Bool.{or_right}
use Rattle.std.proofs.lemmas.Bool.Decides.{nat_tests}
use Rattle.std.proofs.lemmas.Option.{same_Some}
use Rattle.std.specs.Ordering.{nat_cmp, eq_by_cmp, is_eq, is_lt}
use Rattle.std.specs.declared.cmp.Ordering.{Ordering}
use Rattle.std.specs.declared.cmp.Ordering.TheVariants.{Less, Equal, Greater}
use Rattle.std.specs.Cmp.{IsTotalOrder, nat_cmp_total, tied_itself}
use Rattle.std.specs.Cmp.Lexicographic.{nat_list_cmp_total, lists_total}
use Rattle.std.specs.FinMap.{IsAntisymmetric, nat_cmp-IsAntisymmetric, slice_cmp-IsAntisymmetric, find, put, is_sorted, insert, entries, from_sorted, get-from_sorted, entries-insert, entries-from_sorted, same_map, len, len-insert, len-entries}
use Rattle.std.specs.FinMap.Entries.{below_all, find-put, is_sorted-put}
use Rattle.kfs_model.specs.Tree.{Place, place_cmp}

pub none_some : {A : Type 0} (o : Option A) (x : A) → o ≡ None → o ≢ Some x
none_some o x n s = absurd (cc)

module _ {K : Type 0} {R : K → K → Ordering} (o : IsTotalOrder R) (same : IsAntisymmetric R) where
  pub decide : (q k : K) → (q ≡ k) ⊎ (eq_by_cmp R q k ≡ false)
  decide q k = by (R q k) refl
    where
      by : (r : Ordering) → R q k ≡ r → (q ≡ k) ⊎ (is_eq r ≡ false)
      by Less e = inr refl
      by Equal e = inl (same q k e)
      by Greater e = inr refl

  pub apart_test : (q k : K) → q ≢ k → eq_by_cmp R q k ≡ false
  apart_test q k d = elim (decide q k) [ inl e ↦ absurd (d e) | inr f ↦ f ]

  pub tie_test : (k : K) → eq_by_cmp R k k ≡ true
  tie_test k = ap is_eq (tied_itself o k)

  module _ {X : Type 0} where
    find_put : (k : K) (v : X) (es : List (K × X)) → find R k (put R k v es) ≡ Some v
    find_put k v es = find-put R o k k v es ∙ ap (λ b. cond b (Some v) (find R k es)) (tie_test k)

    find_other : (q k : K) (v : X) (es : List (K × X)) → q ≢ k → find R q (put R k v es) ≡ find R q es
    find_other q k v es d = find-put R o q k v es ∙ ap (λ b. cond b (Some v) (find R q es)) (apart_test q k d)

    find_put_same : (k : K) (v : X) (es : List (K × X)) → find R k es ≡ Some v → (q : K) → find R q (put R k v es) ≡ find R q es
    find_put_same k v es e q = elim (decide q k) [
      | inl is ↦ ap (λ j. find R j (put R k v es)) is ∙ find_put k v es ∙ sym (ap (λ j. find R j es) is ∙ e)
      | inr other ↦ find-put R o q k v es ∙ ap (λ b. cond b (Some v) (find R q es)) other
    ]

    -- what is found tells sorted entries apart
    pub same_entries : (es fs : List (K × X)) → T (is_sorted R es) → T (is_sorted R fs) → ((q : K) → find R q es ≡ find R q fs) → es ≡ fs
    same_entries es fs a b is =
        sym (entries-from_sorted R es a)
        ∙ ap entries (same_map o same (from_sorted {R = R} es) (from_sorted {R = R} fs) (λ q. get-from_sorted R es q a ∙ is q ∙ sym (get-from_sorted R fs q b)))
        ∙ entries-from_sorted R fs b

pub same_places : IsAntisymmetric place_cmp
same_places = slice_cmp-IsAntisymmetric (slice_cmp-IsAntisymmetric nat_cmp-IsAntisymmetric)

pub places_total : IsTotalOrder place_cmp
places_total = lists_total nat_list_cmp_total

pub place_put : {X : Type 0} (k : Place) (v : X) (es : List (Place × X)) → find place_cmp k (put place_cmp k v es) ≡ Some v
place_put k v es = find_put places_total same_places k v es

pub place_other : {X : Type 0} (q k : Place) (v : X) (es : List (Place × X)) → q ≢ k → find place_cmp q (put place_cmp k v es) ≡ find place_cmp q es
place_other q k v es d = find_other places_total same_places q k v es d

pub number_put : {X : Type 0} (k : ℕ) (v : X) (es : List (ℕ × X)) → find nat_cmp k (put nat_cmp k v es) ≡ Some v
number_put k v es = find_put nat_cmp_total nat_cmp-IsAntisymmetric k v es

pub number_other : {X : Type 0} (q k : ℕ) (v : X) (es : List (ℕ × X)) → q ≢ k → find nat_cmp q (put nat_cmp k v es) ≡ find nat_cmp q es
number_other q k v es d = find_other nat_cmp_total nat_cmp-IsAntisymmetric q k v es d

pub same_numbers : {X : Type 0} (es fs : List (ℕ × X)) → T (is_sorted nat_cmp es) → T (is_sorted nat_cmp fs) → ((q : ℕ) → find nat_cmp q es ≡ find nat_cmp q fs) → es ≡ fs
same_numbers es fs a b is = same_entries nat_cmp_total nat_cmp-IsAntisymmetric es fs a b is

-- a value that is there already changes nothing
pub number_put_same : {X : Type 0} (k : ℕ) (v : X) (es : List (ℕ × X)) → T (is_sorted nat_cmp es) → find nat_cmp k es ≡ Some v → put nat_cmp k v es ≡ es
number_put_same k v es a e = same_numbers (put nat_cmp k v es) es (is_sorted-put nat_cmp nat_cmp_total k v es a) a (find_put_same nat_cmp_total nat_cmp-IsAntisymmetric k v es e)

pub decide_place : (q k : Place) → (q ≡ k) ⊎ (q ≢ k)
decide_place q k = elim (decide places_total same_places q k) [ inl e ↦ inl e | inr f ↦ inr (λ e. let t : true ≡ false = sym (tie_test places_total same_places k) ∙ sym (ap (λ x. eq_by_cmp place_cmp x k) e) ∙ f in cc) ]

pub decide_number : (q k : ℕ) → (q ≡ k) ⊎ (q ≢ k)
decide_number q k = elim (decide nat_cmp_total nat_cmp-IsAntisymmetric q k) [ inl e ↦ inl e | inr f ↦ inr (λ e. let t : true ≡ false = sym (tie_test nat_cmp_total nat_cmp-IsAntisymmetric k) ∙ sym (ap (λ x. eq_by_cmp nat_cmp x k) e) ∙ f in cc) ]

pub place_apart : (q k : Place) → q ≢ k → eq_by_cmp place_cmp q k ≡ false
place_apart q k d = apart_test places_total same_places q k d

pub place_tied : (q : Place) → eq_by_cmp place_cmp q q ≡ true
place_tied q = tie_test places_total same_places q

-- a new value under a number that has one adds no entry
pub length_put : {X : Type 0} (k : ℕ) (v x : X) (es : List (ℕ × X)) → T (is_sorted nat_cmp es) → find nat_cmp k es ≡ Some x → length (put nat_cmp k v es) ≡ length es
length_put k v x es a e =
    let m = from_sorted {R = nat_cmp} es in
    ap (λ fs. length (put nat_cmp k v fs)) (sym (entries-from_sorted nat_cmp es a)) ∙ ap length (sym (entries-insert nat_cmp_total m k v)) ∙ sym (len-entries (insert m k v))
    ∙ len-insert nat_cmp_total m k v ∙ ap (λ o. cond (is_some o) (len m) (len m + 1)) (get-from_sorted nat_cmp es k a ∙ e)
    ∙ len-entries m ∙ ap length (entries-from_sorted nat_cmp es a)

pub number_apart : (q k : ℕ) → q ≢ k → eq_by_cmp nat_cmp q k ≡ false
number_apart q k d = apart_test nat_cmp_total nat_cmp-IsAntisymmetric q k d

pub number_tied : (q : ℕ) → eq_by_cmp nat_cmp q q ≡ true
number_tied q = tie_test nat_cmp_total nat_cmp-IsAntisymmetric q

-- what passes a test before it is told
pub passed : {A : Type 0} (b : Bool) (o : Option A) (x : A) → cond b o None ≡ Some x → (b ≡ true) × (o ≡ Some x)
passed true o x e = (refl, e)
passed false o x e = absurd (cc)

-- what is found, some entry has
pub some_passes : {K V : Type 0} (R : K → K → Ordering) (test : V → Bool) (es : List (K × V)) (k : K) (v : V) → find R k es ≡ Some v → test v ≡ true → list_any (λ e. test e.1) es ≡ true
some_passes R test [] k v e t = absurd (cc)
some_passes R test (x ∷ es) k v e t = by (eq_by_cmp R k x.0) (λ f. some_passes R test es k v f t) e
  where
    by : (b : Bool) → (find R k es ≡ Some v → list_any (λ e. test e.1) es ≡ true) → cond b (Some x.1) (find R k es) ≡ Some v → (test x.1 || list_any (λ e. test e.1) es) ≡ true
    by true rest e = or_left (test x.1) (list_any (λ e. test e.1) es) (ap test (same_Some x.1 v e) ∙ t)
    by false rest e = or_right (test x.1) (list_any (λ e. test e.1) es) (rest e)

-- a number that is found is the number of some entry
pub some_found : {K : Type 0} (R : K → K → Ordering) (es : List (K × ℕ)) (k : K) (n : ℕ) → find R k es ≡ Some n → list_any (λ e. e.1 == n) es ≡ true
some_found R es k n e = some_passes R (λ m. m == n) es k n e (grind (arith, nat_tests))

below_none : {K V : Type 0} (R : K → K → Ordering) (y : K) (es : List (K × V)) → T (below_all R y es) → find R y es ≡ None
below_none R y [] h = refl
below_none R y (e ∷ es) h = by (R y e.0) (below_none R y es) h
  where
    by : (r : Ordering) → (T (below_all R y es) → find R y es ≡ None) → T (is_lt r && below_all R y es) → cond (is_eq r) (Some e.1) (find R y es) ≡ None
    by Less rest h = rest h
    by Equal rest h = absurd h
    by Greater rest h = absurd h

both : (b c : Bool) → T (b && c) → T b × T c
both true c h = (tt, h)
both false c h = absurd h

module _ {K V : Type 0} (R : K → K → Ordering) (o : IsTotalOrder R) (same : IsAntisymmetric R) where
  -- what some of sorted entries has, a look-up finds
  pub any_found : (test : V → Bool) (es : List (K × V)) → T (is_sorted R es) → list_any (λ e. test e.1) es ≡ true → (k : K) × (v : V) × (find R k es ≡ Some v) × (test v ≡ true)
  any_found test [] sorted e = absurd (cc)
  any_found test (x ∷ es) sorted e =
      let parts = both (below_all R x.0 es) (is_sorted R es) sorted in
      by (test x.1) refl (any_found test es parts.1) parts.0 e
    where
      later : (k : K) (v : V) (r : Ordering) → R k x.0 ≡ r → T (below_all R x.0 es) → find R k es ≡ Some v → cond (is_eq r) (Some x.1) (find R k es) ≡ Some v
      later k v Less is below f = f
      later k v Equal is below f = absurd (none_some (find R k es) v (ap (λ j. find R j es) (same k x.0 is) ∙ below_none R x.0 es below) f)
      later k v Greater is below f = f

      by : (b : Bool) → test x.1 ≡ b → (list_any (λ e. test e.1) es ≡ true → (k : K) × (v : V) × (find R k es ≡ Some v) × (test v ≡ true)) → T (below_all R x.0 es) → (b || list_any (λ e. test e.1) es) ≡ true
          → (k : K) × (v : V) × (find R k (x ∷ es) ≡ Some v) × (test v ≡ true)
      by true t rest below e = (x.0, x.1, ap (λ r. cond (is_eq r) (Some x.1) (find R x.0 es)) (tied_itself o x.0), t)
      by false t rest below e = let h = rest e in (h.0, h.1, later h.0 h.1 (R h.0 x.0) refl below h.2, h.3)

pub same_number : (m n : ℕ) → (m == n) ≡ true → m ≡ n
same_number m n e = grind (arith, nat_tests)

-- the same of a number
pub number_found : {K : Type 0} (R : K → K → Ordering) → IsTotalOrder R → IsAntisymmetric R → (n : ℕ) (es : List (K × ℕ)) → T (is_sorted R es) → list_any (λ e. e.1 == n) es ≡ true → (k : K) × (find R k es ≡ Some n)
number_found R o same n es sorted e = let h = any_found R o same (λ m. m == n) es sorted e in (h.0, h.2 ∙ ap Some (same_number h.1 n h.3))
