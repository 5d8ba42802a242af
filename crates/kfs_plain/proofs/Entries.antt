-- Entries in order: what an insertion, a removal and a filter leave.
use Rattle.std.proofs.Common.{◌≡◌, ℕ, ◌+◌, ◌≤◌, Bool, true, false, cond, T, List, [], ◌∷◌, length, sum_by, filter, Option, Some, None, refl, ap, sym, subst, ◌∙◌, arith}
use Rattle.std.specs.Prelude.{◌&&◌, ◌||◌, IsSome}
use Rattle.std.specs.Ordering.{is_eq, is_lt, nat_cmp, match_ordering}
use Rattle.std.specs.declared.cmp.Ordering.{Ordering}
use Rattle.std.specs.declared.cmp.Ordering.TheVariants.{Less, Equal, Greater}
use Rattle.std.specs.Cmp.{nat_cmp_total}
use Rattle.std.specs.BTreeMap.{insert_entry, is_at}
use Rattle.std.specs.Map.{remove_entry, keys_of}
use Rattle.std.specs.List.{AllByRecursion, list_any}
use Rattle.std.specs.List.Sorted.{IsStrictlySortedBy}
use Rattle.std.specs.FinMap.{find, put, is_sorted, nat_cmp-IsAntisymmetric}
use Rattle.std.specs.FinMap.Entries.{by_order, below_all, find-put, find-where_key}
use Rattle.std.proofs.lemmas.List.Sums.{sum_by-cons}
use Rattle.std.proofs.lemmas.Bool.Decides.{nat_tests}
use Rattle.kfs_model.proofs.Tests.{both}

pub insert_entry_is_put : {K X : Type 0} (R : K → K → Ordering) (es : List (K × X)) (k : K) (v : X) → insert_entry R es k v ≡ put R k v es
insert_entry_is_put R [] k v = refl
insert_entry_is_put R (e ∷ es) k v = ap (λ rest. match_ordering (R k e.0) ((k, v) ∷ e ∷ es) ((e.0, v) ∷ es) (e ∷ rest)) (insert_entry_is_put R es k v)

-- no key that ties is there
abbrev pub Lacks : {K X : Type 0} → (K → K → Ordering) → K → List (K × X) → Type 0
Lacks R k es = find R k es ≡ None

taken : {X : Type 0} (b : Bool) (x : X) (o : Option X) → cond b (Some x) o ≡ None → o ≡ None
taken true x o e = absurd (cc)
taken false x o e = e

-- a sum grows by the new entry
pub sum_by-put_new : {K X : Type 0} (f : K × X → ℕ) (R : K → K → Ordering) (k : K) (v : X) (es : List (K × X)) → Lacks R k es → sum_by f (put R k v es) ≡ sum_by f es + f (k, v)
sum_by-put_new f R k v [] none = omega arith
sum_by-put_new f R k v (e ∷ es) none =
    let rest = sum_by-put_new f R k v es (taken _ e.1 _ none) in
    elim (R k e.0) as (λ r. R k e.0 ≡ r → sum_by f (by_order r ((k, v) ∷ e ∷ es) ((e.0, v) ∷ es) (e ∷ put R k v es)) ≡ sum_by f (e ∷ es) + f (k, v)) [
      | Less ↦ λ is. sum_by-cons f (k, v) (e ∷ es) ∙ (let t : f (k, v) + sum_by f (e ∷ es) ≡ sum_by f (e ∷ es) + f (k, v) = omega arith in t)
      | Equal ↦ λ is. absurd (let bad : Some e.1 ≡ None = ap (λ r. cond (is_eq r) (Some e.1) (find R k es)) (sym is) ∙ none in cc)
      | Greater ↦ λ is. sum_by-cons f e (put R k v es) ∙ (let t : f e + sum_by f (put R k v es) ≡ (f e + sum_by f es) + f (k, v) = omega (arith, rest) in t) ∙ ap (λ n. n + f (k, v)) (sym (sum_by-cons f e es))
    ] refl

pub length-put_new : {K X : Type 0} (R : K → K → Ordering) (k : K) (v : X) (es : List (K × X)) → Lacks R k es → length (put R k v es) ≡ length es + 1
length-put_new R k v [] none = refl
length-put_new R k v (e ∷ es) none =
    let rest = length-put_new R k v es (taken _ e.1 _ none) in
    elim (R k e.0) as (λ r. R k e.0 ≡ r → length (by_order r ((k, v) ∷ e ∷ es) ((e.0, v) ∷ es) (e ∷ put R k v es)) ≡ length (e ∷ es) + 1) [
      | Less ↦ λ is. omega arith
      | Equal ↦ λ is. absurd (let bad : Some e.1 ≡ None = ap (λ r. cond (is_eq r) (Some e.1) (find R k es)) (sym is) ∙ none in cc)
      | Greater ↦ λ is. omega (arith, rest)
    ] refl

tied_nat : (k : ℕ) → is_eq (nat_cmp k k) ≡ true
tied_nat k = grind (arith, nat_tests)

-- what was put and is taken away again
pub remove_entry-put_new : {X : Type 0} (k : ℕ) (v : X) (es : List (ℕ × X)) → Lacks nat_cmp k es → remove_entry (is_at (nat_cmp k)) (put nat_cmp k v es) ≡ es
remove_entry-put_new k v [] none = ap (λ b. cond b [] ((k, v) ∷ [])) (tied_nat k)
remove_entry-put_new k v (e ∷ es) none =
    let rest = remove_entry-put_new k v es (taken _ e.1 _ none) in
    elim (nat_cmp k e.0) as (λ r. nat_cmp k e.0 ≡ r → remove_entry (is_at (nat_cmp k)) (by_order r ((k, v) ∷ e ∷ es) ((e.0, v) ∷ es) (e ∷ put nat_cmp k v es)) ≡ e ∷ es) [
      | Less ↦ λ is. ap (λ b. cond b (e ∷ es) ((k, v) ∷ remove_entry (is_at (nat_cmp k)) (e ∷ es))) (tied_nat k)
      | Equal ↦ λ is. absurd (let bad : Some e.1 ≡ None = ap (λ r. cond (is_eq r) (Some e.1) (find nat_cmp k es)) (sym is) ∙ none in cc)
      | Greater ↦ λ is. ap (λ r. cond (is_eq r) (put nat_cmp k v es) (e ∷ remove_entry (is_at (nat_cmp k)) (put nat_cmp k v es))) is ∙ ap (λ rest. e ∷ rest) rest
    ] refl

below_test : {X : Type 0} (x : ℕ) (es : List (ℕ × X)) → AllByRecursion (λ y. nat_cmp x y ≡ Less) (keys_of es) → T (below_all nat_cmp x es)
below_test x [] h = tt
below_test x (e ∷ es) h = subst (λ o. T (is_lt o && below_all nat_cmp x es)) (sym h.0) (below_test x es h.1)

-- a map's entries are in the order of their keys
pub sorted_test : {X : Type 0} (es : List (ℕ × X)) → IsStrictlySortedBy nat_cmp (keys_of es) → T (is_sorted nat_cmp es)
unfolding IsStrictlySortedBy
sorted_test [] h = tt
sorted_test (e ∷ es) h = both _ _ (below_test e.0 es h.0) (sorted_test es h.1)

-- a key that is looked for after a put
pub find-put_nat : {X : Type 0} (n k : ℕ) (v : X) (es : List (ℕ × X)) → find nat_cmp n (put nat_cmp k v es) ≡ cond (is_eq (nat_cmp n k)) (Some v) (find nat_cmp n es)
find-put_nat n k v es = find-put nat_cmp nat_cmp_total n k v es

pub Lacks-put : {X : Type 0} (n k : ℕ) (v : X) (es : List (ℕ × X)) → k + 1 ≤ n → Lacks nat_cmp n es → Lacks nat_cmp n (put nat_cmp k v es)
Lacks-put n k v es lt none = find-put_nat n k v es ∙ grind (arith, nat_tests, none)

some_cond : {X : Type 0} (b : Bool) (v : X) (o : Option X) → IsSome o → IsSome (cond b (Some v) o)
some_cond true v o h = refl
some_cond false v o h = h

-- what is there stays after a put
pub IsSome-find_put : {X : Type 0} (n k : ℕ) (v : X) (es : List (ℕ × X)) → IsSome (find nat_cmp n es) → IsSome (find nat_cmp n (put nat_cmp k v es))
IsSome-find_put n k v es h = subst IsSome (sym (find-put_nat n k v es)) (some_cond (is_eq (nat_cmp n k)) v (find nat_cmp n es) h)

-- a filter of entries by their keys
pub find-filter : {X : Type 0} (p : ℕ → Bool) (n : ℕ) (es : List (ℕ × X)) → find nat_cmp n (filter (λ e. p e.0) es) ≡ cond (p n) (find nat_cmp n es) None
find-filter p n es = find-where_key nat_cmp p n (λ x tie. ap p (sym (nat_cmp-IsAntisymmetric n x tie))) es

pub sum_by-filter_le : {X : Type 0} (f : X → ℕ) (p : X → Bool) (es : List X) → sum_by f (filter p es) ≤ sum_by f es
sum_by-filter_le f p [] = omega arith
sum_by-filter_le f p (e ∷ es) =
    let rest = sum_by-filter_le f p es in
    let here = sum_by-cons f e es in
    elim (p e) as (λ b. sum_by f (cond b (e ∷ filter p es) (filter p es)) ≤ sum_by f (e ∷ es)) [
      | true ↦ let more = sum_by-cons f e (filter p es) in omega arith
      | false ↦ omega arith
    ]

pub length-filter_le : {X : Type 0} (p : X → Bool) (es : List X) → length (filter p es) ≤ length es
length-filter_le p [] = omega arith
length-filter_le p (e ∷ es) =
    let rest = length-filter_le p es in
    elim (p e) as (λ b. length (cond b (e ∷ filter p es) (filter p es)) ≤ length (e ∷ es)) [ true ↦ omega arith | false ↦ omega arith ]

any_here : (a b : Bool) → a ≡ true → (a || b) ≡ true
any_here true b e = refl
any_here false b e = absurd (cc)

any_later : (a b : Bool) → b ≡ true → (a || b) ≡ true
any_later true b e = refl
any_later false b e = e

found_here : {X : Type 0} (test : X → Bool) (b : Bool) (x y : X) (o : Option X) (rest : Bool) → cond b (Some y) o ≡ Some x → test x ≡ true → (o ≡ Some x → rest ≡ true) → (test y || rest) ≡ true
found_here test true x y o rest e t later = any_here (test y) rest (let same : y ≡ x = cc in ap test same ∙ t)
found_here test false x y o rest e t later = any_later (test y) rest (later e)

-- an entry that is found is one of them
pub list_any-found : {X : Type 0} (test : X → Bool) (n : ℕ) (x : X) (es : List (ℕ × X)) → find nat_cmp n es ≡ Some x → test x ≡ true → list_any (λ e. test e.1) es ≡ true
list_any-found test n x [] e t = absurd (cc)
list_any-found test n x (y ∷ es) e t = found_here test (is_eq (nat_cmp n y.0)) x y.1 (find nat_cmp n es) (list_any (λ e. test e.1) es) e t (λ f. list_any-found test n x es f t)

-- each key is n or more
abbrev pub AtLeast : {X : Type 0} → ℕ → List (ℕ × X) → Type 0
AtLeast n [] = Unit {0}
AtLeast n (e ∷ es) = (n ≤ e.0) × AtLeast n es

pub AtLeast-zero : {X : Type 0} (es : List (ℕ × X)) → AtLeast 0 es
AtLeast-zero [] = tt
AtLeast-zero (e ∷ es) = (omega arith, AtLeast-zero es)

pub and_first : (a b : Bool) → T (a && b) → T a
and_first true b h = tt
and_first false b h = absurd h

pub and_second : (a b : Bool) → T (a && b) → T b
and_second true b h = h
and_second false b h = absurd h

lower : (x y : ℕ) → T (is_lt (nat_cmp x y)) → x + 1 ≤ y
lower x y h = grind (arith, nat_tests, h)

pub AtLeast-above : {X : Type 0} (x : ℕ) (es : List (ℕ × X)) → T (below_all nat_cmp x es) → AtLeast (x + 1) es
AtLeast-above x [] h = tt
AtLeast-above x (e ∷ es) h = (lower x e.0 (and_first _ _ h), AtLeast-above x es (and_second _ _ h))

untied : (n y : ℕ) → n + 1 ≤ y → is_eq (nat_cmp n y) ≡ false
untied n y lt = grind (arith, nat_tests)

pub untied_above : (n y : ℕ) → y + 1 ≤ n → is_eq (nat_cmp n y) ≡ false
untied_above n y lt = grind (arith, nat_tests)

-- a lower key isn't there
pub Lacks-lower : {X : Type 0} (n : ℕ) (es : List (ℕ × X)) → AtLeast (n + 1) es → Lacks nat_cmp n es
Lacks-lower n [] h = refl
Lacks-lower n (e ∷ es) h = ap (λ b. cond b (Some e.1) (find nat_cmp n es)) (untied n e.0 h.0) ∙ Lacks-lower n es h.1

-- what was put is there
pub IsSome-put : {X : Type 0} (n : ℕ) (v : X) (es : List (ℕ × X)) → IsSome (find nat_cmp n (put nat_cmp n v es))
IsSome-put n v es = subst IsSome (sym (find-put_nat n n v es ∙ ap (λ b. cond b (Some v) (find nat_cmp n es)) (tied_nat n))) refl
