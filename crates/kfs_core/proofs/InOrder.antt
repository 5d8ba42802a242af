-- A tree's names in their order: a place, and then what lies below it, child by child.
use Rattle.std.proofs.Common.{◌≡◌, ◌≢◌, ℕ, ◌||◌, inl, inr, true, false, cond, Bool, T, refl, sym, ◌∙◌, ap, subst, List, [], ◌∷◌, ◌++◌, filter, Option, Some, None, append_assoc, append-nil}
use Rattle.std.specs.Prelude.{is_some}
use Rattle.std.specs.List.{list_any}
use Rattle.std.specs.Ordering.{eq_by_cmp, is_lt, ordering_then}
use Rattle.std.specs.declared.cmp.Ordering.{Ordering}
use Rattle.std.specs.declared.cmp.Ordering.TheVariants.{Less, Equal, Greater}
use Rattle.std.specs.Cmp.{tied_itself}
use Rattle.std.specs.Cmp.Lexicographic.{nat_list_cmp_total}
use Rattle.std.specs.FinMap.{find, is_sorted}
use Rattle.std.specs.FinMap.Entries.{below_all, same_entries, is_sorted-where_key, find-where_key}
use Rattle.kv_device.specs.Bytes.{bytes_cmp}
use Rattle.kfs_model.specs.Tree.{Place, Name, Tree, place_cmp, below, child, IsTree, number_at}
use Rattle.kfs_model.proofs.Renaming.{below-append}
use Rattle.kfs_model.proofs.Tests.{lower, is_lower, both, first_of, second_of}
use Rattle.kfs_laws.proofs.Lookups.{same_places, places_total, decide_place, place_apart, place_tied}
use Rattle.kfs_laws.proofs.Moves.{below_is, no_front, below_itself, front_there}
use Rattle.kfs_core.proofs.Children.{child_is, child_of}

-- ---- the order of places

then_equal : (r : Ordering) → ordering_then r Equal ≡ r
then_equal Less = refl
then_equal Equal = refl
then_equal Greater = refl

after_front : (p xs ys : Place) → place_cmp (p ++ xs) (p ++ ys) ≡ place_cmp xs ys
after_front [] xs ys = refl
after_front (a ∷ p) xs ys = ap (λ r. ordering_then r (place_cmp (p ++ xs) (p ++ ys))) (tied_itself nat_list_cmp_total a) ∙ after_front p xs ys

-- a place comes before what lies below it
before_below : (place : Place) (x : Name) (rest : Place) → place_cmp place (place ++ x ∷ rest) ≡ Less
before_below place x rest = ap (λ p. place_cmp p (place ++ x ∷ rest)) (sym (append-nil place)) ∙ after_front place [] (x ∷ rest)

-- what lies below a child comes before what lies below a later one
before_sibling : (place : Place) (x y : Name) (u v : Place) → place_cmp (place ++ x ∷ []) (place ++ y ∷ []) ≡ Less → place_cmp ((place ++ x ∷ []) ++ u) ((place ++ y ∷ []) ++ v) ≡ Less
before_sibling place x y u v h =
    let first : bytes_cmp x y ≡ Less = sym (then_equal (bytes_cmp x y)) ∙ sym (after_front place (x ∷ []) (y ∷ [])) ∙ h in
    (λ i. place_cmp (append_assoc place (x ∷ []) u i) (append_assoc place (y ∷ []) v i)) ∙ after_front place (x ∷ u) (y ∷ v) ∙ ap (λ r. ordering_then r (place_cmp u v)) first

-- ---- two lists of entries, one behind the other

abbrev pub Entries : Type 0
Entries = List (Place × ℕ)

join_below : (k : Place) (xs ys : Entries) → T (below_all place_cmp k xs) → T (below_all place_cmp k ys) → T (below_all place_cmp k (xs ++ ys))
join_below k [] ys h g = g
join_below k (e ∷ xs) ys h g = both _ _ (first_of _ _ h) (join_below k xs ys (second_of _ _ h) g)

-- each of the first comes before all of the second
abbrev Before : Entries → Entries → Type 0
Before [] ys = Unit {0}
Before (e ∷ xs) ys = T (below_all place_cmp e.0 ys) × Before xs ys

join_sorted : (xs ys : Entries) → T (is_sorted place_cmp xs) → T (is_sorted place_cmp ys) → Before xs ys → T (is_sorted place_cmp (xs ++ ys))
join_sorted [] ys h g b = g
join_sorted (e ∷ xs) ys h g b = both _ _ (join_below e.0 xs ys (first_of _ _ h) b.0) (join_sorted xs ys (second_of _ _ h) g b.1)

join_found : (q : Place) (xs ys : Entries) (v : ℕ) → find place_cmp q xs ≡ Some v → find place_cmp q (xs ++ ys) ≡ Some v
join_found q [] ys v e = absurd (cc)
join_found q (x ∷ xs) ys v e = by (eq_by_cmp place_cmp q x.0) (join_found q xs ys v) e
  where
    by : (b : Bool) → (find place_cmp q xs ≡ Some v → find place_cmp q (xs ++ ys) ≡ Some v) → cond b (Some x.1) (find place_cmp q xs) ≡ Some v → cond b (Some x.1) (find place_cmp q (xs ++ ys)) ≡ Some v
    by true rest e = e
    by false rest e = rest e

join_missed : (q : Place) (xs ys : Entries) → find place_cmp q xs ≡ None → find place_cmp q (xs ++ ys) ≡ find place_cmp q ys
join_missed q [] ys e = refl
join_missed q (x ∷ xs) ys e = by (eq_by_cmp place_cmp q x.0) (join_missed q xs ys) e
  where
    by : (b : Bool) → (find place_cmp q xs ≡ None → find place_cmp q (xs ++ ys) ≡ find place_cmp q ys) → cond b (Some x.1) (find place_cmp q xs) ≡ None → cond b (Some x.1) (find place_cmp q (xs ++ ys)) ≡ find place_cmp q ys
    by true rest e = absurd (cc)
    by false rest e = rest e

-- ---- the entries right below a place

abbrev pub right_under : Entries → Place → Entries
right_under es place = filter (λ e. is_some (child place e.0)) es

abbrev Siblings : Place → Entries → Type 0
Siblings place [] = Unit {0}
Siblings place (k ∷ ks) = ((x : Name) × (k.0 ≡ place ++ x ∷ [])) × Siblings place ks

are_siblings : (place : Place) (es : Entries) → Siblings place (right_under es place)
are_siblings place [] = tt
are_siblings place (e ∷ es) = by (child place e.0) refl (are_siblings place es)
  where
    by : (o : Option Name) → child place e.0 ≡ o → Siblings place (right_under es place) → Siblings place (cond (is_some o) (e ∷ right_under es place) (right_under es place))
    by None is rest = rest
    by (Some x) is rest = ((x, child_is place e.0 x is), rest)

-- ---- the entries at a place and below it

abbrev pub from : Entries → Place → Entries
from es place = filter (λ e. is_some (below place e.0)) es

-- of each in its turn
abbrev pub flat : Entries → Entries → Entries
flat es [] = []
flat es (k ∷ ks) = from es k.0 ++ flat es ks

pub flat-append : (es ks js : Entries) → flat es (ks ++ js) ≡ flat es ks ++ flat es js
flat-append es [] js = refl
flat-append es (k ∷ ks) js = ap (λ xs. from es k.0 ++ xs) (flat-append es ks js) ∙ sym (append_assoc (from es k.0) (flat es ks) (flat es js))

sibling_below : (es : Entries) (place : Place) (x y : Name) (u q : Place) → place_cmp (place ++ x ∷ []) (place ++ y ∷ []) ≡ Less → q ≡ (place ++ x ∷ []) ++ u → T (below_all place_cmp q (from es (place ++ y ∷ [])))
sibling_below [] place x y u q less is = tt
sibling_below (e ∷ es) place x y u q less is = by (below (place ++ y ∷ []) e.0) refl (sibling_below es place x y u q less is)
  where
    by : (o : Option Place) → below (place ++ y ∷ []) e.0 ≡ o → T (below_all place_cmp q (from es (place ++ y ∷ []))) → T (below_all place_cmp q (cond (is_some o) (e ∷ from es (place ++ y ∷ [])) (from es (place ++ y ∷ []))))
    by None at rest = rest
    by (Some v) at rest = both _ _ (is_lower _ ((λ i. place_cmp (is i) (below_is (place ++ y ∷ []) e.0 v at i)) ∙ before_sibling place x y u v less)) rest

child_below : (es : Entries) (place : Place) (y : Name) → T (below_all place_cmp place (from es (place ++ y ∷ [])))
child_below [] place y = tt
child_below (e ∷ es) place y = by (below (place ++ y ∷ []) e.0) refl (child_below es place y)
  where
    by : (o : Option Place) → below (place ++ y ∷ []) e.0 ≡ o → T (below_all place_cmp place (from es (place ++ y ∷ []))) → T (below_all place_cmp place (cond (is_some o) (e ∷ from es (place ++ y ∷ [])) (from es (place ++ y ∷ []))))
    by None at rest = rest
    by (Some v) at rest = both _ _ (is_lower _ (ap (place_cmp place) (below_is (place ++ y ∷ []) e.0 v at ∙ append_assoc place (y ∷ []) v) ∙ before_below place y v)) rest

module _ (es : Entries) (sorted : T (is_sorted place_cmp es)) (place : Place) where
  siblings_below : (x : Name) (u q : Place) (ks : Entries) → Siblings place ks → T (below_all place_cmp (place ++ x ∷ []) ks) → q ≡ (place ++ x ∷ []) ++ u → T (below_all place_cmp q (flat es ks))
  siblings_below x u q [] are h is = tt
  siblings_below x u q (k ∷ ks) are h is =
      let y = are.0.0 in
      let k_is : k.0 ≡ place ++ y ∷ [] = are.0.1 in
      let less : place_cmp (place ++ x ∷ []) (place ++ y ∷ []) ≡ Less = ap (place_cmp (place ++ x ∷ [])) (sym k_is) ∙ lower _ (first_of _ _ h) in
      join_below q (from es k.0) (flat es ks) (subst (λ p. T (below_all place_cmp q (from es p))) (sym k_is) (sibling_below es place x y u q less is)) (siblings_below x u q ks are.1 (second_of _ _ h) is)

  from_before : (x : Name) (ks : Entries) → Siblings place ks → T (below_all place_cmp (place ++ x ∷ []) ks) → (fs : Entries) → Before (from fs (place ++ x ∷ [])) (flat es ks)
  from_before x ks are h [] = tt
  from_before x ks are h (e ∷ fs) = by (below (place ++ x ∷ []) e.0) refl (from_before x ks are h fs)
    where
      by : (o : Option Place) → below (place ++ x ∷ []) e.0 ≡ o → Before (from fs (place ++ x ∷ [])) (flat es ks) → Before (cond (is_some o) (e ∷ from fs (place ++ x ∷ [])) (from fs (place ++ x ∷ []))) (flat es ks)
      by None at rest = rest
      by (Some u) at rest = (siblings_below x u e.0 ks are h (below_is (place ++ x ∷ []) e.0 u at), rest)

  flat_sorted : (ks : Entries) → Siblings place ks → T (is_sorted place_cmp ks) → T (is_sorted place_cmp (flat es ks))
  flat_sorted [] are h = tt
  flat_sorted (k ∷ ks) are h =
      let x = are.0.0 in
      let k_is : k.0 ≡ place ++ x ∷ [] = are.0.1 in
      let above : T (below_all place_cmp (place ++ x ∷ []) ks) = subst (λ p. T (below_all place_cmp p ks)) k_is (first_of _ _ h) in
      join_sorted (from es k.0) (flat es ks) (is_sorted-where_key place_cmp (λ p. is_some (below k.0 p)) es sorted) (flat_sorted ks are.1 (second_of _ _ h))
      (subst (λ p. Before (from es p) (flat es ks)) (sym k_is) (from_before x ks are.1 above es))

  flat_below : (ks : Entries) → Siblings place ks → T (below_all place_cmp place (flat es ks))
  flat_below [] are = tt
  flat_below (k ∷ ks) are = join_below place (from es k.0) (flat es ks) (subst (λ p. T (below_all place_cmp place (from es p))) (sym are.0.1) (child_below es place are.0.0)) (flat_below ks are.1)

-- ---- what is found there

abbrev any_front : Place → Entries → Bool
any_front q ks = list_any (λ k. is_some (below k.0 q)) ks

-- nothing either way
abbrev nothing : Option ℕ
nothing = None

no_number : (b : Bool) → cond b nothing None ≡ nothing
no_number true = refl
no_number false = refl

find_from : (es : Entries) (k q : Place) → find place_cmp q (from es k) ≡ cond (is_some (below k q)) (find place_cmp q es) None
find_from es k q = find-where_key place_cmp (λ p. is_some (below k p)) q (λ x e. ap (λ p. is_some (below k p)) (sym (same_places q x e))) es

find_flat : (es : Entries) (q : Place) (ks : Entries) → find place_cmp q (flat es ks) ≡ cond (any_front q ks) (find place_cmp q es) None
find_flat es q [] = refl
find_flat es q (k ∷ ks) = by (find_flat es q ks) (is_some (below k.0 q)) (find_from es k.0 q)
  where
    found : find place_cmp q (flat es ks) ≡ cond (any_front q ks) (find place_cmp q es) None → (o : Option ℕ) → find place_cmp q es ≡ o → find place_cmp q (from es k.0) ≡ o → find place_cmp q (from es k.0 ++ flat es ks) ≡ o
    found rest (Some v) e at = join_found q (from es k.0) (flat es ks) v at
    found rest None e at = join_missed q (from es k.0) (flat es ks) at ∙ rest ∙ ap (λ o. cond (any_front q ks) o None) e ∙ no_number (any_front q ks)

    by : find place_cmp q (flat es ks) ≡ cond (any_front q ks) (find place_cmp q es) None → (b : Bool) → find place_cmp q (from es k.0) ≡ cond b (find place_cmp q es) None → find place_cmp q (from es k.0 ++ flat es ks) ≡ cond (b || any_front q ks) (find place_cmp q es) None
    by rest true at = found rest (find place_cmp q es) refl at
    by rest false at = join_missed q (from es k.0) (flat es ks) at ∙ rest

any_true : (place : Place) (x : Name) (rest q : Place) (c : ℕ) (es : Entries) → q ≡ place ++ x ∷ rest → find place_cmp (place ++ x ∷ []) es ≡ Some c → any_front q (right_under es place) ≡ true
any_true place x rest q c [] is at = absurd (cc)
any_true place x rest q c (e ∷ es) is at = elim (decide_place (place ++ x ∷ []) e.0) [
  | inl same ↦
      let kid : child place e.0 ≡ Some x = ap (child place) (sym same) ∙ child_of place x in
      let front : below e.0 q ≡ Some rest = (λ i. below (sym same i) (is i)) ∙ ap (below (place ++ x ∷ [])) (sym (append_assoc place (x ∷ []) rest)) ∙ below-append (place ++ x ∷ []) rest in
      ap (λ o. any_front q (cond (is_some o) (e ∷ right_under es place) (right_under es place))) kid ∙ ap (λ o. is_some o || any_front q (right_under es place)) front
  | inr other ↦ by (is_some (child place e.0)) (any_true place x rest q c es is (ap (λ b. cond b (Some e.1) (find place_cmp (place ++ x ∷ []) es)) (sym (place_apart (place ++ x ∷ []) e.0 other)) ∙ at))
]
  where
    or_true : (b : Bool) → (b || true) ≡ true
    or_true true = refl
    or_true false = refl

    by : (b : Bool) → any_front q (right_under es place) ≡ true → any_front q (cond b (e ∷ right_under es place) (right_under es place)) ≡ true
    by true later = ap (λ t. is_some (below e.0 q) || t) later ∙ or_true (is_some (below e.0 q))
    by false later = later

any_false : (place q : Place) (ks : Entries) → Siblings place ks → below place q ≡ None → any_front q ks ≡ false
any_false place q [] are none = refl
any_false place q (k ∷ ks) are none = by (below k.0 q) refl (any_false place q ks are.1 none)
  where
    by : (o : Option Place) → below k.0 q ≡ o → any_front q ks ≡ false → (is_some o || any_front q ks) ≡ false
    by None at rest = rest
    by (Some u) at rest = absurd (no_front place q (are.0.0 ∷ u) none (below_is k.0 q u at ∙ ap (λ p. p ++ u) are.0.1 ∙ append_assoc place (are.0.0 ∷ []) u))

-- a place of the tree, and then what lies below each of its children
module _ (t : Tree) (tree : IsTree t) (place : Place) (n : ℕ) (at : number_at t place ≡ Some n) where
  abbrev kids : Entries
  kids = right_under t.names place

  kids_sorted : T (is_sorted place_cmp kids)
  kids_sorted = is_sorted-where_key place_cmp (λ p. is_some (child place p)) t.names tree.sorted_names

  same_front : (q : Place) → q ≢ place → cond (is_some (below place q)) (number_at t q) None ≡ cond (any_front q kids) (number_at t q) None
  same_front q other = by (number_at t q) refl
    where
      tests : (c : ℕ) → number_at t q ≡ Some c → (o : Option Place) → below place q ≡ o → is_some o ≡ any_front q kids
      tests c there None is = sym (any_false place q kids (are_siblings place t.names) is)
      tests c there (Some []) is = absurd (other (below_is place q [] is ∙ append-nil place))
      tests c there (Some (x ∷ rest)) is =
          let whole = below_is place q (x ∷ rest) is in
          let up = front_there t tree (place ++ x ∷ []) rest c (ap (number_at t) (append_assoc place (x ∷ []) rest ∙ sym whole) ∙ there) in
          sym (any_true place x rest q up.0 t.names whole up.1)

      by : (o : Option ℕ) → number_at t q ≡ o → cond (is_some (below place q)) o None ≡ cond (any_front q kids) o None
      by None there = no_number (is_some (below place q)) ∙ sym (no_number (any_front q kids))
      by (Some c) there = ap (λ b. cond b (Some c) None) (tests c there (below place q) refl)

  pub in_order : from t.names place ≡ (place, n) ∷ flat t.names kids
  in_order = same_entries place_cmp places_total same_places (from t.names place) ((place, n) ∷ flat t.names kids)
      (is_sorted-where_key place_cmp (λ p. is_some (below place p)) t.names tree.sorted_names)
      (both _ _ (flat_below t.names tree.sorted_names place kids (are_siblings place t.names)) (flat_sorted t.names tree.sorted_names place kids (are_siblings place t.names) kids_sorted))
      (λ q. elim (decide_place q place) [
        | inl is ↦
            subst (λ p. find place_cmp p (from t.names place) ≡ find place_cmp p ((place, n) ∷ flat t.names kids)) (sym is)
            (find_from t.names place place ∙ ap (λ o. cond (is_some o) (number_at t place) None) (below_itself place) ∙ at
            ∙ sym (ap (λ b. cond b (Some n) (find place_cmp place (flat t.names kids))) (place_tied place)))
        | inr other ↦
            find_from t.names place q ∙ same_front q other ∙ sym (find_flat t.names q kids)
            ∙ sym (ap (λ b. cond b (Some n) (find place_cmp q (flat t.names kids))) (place_apart q place other))
      ])

-- from the root on that is all
pub all_from_root : (es : Entries) → from es [] ≡ es
all_from_root [] = refl
all_from_root (e ∷ es) = ap (λ xs. e ∷ xs) (all_from_root es)

-- ---- entries that are there

abbrev pub AreThere : Entries → Entries → Type 0
AreThere es [] = Unit {0}
AreThere es (f ∷ fs) = (find place_cmp f.0 es ≡ Some f.1) × AreThere es fs

pub there-append : (es fs gs : Entries) → AreThere es fs → AreThere es gs → AreThere es (fs ++ gs)
there-append es [] gs h g = g
there-append es (f ∷ fs) gs h g = (h.0, there-append es fs gs h.1 g)

pub there-filter : (es fs : Entries) (p : Place × ℕ → Bool) → AreThere es fs → AreThere es (filter p fs)
there-filter es [] p h = tt
there-filter es (f ∷ fs) p h = by (p f) (there-filter es fs p h.1)
  where
    by : (b : Bool) → AreThere es (filter p fs) → AreThere es (cond b (f ∷ filter p fs) (filter p fs))
    by true rest = (h.0, rest)
    by false rest = rest

not_tied : Less ≢ Equal
not_tied e = cc

there_behind : (e : Place × ℕ) (es fs : Entries) → T (below_all place_cmp e.0 fs) → AreThere es fs → AreThere (e ∷ es) fs
there_behind e es [] h there = tt
there_behind e es (f ∷ fs) h there =
    let less = lower (place_cmp e.0 f.0) (first_of (is_lt (place_cmp e.0 f.0)) (below_all place_cmp e.0 fs) h) in
    let other : f.0 ≢ e.0 = λ same. not_tied (sym less ∙ ap (place_cmp e.0) same ∙ tied_itself places_total e.0) in
    (ap (λ b. cond b (Some e.1) (find place_cmp f.0 es)) (place_apart f.0 e.0 other) ∙ there.0, there_behind e es fs (second_of _ _ h) there.1)

pub all_there : (es : Entries) → T (is_sorted place_cmp es) → AreThere es es
all_there [] h = tt
all_there (e ∷ es) h = (ap (λ b. cond b (Some e.1) (find place_cmp e.0 es)) (place_tied e.0), there_behind e es es (first_of _ _ h) (all_there es (second_of _ _ h)))
