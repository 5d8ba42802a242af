-- What a rename leaves at the old place.
use Rattle.std.proofs.Common.{◌≡◌, ◌≢◌, ℕ, suc, ◌<◌, ◌&&◌, true, false, cond, arith, refl, sym, ap, ◌∙◌, List, [], ◌∷◌, ◌++◌, append_assoc, append-nil, length, map, Option, Some, None, is_some, Ok, inl, inr}
use Rattle.std.specs.List.{filter_map, cons_option}
use Rattle.std.specs.Option.{option_map, option_and_then}
use Rattle.std.specs.FinMap.{find}
use Rattle.std.specs.Str.{bytes_eq}
use Rattle.std.proofs.lemmas.Slice.Eq.{bytes_eq-Decides}
use Rattle.std.proofs.lemmas.Bool.Decides.{nat_tests}
use Rattle.std.proofs.lemmas.Option.{same_Some}
use Rattle.kfs_path.specs.Pieces.{pieces_of}
use Rattle.kfs_model.specs.declared.Node.{Node}
use Rattle.kfs_model.specs.Tree.{Tree, Place, Name, place_cmp, below, child, only_name, names_in, number_at, node_of, walk, moved, moved_place, without_place, renamed, IsTree}
use Rattle.kfs_model.specs.Step
use Rattle.kfs_model.specs.Change
use Rattle.kfs_model.proofs.Renaming.{find-all_put, below-append}
use Rattle.kfs_laws.proofs.Lookups.{none_some, passed, place_apart, decide_place}

-- a place that has the front is the front and what follows
pub below_is : (front p tail : Place) → below front p ≡ Some tail → p ≡ front ++ tail
below_is [] p tail e = same_Some p tail e
below_is (name ∷ front) [] tail e = absurd (cc)
below_is (name ∷ front) (first ∷ p) tail e =
    let both = passed (bytes_eq name first) (below front p) tail e in
    let same : name ≡ first = (bytes_eq-Decides name first).0 both.0 in
    let rest = below_is front p tail both.1 in
    λ i. sym same i ∷ rest i

pub no_front : (front q tail : Place) → below front q ≡ None → q ≢ front ++ tail
no_front front q tail none is = none_some (below front q) tail none (ap (below front) is ∙ below-append front tail)

pub below_itself : (a : Place) → below a a ≡ Some []
below_itself [] = refl
below_itself (x ∷ a) = ap (λ b. cond b (below a a) None) ((bytes_eq-Decides x x).1 refl) ∙ below_itself a

-- no entry is moved to the old place
gone_place : (p q : Place) (es : List (Place × ℕ)) → below q p ≡ None → find place_cmp p (map (moved p q) es) ≡ None
gone_place p q [] none = refl
gone_place p q (e ∷ es) none =
    let rest = gone_place p q es none in
    elim (below p e.0) as (λ o. below p e.0 ≡ o → find place_cmp p ((moved_place q e.0 o, e.1) ∷ map (moved p q) es) ≡ None) [
      | None ↦ λ is. ap (λ b. cond b (Some e.1) (find place_cmp p (map (moved p q) es))) (place_apart p e.0 (λ same. none_some (below p e.0) [] is (ap (below p) (sym same) ∙ below_itself p))) ∙ rest
      | Some tail ↦ λ is. ap (λ b. cond b (Some e.1) (find place_cmp p (map (moved p q) es))) (place_apart p (q ++ tail) (no_front q p tail none)) ∙ rest
    ] refl

-- the fronts of a place that is there are there
pub front_there : (t : Tree) → IsTree t → (front rest : Place) (n : ℕ) → number_at t (front ++ rest) ≡ Some n → (m : ℕ) × (number_at t front ≡ Some m)
front_there t tree front [] n e = (n, ap (number_at t) (sym (append-nil front)) ∙ e)
front_there t tree front (x ∷ rest) n e =
    let longer = front_there t tree (front ++ x ∷ []) rest n (ap (number_at t) (append_assoc front (x ∷ []) rest) ∙ e) in
    let up = tree.parents front x longer.0 longer.1 in
    (up.0, up.1)

-- a place directly below is listed
pub listed : (q r : Place) (x : Name) (n : ℕ) (es : List (Place × ℕ)) → child q r ≡ Some x → find place_cmp r es ≡ Some n → 0 < length (filter_map (λ e. child q e.0) es)
listed q r x n [] is e = absurd (cc)
listed q r x n (e ∷ es) is f = elim (decide_place r e.0) [
  | inl same ↦ here (child q e.0) (filter_map (λ e. child q e.0) es) (ap (child q) (sym same) ∙ is)
  | inr other ↦ later (child q e.0) (filter_map (λ e. child q e.0) es) (listed q r x n es is (sym (ap (λ b. cond b (Some e.1) (find place_cmp r es)) (place_apart r e.0 other)) ∙ f))
]
  where
    here : (o : Option Name) (names : List Name) → o ≡ Some x → 0 < length (cons_option o names)
    here None names h = absurd (cc)
    here (Some y) names h = let t : 0 < suc (length names) = omega arith in t

    later : (o : Option Name) (names : List Name) → 0 < length names → 0 < length (cons_option o names)
    later None names h = h
    later (Some y) names h = let t : 0 < suc (length names) = omega arith in t

there_number : (t : Tree) (p : Place) → Step.is_there t p ≡ true → (n : ℕ) × (number_at t p ≡ Some n)
there_number t p e = by (number_at t p) refl e
  where
    by : (o : Option ℕ) → number_at t p ≡ o → is_some (option_and_then {U = ℕ × Node} (λ m. option_map {U = ℕ × Node} (λ x. (m, x)) (node_of t m)) o) ≡ true → (n : ℕ) × (number_at t p ≡ Some n)
    by None is e = absurd (cc)
    by (Some n) is e = (n, is)

-- the old place isn't below the new one, where nothing is below that
not_below : (t : Tree) → IsTree t → (p q : Place) → Step.is_there t p ≡ true → Step.is_same_place p q ≡ false → Step.isnt_empty t q ≡ false → below q p ≡ None
not_below t tree p q there apart empty = by (below q p) refl
  where
    bad_tail : (tail : Place) → below q p ≡ Some tail → ⊥
    bad_tail [] is =
        let one : p ≡ q = below_is q p [] is ∙ append-nil q in
        let same : Step.is_same_place q q ≡ true = (λ i. is_some (below_itself q i) && is_some (below_itself q i)) in
        let bad : true ≡ false = sym same ∙ ap (λ r. Step.is_same_place r q) (sym one) ∙ apart in cc
    bad_tail (x ∷ rest) is =
        let n = there_number t p there in
        let at : number_at t ((q ++ x ∷ []) ++ rest) ≡ Some n.0 = ap (number_at t) (append_assoc q (x ∷ []) rest ∙ sym (below_is q p (x ∷ rest) is)) ∙ n.1 in
        let up = front_there t tree (q ++ x ∷ []) rest n.0 at in
        let some : 0 < length (names_in t q) = listed q (q ++ x ∷ []) x up.0 t.names (ap (option_and_then only_name) (below-append q (x ∷ []))) up.1 in
        let test : Step.isnt_empty t q ≡ true = grind (arith, nat_tests) in
        let bad : true ≡ false = sym test ∙ empty in cc

    by : (o : Option Place) → below q p ≡ o → o ≡ None
    by None is = refl
    by (Some tail) is = absurd (bad_tail tail is)

place_gone : (t : Tree) (p : Place) → number_at t p ≡ None → Step.is_there t p ≡ false
place_gone t p e = rw e refl

left_is : (t u : Tree) (path : List ℕ) (p : Place) → walk t (pieces_of path) ≡ Ok p → Step.is_there t p ≡ true → Step.is_there u p ≡ false → Change.has_left t u path ≡ true
left_is t u path p at there gone = rw (at, there, gone) refl

-- after a rename the old place names nothing
pub renamed_leaves : (t : Tree) → IsTree t → (p q : Place) (path : List ℕ) (u : Tree) → u.names ≡ (renamed (without_place t q) p q).names
    → walk t (pieces_of path) ≡ Ok p → Step.is_there t p ≡ true → Step.is_same_place p q ≡ false → Step.isnt_empty t q ≡ false → Change.has_left t u path ≡ true
renamed_leaves t tree p q path u names at there apart empty =
    left_is t u path p at there (place_gone u p (ap (find place_cmp p) names ∙ find-all_put p (map (moved p q) (without_place t q).names) ∙ gone_place p q (without_place t q).names (not_below t tree p q there apart empty)))
