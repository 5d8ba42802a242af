-- A place that nothing lies below loses its name: a tree is left.
use Rattle.std.proofs.Common.{◌≡◌, ◌≢◌, ℕ, ◌&&◌, not, cond, true, false, Bool, inl, inr, refl, sym, ◌∙◌, ap, [], ◌∷◌, ◌++◌, Option, Some, None, is_some}
use Rattle.std.specs.FinMap.Entries.{is_sorted-where_key, find-where_key}
use Rattle.std.specs.Str.{bytes_eq}
use Rattle.std.proofs.lemmas.Bool.{and_parts}
use Rattle.std.proofs.lemmas.Slice.Eq.{bytes_eq-Decides}
use Rattle.kfs_model.specs.Tree.{Place, Name, Tree, below, without_place, place_cmp, IsTree, number_at}
use Rattle.kfs_laws.proofs.Lookups.{same_places, decide_place, none_some}
use Rattle.kfs_laws.proofs.Moves.{below_itself}

cut : {A : Type 0} (b : Bool) (o : Option A) → is_some (cond b o None) ≡ true → (b ≡ true) × (is_some o ≡ true)
cut true o e = (refl, e)
cut false o e = absurd (cc)

-- two places that each begin with the other are one
pub both_below : (a b : Place) → is_some (below a b) ≡ true → is_some (below b a) ≡ true → a ≡ b
both_below [] [] e f = refl
both_below [] (y ∷ b) e f = absurd (cc)
both_below (x ∷ a) [] e f = absurd (cc)
both_below (x ∷ a) (y ∷ b) e f =
    let h = cut (bytes_eq x y) (below a b) e in
    let k = cut (bytes_eq y x) (below b a) f in
    let same : x ≡ y = (bytes_eq-Decides x y).0 h.0 in
    let rest = both_below a b h.1 k.1 in
    λ i. same i ∷ rest i

-- where the new places differ
abbrev pub stays : Place → Place → Bool
stays gone q = not (is_some (below gone q) && is_some (below q gone))

pub stays_not : (gone : Place) → stays gone gone ≡ false
stays_not gone = λ i. not (is_some (below_itself gone i) && is_some (below_itself gone i))

pub stays_other : (gone q : Place) → q ≢ gone → stays gone q ≡ true
stays_other gone q d = by (is_some (below gone q) && is_some (below q gone)) refl
  where
    by : (b : Bool) → (is_some (below gone q) && is_some (below q gone)) ≡ b → not b ≡ true
    by false e = refl
    by true e = let h = and_parts _ _ e in absurd (d (both_below q gone h.1 h.0))

module _ (t : Tree) (gone : Place) where
  number_is : (q : Place) → number_at (without_place t gone) q ≡ cond (stays gone q) (number_at t q) None
  number_is q = find-where_key place_cmp (stays gone) q (λ x e. ap (stays gone) (sym (same_places q x e))) t.names

  pub number_gone : number_at (without_place t gone) gone ≡ None
  number_gone = number_is gone ∙ ap (λ b. cond b (number_at t gone) None) (stays_not gone)

  pub number_old : (q : Place) → q ≢ gone → number_at (without_place t gone) q ≡ number_at t q
  number_old q d = number_is q ∙ ap (λ b. cond b (number_at t q) None) (stays_other gone q d)

  pub named_before : (q : Place) (k : ℕ) → number_at (without_place t gone) q ≡ Some k → (q ≢ gone) × (number_at t q ≡ Some k)
  named_before q k e = elim (decide_place q gone) [
    | inl is ↦ absurd (none_some _ k (ap (number_at (without_place t gone)) is ∙ number_gone) e)
    | inr other ↦ (other, sym (number_old q other) ∙ e)
  ]

  pub unnamed_tree : IsTree t → gone ≢ [] → ((x : Name) → number_at t (gone ++ x ∷ []) ≡ None) → IsTree (without_place t gone)
  unnamed_tree tree some leaf = record {
    root = number_old [] (λ e. some (sym e)) ∙ tree.root;
    root_dir = tree.root_dir;
    parents = λ q x k e.
        let h = named_before (q ++ x ∷ []) k e in
        let m = tree.parents q x k h.1 in
        (m.0, number_old q (λ is. none_some _ k (leaf x) (ap (λ r. number_at t (r ++ x ∷ [])) (sym is) ∙ h.1)) ∙ m.1, m.2);
    names = λ q x k e. tree.names q x k (named_before (q ++ x ∷ []) k e).1;
    apart = λ q r k e f. tree.apart q r k (named_before q k e).1 (named_before r k f).1;
    there = λ q k e. tree.there q k (named_before q k e).1;
    numbers = tree.numbers;
    lengths = tree.lengths;
    sorted_names = is_sorted-where_key place_cmp (stays gone) t.names tree.sorted_names;
    sorted_nodes = tree.sorted_nodes;
  }
