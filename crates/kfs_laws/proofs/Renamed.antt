-- What lies below one place lies below another after a rename: a tree is left.
use Rattle.std.proofs.Common.{◌≡◌, ℕ, ◌⊎◌, inl, inr, T, cond, refl, sym, ◌∙◌, ap, subst, List, [], ◌∷◌, ◌++◌, append_assoc, map, Option, Some, None}
use Rattle.std.specs.FinMap.{find, is_sorted}
use Rattle.std.specs.FinMap.Entries.{is_sorted-put}
use Rattle.std.specs.Str.{bytes_eq}
use Rattle.std.proofs.lemmas.Slice.Eq.{bytes_eq-Decides}
use Rattle.std.proofs.lemmas.List.{same_from_push}
use Rattle.std.proofs.lemmas.Option.{same_Some}
use Rattle.kfs_model.specs.declared.Node.TheVariants.{Dir}
use Rattle.kfs_model.specs.Tree.{Place, Name, Tree, below, renamed, moved, moved_place, all_put, place_cmp, IsTree, IsName, NoneBelow, number_at, node_of}
use Rattle.kfs_model.proofs.Renaming.{find-all_put, below-append, find-renamed_other, find-renamed_moved}
use Rattle.kfs_laws.proofs.Lookups.{places_total, place_apart, place_tied, decide_place, none_some, passed}
use Rattle.kfs_laws.proofs.Moves.{below_is, no_front, front_there}

-- what no place that is found has
none_below : (new : Place) (es : List (Place × ℕ)) → ((q : Place) (n : ℕ) → find place_cmp q es ≡ Some n → below new q ≡ None) → NoneBelow new es
none_below new [] h = tt
none_below new (e ∷ es) h = (
  h e.0 e.1 (ap (λ b. cond b (Some e.1) (find place_cmp e.0 es)) (place_tied e.0)),
  none_below new es (λ q n f. elim (decide_place q e.0) [
    | inl is ↦ h q e.1 (ap (λ r. find place_cmp r (e ∷ es)) is ∙ ap (λ b. cond b (Some e.1) (find place_cmp e.0 es)) (place_tied e.0))
    | inr other ↦ h q n (ap (λ b. cond b (Some e.1) (find place_cmp q es)) (place_apart q e.0 other) ∙ f)
  ]),
)

-- what lay at the old place or below it is gone from there
gone_below : (old new q tail : Place) (es : List (Place × ℕ)) → below old q ≡ Some tail → below new q ≡ None → find place_cmp q (map (moved old new) es) ≡ None
gone_below old new q tail [] a b = refl
gone_below old new q tail (e ∷ es) a b =
    let rest = gone_below old new q tail es a b in
    elim (below old e.0) as (λ o. below old e.0 ≡ o → find place_cmp q ((moved_place new e.0 o, e.1) ∷ map (moved old new) es) ≡ None) [
      | None ↦ λ is. ap (λ t. cond t (Some e.1) (find place_cmp q (map (moved old new) es))) (place_apart q e.0 (λ same. none_some (below old e.0) tail is (ap (below old) (sym same) ∙ a))) ∙ rest
      | Some on ↦ λ is. ap (λ t. cond t (Some e.1) (find place_cmp q (map (moved old new) es))) (place_apart q (new ++ on) (no_front new q on b)) ∙ rest
    ] refl

sorted_put : (es : List (Place × ℕ)) → T (is_sorted place_cmp (all_put es))
sorted_put [] = tt
sorted_put (e ∷ es) = is_sorted-put place_cmp places_total e.0 e.1 (all_put es) (sorted_put es)

-- a front of a place one longer is that place, or a front of the shorter one
pub front_of_push : (front q : Place) (x : Name) (tail : Place) → below front (q ++ x ∷ []) ≡ Some tail → (q ++ x ∷ [] ≡ front) ⊎ ((rest : Place) × (below front q ≡ Some rest))
front_of_push [] q x tail e = inr (q, refl)
front_of_push (a ∷ []) [] x tail e = let h = passed (bytes_eq a x) (Some []) tail e in let same : a ≡ x = (bytes_eq-Decides a x).0 h.0 in inl (λ i. sym same i ∷ [])
front_of_push (a ∷ b ∷ front) [] x tail e = let h = passed (bytes_eq a x) None tail e in let bad = h.1 in absurd (cc)
front_of_push (a ∷ front) (b ∷ q) x tail e =
    let h = passed (bytes_eq a b) (below front (q ++ x ∷ [])) tail e in
    let same : a ≡ b = (bytes_eq-Decides a b).0 h.0 in
    elim (front_of_push front q x tail h.1) [
      | inl is ↦ inl (λ i. sym same i ∷ is i)
      | inr rest ↦ inr (rest.0, ap (λ t. cond t (below front q) None) h.0 ∙ rest.1)
    ]

pub front_of_shorter : (front q : Place) (x : Name) → below front (q ++ x ∷ []) ≡ None → below front q ≡ None
front_of_shorter front q x none = by (below front q) refl
  where
    by : (o : Option Place) → below front q ≡ o → o ≡ None
    by None e = refl
    by (Some rest) e = absurd (none_some (below front (q ++ x ∷ [])) (rest ++ x ∷ []) none
        (ap (λ r. below front (r ++ x ∷ [])) (below_is front q rest e) ∙ ap (below front) (append_assoc front rest (x ∷ [])) ∙ below-append front (rest ++ x ∷ [])))

-- where the old place goes: a free one in a directory, neither the old one nor below it
pub record IsGoal (t : Tree) (old place : Place) (name : Name) (p : ℕ) : Type 0 where
  pub at : number_at t place ≡ Some p
  pub dir : node_of t p ≡ Some Dir
  pub free : number_at t (place ++ name ∷ []) ≡ None
  pub named : IsName name
  pub apart : below old (place ++ name ∷ []) ≡ None

module _ (t : Tree) (tree : IsTree t) (old place : Place) (name : Name) (p : ℕ) (goal : IsGoal t old place name p) where
  abbrev new : Place
  new = place ++ name ∷ []

  abbrev after : Tree
  after = renamed t old new

  pub free_below : (q : Place) (n : ℕ) → number_at t q ≡ Some n → below new q ≡ None
  free_below q n e = by (below new q) refl
    where
      by : (o : Option Place) → below new q ≡ o → o ≡ None
      by None is = refl
      by (Some tail) is = absurd (let up = front_there t tree new tail n (ap (number_at t) (sym (below_is new q tail is)) ∙ e) in none_some (number_at t new) up.0 goal.free up.1)

  none_new : NoneBelow new t.names
  none_new = none_below new t.names free_below

  pub number_moved : (tail : Place) → number_at after (new ++ tail) ≡ number_at t (old ++ tail)
  number_moved tail = find-all_put (new ++ tail) (map (moved old new) t.names) ∙ find-renamed_moved old new tail t.names none_new

  pub number_other : (q : Place) → below old q ≡ None → below new q ≡ None → number_at after q ≡ number_at t q
  number_other q a b = find-all_put q (map (moved old new) t.names) ∙ find-renamed_other old new q t.names a b

  pub number_gone : (q tail : Place) → below old q ≡ Some tail → below new q ≡ None → number_at after q ≡ None
  number_gone q tail a b = find-all_put q (map (moved old new) t.names) ∙ gone_below old new q tail t.names a b

  -- where a place's number comes from
  abbrev pub Comes : Place → ℕ → Type 0
  Comes q n = ((tail : Place) × (below new q ≡ Some tail) × (q ≡ new ++ tail) × (number_at t (old ++ tail) ≡ Some n)) ⊎ ((below old q ≡ None) × (below new q ≡ None) × (number_at t q ≡ Some n))

  pub comes : (q : Place) (n : ℕ) → number_at after q ≡ Some n → Comes q n
  comes q n e = by (below new q) (below old q) refl refl
    where
      by : (o b : Option Place) → below new q ≡ o → below old q ≡ b → Comes q n
      by (Some tail) b is was = let same = below_is new q tail is in inl (tail, is, same, sym (number_moved tail) ∙ sym (ap (number_at after) same) ∙ e)
      by None None is was = inr (was, is, sym (number_other q was is) ∙ e)
      by None (Some tail) is was = absurd (none_some (number_at after q) n (number_gone q tail was is) e)

  pub place_old : below old place ≡ None
  place_old = front_of_shorter old place name goal.apart

  place_new : below new place ≡ None
  place_new = free_below place p goal.at

  old_some : below old [] ≡ None
  old_some = by (below old []) refl
    where
      by : (o : Option Place) → below old [] ≡ o → o ≡ None
      by None e = refl
      by (Some tail) e = absurd (let f : below old new ≡ Some (tail ++ new) = ap (λ r. below old (r ++ new)) (below_is old [] tail e) ∙ ap (below old) (append_assoc old tail new) ∙ below-append old (tail ++ new) in none_some (below old new) (tail ++ new) goal.apart f)

  root_kept : number_at after [] ≡ Some 1
  root_kept = number_other [] old_some (free_below [] 1 tree.root) ∙ tree.root

  up_at : (q : Place) (x : Name) (n : ℕ) → number_at after (q ++ x ∷ []) ≡ Some n → ((m : ℕ) × (number_at after q ≡ Some m) × (node_of t m ≡ Some Dir)) × IsName x
  up_at q x n e = elim (comes (q ++ x ∷ []) n e) [
    | inl from ↦ elim (front_of_push new q x from.0 from.1) [
      | inl is ↦
          let f = same_from_push q place x name is in
          ((p, ap (number_at after) f.0 ∙ number_other place place_old place_new ∙ goal.at, goal.dir), subst IsName (sym f.1) goal.named)
      | inr rest ↦
          let same = below_is new q rest.0 rest.1 in
          let was : number_at t ((old ++ rest.0) ++ x ∷ []) ≡ Some n =
          ap (number_at t) (append_assoc old rest.0 (x ∷ [])) ∙ sym (number_moved (rest.0 ++ x ∷ []))
          ∙ ap (number_at after) (sym (append_assoc new rest.0 (x ∷ [])) ∙ ap (λ r. r ++ x ∷ []) (sym same)) ∙ e in
          let m = tree.parents (old ++ rest.0) x n was in
          ((m.0, ap (number_at after) same ∙ number_moved rest.0 ∙ m.1, m.2), tree.names (old ++ rest.0) x n was)
    ]
    | inr (a, b, was) ↦
        let m = tree.parents q x n was in
        ((m.0, number_other q (front_of_shorter old q x a) (front_of_shorter new q x b) ∙ m.1, m.2), tree.names q x n was)
  ]

  pub source : (q : Place) (n : ℕ) → number_at after q ≡ Some n → (r : Place) × (number_at t r ≡ Some n)
  source q n e = elim (comes q n e) [
    | inl from ↦ (old ++ from.0, from.3)
    | inr (a, b, was) ↦ (q, was)
  ]

  -- what follows one front tells the places apart
  same_tail : (f a b : Place) → f ++ a ≡ f ++ b → a ≡ b
  same_tail f a b e = same_Some a b (sym (below-append f a) ∙ ap (below f) e ∙ below-append f b)

  apart_after : (q r : Place) (n : ℕ) → number_at after q ≡ Some n → number_at after r ≡ Some n → q ≡ r
  apart_after q r n e f = elim (comes q n e) [
    | inl a ↦ elim (comes r n f) [
      | inl b ↦ a.2 ∙ ap (λ s. new ++ s) (same_tail old a.0 b.0 (tree.apart (old ++ a.0) (old ++ b.0) n a.3 b.3)) ∙ sym b.2
      | inr (x, y, was) ↦ absurd (none_some (below old r) a.0 x (ap (below old) (sym (tree.apart (old ++ a.0) r n a.3 was)) ∙ below-append old a.0))
    ]
    | inr (x, y, was) ↦ elim (comes r n f) [
      | inl b ↦ absurd (none_some (below old q) b.0 x (ap (below old) (sym (tree.apart (old ++ b.0) q n b.3 was)) ∙ below-append old b.0))
      | inr (u, v, has) ↦ tree.apart q r n was has
    ]
  ]

  pub renamed_tree : IsTree after
  renamed_tree = record {
    root = root_kept;
    root_dir = tree.root_dir;
    parents = λ q x n e. (up_at q x n e).0;
    names = λ q x n e. (up_at q x n e).1;
    apart = apart_after;
    there = λ q n e. let r = source q n e in tree.there r.0 n r.1;
    numbers = tree.numbers;
    lengths = tree.lengths;
    sorted_names = sorted_put (map (moved old new) t.names);
    sorted_nodes = tree.sorted_nodes;
  }
