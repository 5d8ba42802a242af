-- The least node that rows accuse, row by row.
use Rattle.std.proofs.lemmas.Bool.Decides.{nat_tests}
use Rattle.std.proofs.Common.{Bool, true, false, nat_le, ◌≡◌, ℕ, zero, suc, ◌+◌, ◌<◌, ◌≤◌, ◌⊎◌, inl, inr, min, refl, sym, ◌∙◌, ap, subst, arith, List, [], ◌∷◌, ◌++◌, length, take, get_or, slice_get, Option, Some, None}
use Rattle.std.proofs.lemmas.Option.{same_Some}
use Rattle.std.proofs.lemmas.List.{take_more, take_all}
use Rattle.kfs_judge.specs.declared.row.Row.{Row}
use Rattle.kfs_judge.specs.Tables.{IsLeastOf, lower}

pub get_left : {A : Type 0} (xs ys : List A) (i : ℕ) (x : A) → slice_get xs i ≡ Some x → slice_get (xs ++ ys) i ≡ Some x
get_left [] ys i x e = absurd (cc)
get_left (y ∷ xs) ys zero x e = e
get_left (y ∷ xs) ys (suc i) x e = get_left xs ys i x e

pub get_end : {A : Type 0} (xs : List A) (x : A) → slice_get (xs ++ x ∷ []) (length xs) ≡ Some x
get_end [] x = refl
get_end (y ∷ xs) x = get_end xs x

pub get_split : {A : Type 0} (xs : List A) (y : A) (i : ℕ) (x : A) → slice_get (xs ++ y ∷ []) i ≡ Some x → (slice_get xs i ≡ Some x) ⊎ (y ≡ x)
get_split [] y zero x e = inr (same_Some _ _ e)
get_split [] y (suc i) x e = absurd (cc)
get_split (z ∷ xs) y zero x e = inl e
get_split (z ∷ xs) y (suc i) x e = get_split xs y i x e

module _ (f : Row → Option ℕ) where
  found_left : (xs : List Row) (row : Row) (n : ℕ) → (i : ℕ) × (r : Row) × (slice_get xs i ≡ Some r) × (f r ≡ Some n) → (i : ℕ) × (r : Row) × (slice_get (xs ++ row ∷ []) i ≡ Some r) × (f r ≡ Some n)
  found_left xs row n h = (h.0, h.1, get_left xs (row ∷ []) h.0 h.1 h.2, h.3)

  min_is : (a b : ℕ) → ((min a b ≡ a) × (a ≤ b)) ⊎ ((min a b ≡ b) × (b ≤ a))
  min_is a b = by (nat_le a b) refl
    where
      by : (t : Bool) → nat_le a b ≡ t → ((min a b ≡ a) × (a ≤ b)) ⊎ ((min a b ≡ b) × (b ≤ a))
      by true t = let le : a ≤ b = grind (arith, nat_tests) in inl (omega arith, le)
      by false t = let le : b ≤ a = grind (arith, nat_tests) in inr (omega arith, le)

  pub least_push : (xs : List Row) (row : Row) (least : Option ℕ) → IsLeastOf f xs least → IsLeastOf f (xs ++ row ∷ []) (lower least (f row))
  least_push xs row least h = record { found = found least (f row) refl h; all = all least (f row) refl h }
    where
      found : (least o : Option ℕ) → f row ≡ o → IsLeastOf f xs least → (n : ℕ) → lower least o ≡ Some n → (i : ℕ) × (r : Row) × (slice_get (xs ++ row ∷ []) i ≡ Some r) × (f r ≡ Some n)
      found None o is h n e = (length xs, row, get_end xs row, is ∙ e)
      found (Some a) None is h n e = found_left xs row n (h.found n e)
      found (Some a) (Some b) is h n e =
          elim (min_is a b) [
            | inl m ↦ found_left xs row n (h.found n (ap Some (sym m.0) ∙ e))
            | inr m ↦ (length xs, row, get_end xs row, is ∙ ap Some (sym m.0) ∙ e)
          ]

      after : (least o : Option ℕ) → (n : ℕ) → least ≡ Some n → (m : ℕ) × (lower least o ≡ Some m) × (m ≤ n)
      after None o n e = absurd (cc)
      after (Some a) None n e = (n, e, omega arith)
      after (Some a) (Some b) n e = let s = same_Some _ _ e in (min a b, refl, omega arith)

      here : (least : Option ℕ) (k : ℕ) → (m : ℕ) × (lower least (Some k) ≡ Some m) × (m ≤ k)
      here None k = (k, refl, omega arith)
      here (Some a) k = (min a k, refl, omega arith)

      all : (least o : Option ℕ) → f row ≡ o → IsLeastOf f xs least → (i k : ℕ) (r : Row) → slice_get (xs ++ row ∷ []) i ≡ Some r → f r ≡ Some k → (n : ℕ) × (lower least o ≡ Some n) × (n ≤ k)
      all least o is h i k r at e =
          elim (get_split xs row i r at) [
            | inl old ↦
                let a = h.all i k r old e in
                let b = after least o a.0 a.1 in
                let le = a.2 in
                let le' = b.2 in
                (b.0, b.1, omega arith)
            | inr new ↦
                let s : o ≡ Some k = sym is ∙ ap f new ∙ e in
                subst (λ o. (n : ℕ) × (lower least o ≡ Some n) × (n ≤ k)) (sym s) (here least k)
          ]

  -- one more row of a list
  pub least_more : (rows : List Row) (i : ℕ) (d : Row) (least o : Option ℕ) → i < length rows → IsLeastOf f (take i rows) least → o ≡ f (get_or rows i d) → IsLeastOf f (take (i + 1) rows) (lower least o)
  least_more rows i d least o lt h is =
      subst (λ o. IsLeastOf f (take (i + 1) rows) (lower least o)) (sym is)
      (subst (λ l. IsLeastOf f l (lower least (f (get_or rows i d)))) (sym (take_more rows i d lt)) (least_push (take i rows) (get_or rows i d) least h))

  pub least_all : (rows : List Row) (i : ℕ) (least : Option ℕ) → length rows ≤ i → IsLeastOf f (take i rows) least → IsLeastOf f rows least
  least_all rows i least le h = subst (λ l. IsLeastOf f l least) (take_all i rows le) h
