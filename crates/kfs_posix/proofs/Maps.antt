-- Entries whose values are mapped.
use Rattle.std.proofs.Common.{◌≡◌, ℕ, true, false, cond, Bool, refl, ap, List, [], ◌∷◌, map, filter, Some, ◌&&◌}
use Rattle.std.specs.Ordering.{nat_cmp, eq_by_cmp, is_lt}
use Rattle.std.specs.declared.cmp.Ordering.{Ordering}
use Rattle.std.specs.declared.cmp.Ordering.TheVariants.{Less, Equal, Greater}
use Rattle.std.specs.Option.{option_map}
use Rattle.std.specs.FinMap.{find, put, is_sorted}
use Rattle.std.specs.FinMap.Entries.{by_order, below_all}

module _ {A B : Type 0} (f : A → B) where
  abbrev pub mapped : List (ℕ × A) → List (ℕ × B)
  mapped es = map (λ e. (e.0, f e.1)) es

  pub find-map : (k : ℕ) (es : List (ℕ × A)) → find nat_cmp k (mapped es) ≡ option_map f (find nat_cmp k es)
  find-map k [] = refl
  find-map k (e ∷ es) = by (eq_by_cmp nat_cmp k e.0) (find-map k es)
    where
      by : (b : Bool) → find nat_cmp k (mapped es) ≡ option_map f (find nat_cmp k es) → cond b (Some (f e.1)) (find nat_cmp k (mapped es)) ≡ option_map f (cond b (Some e.1) (find nat_cmp k es))
      by true rest = refl
      by false rest = rest

  pub put-map : (k : ℕ) (x : A) (es : List (ℕ × A)) → mapped (put nat_cmp k x es) ≡ put nat_cmp k (f x) (mapped es)
  put-map k x [] = refl
  put-map k x (e ∷ es) = by (nat_cmp k e.0) (put-map k x es)
    where
      by : (r : Ordering) → mapped (put nat_cmp k x es) ≡ put nat_cmp k (f x) (mapped es)
          → mapped (by_order r ((k, x) ∷ e ∷ es) ((e.0, x) ∷ es) (e ∷ put nat_cmp k x es)) ≡ by_order r ((k, f x) ∷ (e.0, f e.1) ∷ mapped es) ((e.0, f x) ∷ mapped es) ((e.0, f e.1) ∷ put nat_cmp k (f x) (mapped es))
      by Less rest = refl
      by Equal rest = refl
      by Greater rest = ap (λ xs. (e.0, f e.1) ∷ xs) rest

  pub filter-map : (p : ℕ → Bool) (es : List (ℕ × A)) → mapped (filter (λ e. p e.0) es) ≡ filter (λ e. p e.0) (mapped es)
  filter-map p [] = refl
  filter-map p (e ∷ es) = by (p e.0) (filter-map p es)
    where
      by : (b : Bool) → mapped (filter (λ e. p e.0) es) ≡ filter (λ e. p e.0) (mapped es) → mapped (cond b (e ∷ filter (λ e. p e.0) es) (filter (λ e. p e.0) es)) ≡ cond b ((e.0, f e.1) ∷ filter (λ e. p e.0) (mapped es)) (filter (λ e. p e.0) (mapped es))
      by true rest = ap (λ xs. (e.0, f e.1) ∷ xs) rest
      by false rest = rest

  below-map : (x : ℕ) (es : List (ℕ × A)) → below_all nat_cmp x (mapped es) ≡ below_all nat_cmp x es
  below-map x [] = refl
  below-map x (e ∷ es) = ap (λ b. is_lt (nat_cmp x e.0) && b) (below-map x es)

  pub sorted-map : (es : List (ℕ × A)) → is_sorted nat_cmp (mapped es) ≡ is_sorted nat_cmp es
  sorted-map [] = refl
  sorted-map (e ∷ es) = λ i. (below-map e.0 es i && sorted-map es i)
