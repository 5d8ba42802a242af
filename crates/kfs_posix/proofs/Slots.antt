-- What is found among the entries of slots.
use Rattle.std.proofs.Common.{◌≡◌, ◌≢◌, ℕ, zero, suc, ◌+◌, ◌<◌, ◌≤◌, ◌==◌, ◌&&◌, ◌||◌, inl, inr, true, false, cond, not, Bool, T, refl, sym, ◌∙◌, ap, subst, arith, List, [], ◌∷◌, length, filter, Option, Some, None}
use Rattle.std.specs.Prelude.{slice_index_or, slice_set}
use Rattle.std.specs.Ordering.{nat_cmp, is_lt}
use Rattle.std.specs.Cmp.{nat_cmp_total}
use Rattle.std.specs.List.{list_any}
use Rattle.std.specs.FinMap.{find, put, is_sorted, nat_cmp-IsAntisymmetric}
use Rattle.std.specs.FinMap.Entries.{below_all, is_sorted-put, is_sorted-where_key, find-where_key}
use Rattle.std.proofs.lemmas.Bool.Decides.{nat_tests}
use Rattle.std.proofs.lemmas.List.{get_or-set_same, get_or-set_other}
use Rattle.slab.specs.Slab.{Slab, entries_from, Updates}
use Rattle.kfs_laws.proofs.Lookups.{same_numbers, number_put, number_other, decide_number, number_apart, number_tied}
use Rattle.kfs_model.proofs.Tests.{both}

-- whether a slot has the number is whether an entry has it
held_from : (d n i : ℕ) (slots : List (Option ℕ)) → slice_index_or slots i None ≡ Some d → list_any (λ e. e.1 == d) (entries_from n slots) ≡ true
held_from d n i [] e = absurd (cc)
held_from d n zero (None ∷ rest) e = absurd (cc)
held_from d n (suc i) (None ∷ rest) e = held_from d (n + 1) i rest e
held_from d n zero (Some x ∷ rest) e = let s : x ≡ d = cc in let t : (x == d) ≡ true = grind (arith, nat_tests) in ap (λ b. b || list_any (λ e. e.1 == d) (entries_from (n + 1) rest)) t
held_from d n (suc i) (Some x ∷ rest) e = or_right (x == d) (list_any (λ e. e.1 == d) (entries_from (n + 1) rest)) (held_from d (n + 1) i rest e)
  where
    or_right : (a b : Bool) → b ≡ true → (a || b) ≡ true
    or_right true b e = refl
    or_right false b e = e

pub held_at : (d i : ℕ) (slots : List (Option ℕ)) → slice_index_or slots i None ≡ Some d → list_any (λ e. e.1 == d) (entries_from 0 slots) ≡ true
held_at d i slots e = held_from d 0 i slots e

free_all : (d n : ℕ) (slots : List (Option ℕ)) → ((i : ℕ) → i < length slots → slice_index_or slots i None ≢ Some d) → list_any (λ e. e.1 == d) (entries_from n slots) ≡ false
free_all d n [] h = refl
free_all d n (None ∷ rest) h = free_all d (n + 1) rest (λ i lt. h (suc i) (omega arith))
free_all d n (Some x ∷ rest) h =
    let apart : x ≢ d = λ e. h 0 (omega arith) (ap Some e) in
    let t : (x == d) ≡ false = grind (arith, nat_tests) in
    ap (λ b. b || list_any (λ e. e.1 == d) (entries_from (n + 1) rest)) t ∙ free_all d (n + 1) rest (λ i lt. h (suc i) (omega arith))

pub free_in : (d : ℕ) (slots : List (Option ℕ)) → ((i : ℕ) → i < length slots → slice_index_or slots i None ≢ Some d) → list_any (λ e. e.1 == d) (entries_from 0 slots) ≡ false
free_in d slots h = free_all d 0 slots h

pub within : {A : Type 0} (slots : List (Option A)) (k : ℕ) (x : A) → slice_index_or slots k None ≡ Some x → k < length slots
within [] k x e = absurd (cc)
within (o ∷ rest) zero x e = omega arith
within (o ∷ rest) (suc k) x e = let h = within rest k x e in omega arith

pub beyond : {A : Type 0} (slots : List (Option A)) (k : ℕ) → length slots ≤ k → slice_index_or slots k None ≡ None
beyond [] k le = refl
beyond (x ∷ rest) zero le = absurd (omega arith)
beyond (x ∷ rest) (suc k) le = beyond rest k (omega arith)

module _ {A : Type 0} where
  -- nothing lies below the first key
  low : (j m : ℕ) (slots : List (Option A)) → j < m → find nat_cmp j (entries_from m slots) ≡ None
  low j m [] lt = refl
  low j m (None ∷ rest) lt = low j (m + 1) rest (omega arith)
  low j m (Some x ∷ rest) lt = ap (λ b. cond b (Some x) (find nat_cmp j (entries_from (m + 1) rest))) (number_apart j m (omega arith)) ∙ low j (m + 1) rest (omega arith)

  found_from : (n k : ℕ) (slots : List (Option A)) → find nat_cmp (n + k) (entries_from n slots) ≡ slice_index_or slots k None
  found_from n k [] = refl
  found_from n zero (None ∷ rest) = low (n + 0) (n + 1) rest (omega arith)
  found_from n (suc k) (None ∷ rest) = let e : n + suc k ≡ n + 1 + k = omega arith in ap (λ i. find nat_cmp i (entries_from (n + 1) rest)) e ∙ found_from (n + 1) k rest
  found_from n zero (Some x ∷ rest) = let e : n + 0 ≡ n = omega arith in ap (λ i. find nat_cmp i ((n, x) ∷ entries_from (n + 1) rest)) e ∙ ap (λ b. cond b (Some x) (find nat_cmp n (entries_from (n + 1) rest))) (number_tied n)
  found_from n (suc k) (Some x ∷ rest) =
      let e : n + suc k ≡ n + 1 + k = omega arith in
      ap (λ b. cond b (Some x) (find nat_cmp (n + suc k) (entries_from (n + 1) rest))) (number_apart (n + suc k) n (omega arith))
      ∙ ap (λ i. find nat_cmp i (entries_from (n + 1) rest)) e ∙ found_from (n + 1) k rest

  pub found : (k : ℕ) (slots : List (Option A)) → find nat_cmp k (entries_from 0 slots) ≡ slice_index_or slots k None
  found k slots = let e : k ≡ 0 + k = omega arith in ap (λ i. find nat_cmp i (entries_from 0 slots)) e ∙ found_from 0 k slots

  below : (j m : ℕ) (slots : List (Option A)) → j < m → T (below_all nat_cmp j (entries_from m slots))
  below j m [] lt = tt
  below j m (None ∷ rest) lt = below j (m + 1) rest (omega arith)
  below j m (Some x ∷ rest) lt = let t : is_lt (nat_cmp j m) ≡ true = grind (arith, nat_tests) in subst (λ b. T (b && below_all nat_cmp j (entries_from (m + 1) rest))) (sym t) (below j (m + 1) rest (omega arith))

  pub sorted : (m : ℕ) (slots : List (Option A)) → T (is_sorted nat_cmp (entries_from m slots))
  sorted m [] = tt
  sorted m (None ∷ rest) = sorted (m + 1) rest
  sorted m (Some x ∷ rest) = both _ _ (below m (m + 1) rest (omega arith)) (sorted (m + 1) rest)

  -- a slot with a value
  pub put_at : (old new : List (Option A)) (k : ℕ) (x : A) → slice_index_or new k None ≡ Some x → ((j : ℕ) → j ≢ k → slice_index_or new j None ≡ slice_index_or old j None) → entries_from 0 new ≡ put nat_cmp k x (entries_from 0 old)
  put_at old new k x at others = same_numbers (entries_from 0 new) (put nat_cmp k x (entries_from 0 old)) (sorted 0 new) (is_sorted-put nat_cmp nat_cmp_total k x (entries_from 0 old) (sorted 0 old)) (λ j.
      found j new ∙ elim (decide_number j k) [
        | inl is ↦ ap (λ i. slice_index_or new i None) is ∙ at ∙ sym (ap (λ i. find nat_cmp i (put nat_cmp k x (entries_from 0 old))) is ∙ number_put k x (entries_from 0 old))
        | inr apart ↦ others j apart ∙ sym (number_other j k x (entries_from 0 old) apart ∙ found j old)
      ])

  pub find_without : (k j : ℕ) (es : List (ℕ × A)) → find nat_cmp j (filter (λ e. not (e.0 == k)) es) ≡ cond (not (j == k)) (find nat_cmp j es) None
  find_without k j es = find-where_key nat_cmp (λ i. not (i == k)) j (λ x e. ap (λ i. not (i == k)) (sym (nat_cmp-IsAntisymmetric j x e))) es

  -- a slot without one
  pub drop_at : (old new : List (Option A)) (k : ℕ) → slice_index_or new k None ≡ None → ((j : ℕ) → j ≢ k → slice_index_or new j None ≡ slice_index_or old j None) → entries_from 0 new ≡ filter (λ e. not (e.0 == k)) (entries_from 0 old)
  drop_at old new k at others = same_numbers (entries_from 0 new) (filter (λ e. not (e.0 == k)) (entries_from 0 old)) (sorted 0 new) (is_sorted-where_key nat_cmp (λ i. not (i == k)) (entries_from 0 old) (sorted 0 old)) (λ j.
      found j new ∙ elim (decide_number j k) [
        | inl is ↦ let t : (j == k) ≡ true = grind (arith, nat_tests) in ap (λ i. slice_index_or new i None) is ∙ at ∙ sym (find_without k j (entries_from 0 old) ∙ ap (λ b. cond (not b) (find nat_cmp j (entries_from 0 old)) None) t)
        | inr apart ↦ let t : (j == k) ≡ false = grind (arith, nat_tests) in others j apart ∙ sym (find_without k j (entries_from 0 old) ∙ ap (λ b. cond (not b) (find nat_cmp j (entries_from 0 old)) None) t ∙ found j old)
      ])

  pub set_some : (slots : List (Option A)) (k : ℕ) (x : A) → k < length slots → entries_from 0 (slice_set slots k (Some x)) ≡ put nat_cmp k x (entries_from 0 slots)
  set_some slots k x lt = put_at slots (slice_set slots k (Some x)) k x (get_or-set_same slots k (Some x) None lt) (λ j d. get_or-set_other slots k j (Some x) None d)

  pub set_none : (slots : List (Option A)) (k : ℕ) → k < length slots → entries_from 0 (slice_set slots k None) ≡ filter (λ e. not (e.0 == k)) (entries_from 0 slots)
  set_none slots k lt = drop_at slots (slice_set slots k None) k (get_or-set_same slots k None None lt) (λ j d. get_or-set_other slots k j None None d)

  pub inserted : (old new : Slab A) (k : ℕ) (x : A) → Updates old new k (Some x) → entries_from 0 new.slots ≡ put nat_cmp k x (entries_from 0 old.slots)
  inserted old new k x u = put_at old.slots new.slots k x u.changed u.others

  pub removed : (old new : Slab A) (k : ℕ) → Updates old new k None → entries_from 0 new.slots ≡ filter (λ e. not (e.0 == k)) (entries_from 0 old.slots)
  removed old new k u = drop_at old.slots new.slots k u.changed u.others
