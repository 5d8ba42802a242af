-- What is found after a key is put or removed, at the order of keys.
use Rattle.std.proofs.Common.{◌≡◌, ◌≢◌, ◌⊎◌, inl, inr, true, false, cond, sym, ◌∙◌, ap, List, ℕ, Some, None}
use Rattle.std.specs.Ordering.{eq_by_cmp}
use Rattle.std.specs.declared.cmp.Ordering.{Ordering}
use Rattle.std.specs.Cmp.{IsTotalOrder}
use Rattle.std.specs.Cmp.Lexicographic.{nat_list_cmp_total}
use Rattle.std.specs.FinMap.{FinMap, IsAntisymmetric, nat_cmp-IsAntisymmetric, slice_cmp-IsAntisymmetric, get, insert, remove, get-insert, get-remove}
use Rattle.kv_device.specs.Bytes.{bytes_cmp}
use Rattle.kfs_laws.proofs.Lookups.{decide}
pub use Rattle.kfs_laws.proofs.Lookups.{apart_test, tie_test, same_places, places_total, place_put, place_other, number_put, number_other, decide_place, decide_number, none_some}

module _ {K : Type 0} {R : K → K → Ordering} (o : IsTotalOrder R) (same : IsAntisymmetric R) {X : Type 0} where
  get_put : (m : FinMap R X) (k : K) (v : X) → get (insert m k v) k ≡ Some v
  get_put m k v = get-insert o m k v k ∙ ap (λ b. cond b (Some v) (get m k)) (tie_test o same k)

  get_other : (m : FinMap R X) (k : K) (v : X) (q : K) → q ≢ k → get (insert m k v) q ≡ get m q
  get_other m k v q d = get-insert o m k v q ∙ ap (λ b. cond b (Some v) (get m q)) (apart_test o same q k d)

pub same_bytes : IsAntisymmetric bytes_cmp
same_bytes = slice_cmp-IsAntisymmetric nat_cmp-IsAntisymmetric

-- the same at the order of keys
pub key_put : {X : Type 0} (m : FinMap bytes_cmp X) (k : List ℕ) (v : X) → get (insert m k v) k ≡ Some v
key_put m k v = get_put nat_list_cmp_total same_bytes m k v

pub key_other : {X : Type 0} (m : FinMap bytes_cmp X) (k : List ℕ) (v : X) (q : List ℕ) → q ≢ k → get (insert m k v) q ≡ get m q
key_other m k v q d = get_other nat_list_cmp_total same_bytes m k v q d

pub decide_bytes : (q k : List ℕ) → (q ≡ k) ⊎ (q ≢ k)
decide_bytes q k = elim (decide nat_list_cmp_total same_bytes q k) [ inl e ↦ inl e | inr f ↦ inr (λ e. let t : true ≡ false = sym (tie_test nat_list_cmp_total same_bytes k) ∙ sym (ap (λ x. eq_by_cmp bytes_cmp x k) e) ∙ f in cc) ]

-- the same after a key is removed
pub key_removed : {X : Type 0} (m : FinMap bytes_cmp X) (k : List ℕ) → get (remove m k) k ≡ None
key_removed m k = get-remove nat_list_cmp_total m k k ∙ ap (λ b. cond b None (get m k)) (tie_test nat_list_cmp_total same_bytes k)

pub key_kept : {X : Type 0} (m : FinMap bytes_cmp X) (k q : List ℕ) → q ≢ k → get (remove m k) q ≡ get m q
key_kept m k q d = get-remove nat_list_cmp_total m k q ∙ ap (λ b. cond b None (get m q)) (apart_test nat_list_cmp_total same_bytes q k d)
