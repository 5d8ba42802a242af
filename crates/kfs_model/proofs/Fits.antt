-- How many bytes fit: the greatest number is that at which the test turns, and the test needs only numbers.
use Rattle.std.proofs.Common.{◌≡◌, ℕ, zero, suc, ◌<◌, ◌≤◌, ◌+◌, ◌-◌, ◌/◌, ◌&&◌, ◌⊎◌, inl, inr, true, false, cond, Bool, T, refl, sym, ◌∙◌, ap, arith, List, [], ◌∷◌, length, replicate, sum_by, Some, None}
use Rattle.std.specs.Ordering.{nat_cmp, is_eq, is_lt}
use Rattle.std.specs.Cmp.{nat_cmp_total}
use Rattle.std.specs.declared.cmp.Ordering.{Ordering}
use Rattle.std.specs.declared.cmp.Ordering.TheVariants.{Less, Equal, Greater}
use Rattle.std.specs.FinMap.{find, put, is_sorted, nat_cmp-IsAntisymmetric}
use Rattle.std.specs.FinMap.Entries.{by_order, below_all}
use Rattle.std.proofs.lemmas.List.{length-replicate}
use Rattle.std.proofs.lemmas.List.Sums.{sum_by-cons}
use Rattle.std.proofs.lemmas.Option.{same_Some}
use Rattle.kfs_model.specs.declared.Node.{Node}
use Rattle.kfs_model.specs.declared.Node.TheVariants.{File}
use Rattle.kfs_model.specs.Tree.{Tree, Limits, charge, chunks, chunks_for, chunks_of, with_node, written, fits_at, fits}
use Rattle.kfs_model.proofs.Written.{length_written}
use Rattle.kfs_model.proofs.Tests.{lower, first_of, second_of}

-- the greatest that passes
pub fits_is : (k : Limits) (t : Tree) (n : ℕ) (b : List ℕ) (p m j : ℕ) → j ≤ m → (j ≡ 0) ⊎ (fits_at k t n b p j ≡ true) → ((i : ℕ) → j < i → i ≤ m → fits_at k t n b p i ≡ false) → fits k t n b p m ≡ j
fits_is k t n b p zero j le at above = omega arith
fits_is k t n b p (suc m) j le at above = by (fits_at k t n b p (suc m)) refl (λ less. fits_is k t n b p m j less at (λ i lt li. above i lt (omega arith)))
  where
    split : (j m : ℕ) → j ≤ suc m → (j ≤ m) ⊎ (j ≡ suc m)
    split j m le = grind arith

    by : (f : Bool) → fits_at k t n b p (suc m) ≡ f → (j ≤ m → fits k t n b p m ≡ j) → cond f (suc m) (fits k t n b p m) ≡ j
    by true e rest = elim (split j m le) [
      | inl less ↦ absurd (let bad : true ≡ false = sym e ∙ above (suc m) (omega arith) (omega arith) in cc)
      | inr same ↦ sym same
    ]
    by false e rest = elim (split j m le) [
      | inl less ↦ rest less
      | inr same ↦ elim at [
        | inl zero' ↦ absurd (omega arith)
        | inr passes ↦ absurd (let bad : true ≡ false = sym passes ∙ ap (fits_at k t n b p) same ∙ e in cc)
      ]
    ]

missing : (n y : ℕ) (es : List (ℕ × Node)) → nat_cmp n y ≡ Less → T (below_all nat_cmp y es) → find nat_cmp n es ≡ None
missing n y [] lt h = refl
missing n y (e ∷ es) lt h = ap (λ r. cond (is_eq r) (Some e.1) (find nat_cmp n es)) (nat_cmp_total.trans n y e.0 lt (lower _ (first_of _ _ h))) ∙ missing n y es lt (second_of _ _ h)

-- a node's new content takes the place of its old one
pub replaced : (f : ℕ × Node → ℕ) (n : ℕ) (old new : Node) (es : List (ℕ × Node)) → T (is_sorted nat_cmp es) → find nat_cmp n es ≡ Some old → (sum_by f (put nat_cmp n new es) + f (n, old) ≡ sum_by f es + f (n, new)) × (length (put nat_cmp n new es) ≡ length es)
replaced f n old new [] h e = absurd (cc)
replaced f n old new (x ∷ es) h e = by (nat_cmp n x.0) refl (replaced f n old new es (second_of _ _ h)) e
  where
    by : (r : Ordering) → nat_cmp n x.0 ≡ r → (find nat_cmp n es ≡ Some old → (sum_by f (put nat_cmp n new es) + f (n, old) ≡ sum_by f es + f (n, new)) × (length (put nat_cmp n new es) ≡ length es)) → cond (is_eq r) (Some x.1) (find nat_cmp n es) ≡ Some old
        → (sum_by f (by_order r ((n, new) ∷ x ∷ es) ((x.0, new) ∷ es) (x ∷ put nat_cmp n new es)) + f (n, old) ≡ sum_by f (x ∷ es) + f (n, new)) × (length (by_order r ((n, new) ∷ x ∷ es) ((x.0, new) ∷ es) (x ∷ put nat_cmp n new es)) ≡ length (x ∷ es))
    by Less r rest e = absurd (let bad : Some old ≡ None = sym e ∙ missing n x.0 es r (first_of _ _ h) in cc)
    by Equal r rest e =
        let k = nat_cmp-IsAntisymmetric n x.0 r in
        let v = same_Some _ _ e in
        let is : f x ≡ f (n, old) = (λ i. f (sym k i, v i)) in
        let here : f (x.0, new) ≡ f (n, new) = ap (λ m. f (m, new)) (sym k) in
        let a = sum_by-cons f (x.0, new) es in
        let b = sum_by-cons f x es in
        ((let s : sum_by f ((x.0, new) ∷ es) + f (n, old) ≡ sum_by f (x ∷ es) + f (n, new) = omega arith in s), refl)
    by Greater r rest e =
        let t = rest e in
        let t0 = t.0 in
        let t1 = t.1 in
        let a = sum_by-cons f x (put nat_cmp n new es) in
        let b = sum_by-cons f x es in
        ((let s : sum_by f (x ∷ put nat_cmp n new es) + f (n, old) ≡ sum_by f (x ∷ es) + f (n, new) = omega arith in s), ap (λ m. suc m) t1)

-- the charge after a write that leaves so many bytes
pub charge_written : (t : Tree) (n : ℕ) (b c : List ℕ) → T (is_sorted nat_cmp t.nodes) → find nat_cmp n t.nodes ≡ Some (File b) → charge (with_node t n (File c)) + chunks_for (length b) ≡ charge t + chunks_for (length c)
charge_written t n b c sorted e =
    let r = replaced (λ e. chunks_of e.1) n (File b) (File c) t.nodes sorted e in
    let r0 = r.0 in
    let r1 = r.1 in
    let s : chunks (with_node t n (File c)) + chunks_for (length b) ≡ chunks t + chunks_for (length c) = r0 in
    omega arith

-- the length that it leaves
pub size_written : (b : List ℕ) (p j : ℕ) → length (written b p (replicate j 0)) ≡ p + j + (length b - (p + j))
size_written b p j = length_written b p (replicate j 0) ∙ ap (λ m. p + m + (length b - (p + m))) (length-replicate j 0)
