-- Reading one thing after another, as a loop does.
use Rattle.std.proofs.Common.{◌≡◌, ℕ, suc, ◌-◌, ◌+◌, ◌≤◌, ◌<◌, List, [], ◌∷◌, ◌++◌, Option, Some, None, refl, sym, ap, ◌∙◌, append_assoc, arith}
use Rattle.std.proofs.lemmas.List.{append-nil}
use Rattle.kssd_model.specs.AnchorReading.{◌>>=◌, many_at}
use Rattle.kssd_anchor.specs.declared.reading.Unread.{Unread}
use Rattle.kssd_anchor.specs.declared.reading.Unread.TheVariants.{Short, Memory}
use Rattle.kssd_anchor.specs.Given.{Unreads}

-- what was read before, and what is still read
abbrev pub with_front : {X : Type 0} → List X → Option (List X × List ℕ) → Option (List X × List ℕ)
with_front front read = read >>= λ x. Some (front ++ x.0, x.1)

regroup : {X : Type 0} (front : List X) (x : X) (read : Option (List X × List ℕ)) → with_front front (read >>= λ r. Some (x ∷ r.0, r.1)) ≡ with_front (front ++ x ∷ []) read
regroup front x (Some r) = ap (λ (xs : List _). Some (xs, r.1)) (simp append_assoc)
regroup front x None = refl

pub goes_on : {X : Type 0} (one : List ℕ → Option (X × List ℕ)) (front : List X) (count i : ℕ) (bytes : List ℕ) (x : X) (after : List ℕ) (total : Option (List X × List ℕ)) → i < count → one bytes ≡ Some (x, after)
    → with_front front (many_at one (count - i) bytes) ≡ total → with_front (front ++ x ∷ []) (many_at one (count - (i + 1)) after) ≡ total
unfolding many_at
goes_on one front count i bytes x after total lt h so_far =
    let k : count - i ≡ suc (count - (i + 1)) = omega arith in
    let step : with_front front (many_at one (count - i) bytes) ≡ with_front (front ++ x ∷ []) (many_at one (count - (i + 1)) after) = rw (k, h) (regroup front x (many_at one (count - (i + 1)) after)) in
    sym step ∙ so_far

pub ends : {X : Type 0} (one : List ℕ → Option (X × List ℕ)) (e : Unread) (front : List X) (count i : ℕ) (bytes : List ℕ) (total : Option (List X × List ℕ)) → i < count → Unreads e (one bytes)
    → with_front front (many_at one (count - i) bytes) ≡ total → Unreads e total
unfolding many_at
ends one Memory front count i bytes total lt h so_far = tt
ends one Short front count i bytes total lt h so_far =
    let k : count - i ≡ suc (count - (i + 1)) = omega arith in
    let step : with_front front (many_at one (count - i) bytes) ≡ None = rw (k, h) refl in
    sym so_far ∙ step

pub is_done : {X : Type 0} (one : List ℕ → Option (X × List ℕ)) (front : List X) (count i : ℕ) (bytes : List ℕ) (total : Option (List X × List ℕ)) → count ≤ i → with_front front (many_at one (count - i) bytes) ≡ total → total ≡ Some (front, bytes)
unfolding many_at
is_done one front count i bytes total le so_far =
    let k : count - i ≡ 0 = omega arith in
    let step : with_front front (many_at one (count - i) bytes) ≡ Some (front, bytes) = rw k (ap (λ (xs : List _). Some (xs, bytes)) (append-nil front)) in
    sym so_far ∙ step
