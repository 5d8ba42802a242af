-- A tree without its nameless nodes takes no more room.
use Rattle.std.proofs.Common.{◌≡◌, ℕ, ◌≤◌, ◌&&◌, true, false, cond, Bool, refl, arith, List, [], ◌∷◌, length, filter, sum_by, nat_le}
use Rattle.std.proofs.lemmas.Bool.Decides.{nat_tests}
use Rattle.std.proofs.lemmas.List.Sums.{sum_by-cons}
use Rattle.kfs_model.specs.declared.Node.{Node}
use Rattle.kfs_model.specs.Tree.{Tree, Limits, charge, chunks, chunks_of, has_room, is_named, named}

pub both_true : (a b : Bool) → (a && b) ≡ true → (a ≡ true) × (b ≡ true)
both_true true b e = (refl, e)
both_true false b e = absurd (cc)

pub room_of : (k : Limits) (t : Tree) → has_room k t ≡ true → (charge t ≤ k.keys) × (chunks t ≤ k.pages)
room_of k t room =
    let h = both_true (nat_le (charge t) k.keys) (nat_le (chunks t) k.pages) room in
    (grind (arith, nat_tests, h.0), grind (arith, nat_tests, h.1))

module _ (p : ℕ × Node → Bool) where
  fewer : (es : List (ℕ × Node)) → length (filter p es) ≤ length es
  fewer [] = omega arith
  fewer (e ∷ es) = by (p e) (fewer es)
    where
      by : (b : Bool) → length (filter p es) ≤ length es → length (cond b (e ∷ filter p es) (filter p es)) ≤ length (e ∷ es)
      by true h = omega arith
      by false h = omega arith

  smaller : (es : List (ℕ × Node)) → sum_by (λ e. chunks_of e.1) (filter p es) ≤ sum_by (λ e. chunks_of e.1) es
  smaller [] = omega arith
  smaller (e ∷ es) = by (p e) (smaller es)
    where
      by : (b : Bool) → sum_by (λ e. chunks_of e.1) (filter p es) ≤ sum_by (λ e. chunks_of e.1) es → sum_by (λ e. chunks_of e.1) (cond b (e ∷ filter p es) (filter p es)) ≤ sum_by (λ e. chunks_of e.1) (e ∷ es)
      by true h = let a = sum_by-cons (λ (e : ℕ × Node). chunks_of e.1) e (filter p es) in let b = sum_by-cons (λ (e : ℕ × Node). chunks_of e.1) e es in omega arith
      by false h = let b = sum_by-cons (λ (e : ℕ × Node). chunks_of e.1) e es in omega arith

-- with fewer nodes a tree takes no more room
pub named_fits : (k : Limits) (t : Tree) → has_room k t ≡ true → has_room k (named t) ≡ true
named_fits k t room =
    let c = (room_of k t room).0 in
    let d = (room_of k t room).1 in
    let a = fewer (λ e. is_named t e.0) t.nodes in
    let b = smaller (λ e. is_named t e.0) t.nodes in
    let e : nat_le (charge (named t)) k.keys ≡ true = grind (arith, nat_tests) in
    let f : nat_le (chunks (named t)) k.pages ≡ true = grind (arith, nat_tests) in
    λ i. (e i && f i)
