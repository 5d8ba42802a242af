-- The rows of the objects of one first byte, piece by piece.
use Rattle.std.proofs.Common.{◌≡◌, ℕ, zero, suc, ◌+◌, ◌-◌, ◌<◌, ◌≤◌, min, refl, sym, ◌∙◌, ap, arith, List, [], ◌∷◌, ◌++◌, length, map, take, drop, slice_get, Some, None}
use Rattle.std.specs.FinMap as objects
use Rattle.std.proofs.lemmas.List.{take_all, length-take, length-drop, length-map}
use Rattle.std.proofs.lemmas.Option.{same_Some}
use Rattle.kv_base.specs.declared.pairs.Pair.{Pair}
use Rattle.kv_device.specs.Objects.{Objects, pairs_from, pair_of, is_wanted}
use Rattle.kfs_judge.specs.declared.row.Row.{Row}
use Rattle.kfs_judge.specs.Rows.{Extends}
use Rattle.kfs_judge.proofs.Gathered.{fewer}
use Rattle.kfs_judge.proofs.Gathering.{extends_both, extends_by}
use Rattle.kfs_judge.proofs.Pieces.{piece_next, from_next}

map_drop : (k : ℕ) (pairs : List Pair) → map pair_of (drop k pairs) ≡ drop k (map pair_of pairs)
map_drop zero pairs = refl
map_drop (suc k) [] = refl
map_drop (suc k) (p ∷ pairs) = map_drop k pairs

-- one more piece
pub piece_rows : (all : List (List ℕ × List ℕ)) (a k : ℕ) (pairs items : List Pair) (old mid new : List Row) → k ≤ 64 → items ≡ pairs → map pair_of pairs ≡ take 64 (drop a all)
    → Extends (take (a + k) all) old mid → Extends (map pair_of (take (length items - k) (drop k items))) mid new → Extends (take (a + 64) all) old new
piece_rows all a k pairs items old mid new le same found before more =
    let rest = take_all (length items - k) (drop k items) (omega (arith, length-drop k items)) in
    let these = ap (map pair_of) rest ∙ ap (λ l. map pair_of (drop k l)) same ∙ map_drop k pairs ∙ ap (drop k) found in
    extends_by (take (a + k) all ++ drop k (take 64 (drop a all))) (take (a + 64) all) old new (piece_next a k 64 all le)
    (extends_both (take (a + k) all) (drop k (take 64 (drop a all))) old mid new before (extends_by (map pair_of (take (length items - k) (drop k items))) (drop k (take 64 (drop a all))) mid new these more))

pub piece_length : (all : List (List ℕ × List ℕ)) (a : ℕ) (pairs : List Pair) → map pair_of pairs ≡ take 64 (drop a all) → length pairs ≡ min 64 (length all - a)
piece_length all a pairs found =
    sym (length-map pairs pair_of) ∙ ap (λ (l : List (List ℕ × List ℕ)). length l) found ∙ length-take 64 (drop a all) ∙ ap (min 64) (length-drop a all)

-- a short piece is the last
pub last_piece : (all : List (List ℕ × List ℕ)) (a : ℕ) (pairs : List Pair) (old new : List Row) → map pair_of pairs ≡ take 64 (drop a all) → length pairs < 64 → Extends (take (a + 64) all) old new → Extends all old new
last_piece all a pairs old new found short h =
    let e = piece_length all a pairs found in
    extends_by (take (a + 64) all) all old new (take_all (a + 64) all (omega arith)) h

get_map : (xs : List Pair) (i : ℕ) (x : Pair) → slice_get xs i ≡ Some x → slice_get (map pair_of xs) i ≡ Some (pair_of x)
get_map [] i x e = absurd (cc)
get_map (y ∷ xs) zero x e = ap Some (ap pair_of (same_Some _ _ e))
get_map (y ∷ xs) (suc i) x e = get_map xs i x e

get_take : {A : Type 0} (n : ℕ) (xs : List A) (i : ℕ) (x : A) → slice_get (take n xs) i ≡ Some x → slice_get xs i ≡ Some x
get_take zero xs i x e = absurd (cc)
get_take (suc n) [] i x e = e
get_take (suc n) (y ∷ xs) zero x e = e
get_take (suc n) (y ∷ xs) (suc i) x e = get_take n xs i x e

get_none : (A : Type 0) (i : ℕ) → slice_get {X = A} [] i ≡ None
get_none A zero = refl
get_none A (suc i) = refl

get_drop : {A : Type 0} (a : ℕ) (xs : List A) (i : ℕ) → slice_get (drop a xs) i ≡ slice_get xs (a + i)
get_drop zero xs i = ap (slice_get xs) (let e : i ≡ 0 + i = omega arith in e)
get_drop {A = A} (suc a) [] i = get_none A i ∙ sym (get_none A (suc a + i))
get_drop (suc a) (x ∷ xs) i = get_drop a xs i ∙ ap (slice_get (x ∷ xs)) (let e : suc (a + i) ≡ suc a + i = omega arith in e)

-- the next piece begins with the last key of a full one
pub next_piece : (m : Objects) (p : List ℕ) (a : ℕ) (pairs : List Pair) (x : Pair) → map pair_of pairs ≡ take 64 (drop a (pairs_from m p p)) → slice_get pairs 63 ≡ Some x → pairs_from m x.key p ≡ drop (a + 63) (pairs_from m p p)
next_piece m p a pairs x found at =
    let all = pairs_from m p p in
    let here = get_take 64 (drop a all) 63 (pair_of x) (ap (λ l. slice_get l 63) (sym found) ∙ get_map pairs 63 x at) in
    from_next m p (a + 63) x.key x.value (sym (get_drop a all 63) ∙ here)

pub few_pairs : (m : Objects) (from p : List ℕ) → length (pairs_from m from p) ≤ objects.len m
unfolding pairs_from
few_pairs m from p = let a = fewer (λ e. is_wanted from p e.0) (objects.entries m) in let b = objects.len-entries m in omega arith
