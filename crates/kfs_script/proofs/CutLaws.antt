-- Where bytes are cut.
use Rattle.std.proofs.Common.{◌≡◌, ℕ, ◌+◌, ◌-◌, ◌≤◌, List, [], ◌∷◌, length, take, drop, Bool, true, false, cond, not, ltb, eqb, Some, None, refl, ap, sym, ◌∙◌, subst, arith}
use Rattle.std.specs.List.{slice_split, position, position_or_len, onto_first}
use Rattle.std.proofs.lemmas.List.{take_rest}
use Rattle.std.proofs.lemmas.List.Splits.{slice_split_first}
use Rattle.std.proofs.lemmas.Option.{cond_some}
use Rattle.std.proofs.lemmas.Bool.{ltb-true, ltb-false}
use Rattle.kfs_script.specs.Script.{pieces_at, one}

pub cut_at : (mark : ℕ) (xs : List ℕ) (i : ℕ) → Some i ≡ position (λ b. eqb b mark) xs → pieces_at mark xs ≡ take i xs ∷ pieces_at mark (take (length xs - (i + 1)) (drop (i + 1) xs))
cut_at mark xs i e =
    let p : ℕ → Bool = λ b. eqb b mark in
    let d = cond_some (ltb (position_or_len p xs) (length xs)) (position_or_len p xs) i (sym e) in
    subst (λ j. slice_split p xs ≡ take j xs ∷ slice_split p (take (length xs - (j + 1)) (drop (j + 1) xs))) d.1
    (slice_split_first p xs 0 (ltb-true _ _ d.0) ∙ ap (λ ys. take (position_or_len p xs) xs ∷ slice_split p ys) (sym (take_rest xs (position_or_len p xs + 1))))

whole : (p : ℕ → Bool) (xs : List ℕ) → length xs ≤ position_or_len p xs → slice_split p xs ≡ xs ∷ []
whole p [] h = refl
whole p (x ∷ xs) h = elim (p x) as (λ t. length (x ∷ xs) ≤ cond (not t) (1 + position_or_len p xs) 0 → cond t ([] ∷ slice_split p xs) (onto_first x (slice_split p xs)) ≡ (x ∷ xs) ∷ []) [
  | true ↦ λ le. absurd (omega arith)
  | false ↦ λ le. ap (onto_first x) (whole p xs (omega arith))
] h

none_below : (b : Bool) (i : ℕ) → None ≡ cond b (Some i) None → b ≡ false
none_below true i e = absurd (cc)
none_below false i e = refl

pub not_cut : (mark : ℕ) (xs : List ℕ) → None ≡ position (λ b. eqb b mark) xs → pieces_at mark xs ≡ xs ∷ []
not_cut mark xs e =
    let p : ℕ → Bool = λ b. eqb b mark in
    whole p xs (ltb-false _ _ (none_below (ltb (position_or_len p xs) (length xs)) (position_or_len p xs) e))

onto_some : {A : Type 0} (R : List (List ℕ) → A) (y : A) (x : ℕ) (pieces : List (List ℕ)) → ((v : List ℕ) (more : List (List ℕ)) → R (v ∷ more) ≡ y) → R (onto_first x pieces) ≡ y
onto_some R y x [] h = h (x ∷ []) []
onto_some R y x (v ∷ more) h = h (x ∷ v) more

-- there is always a piece
pub some_piece : {A : Type 0} (R : List (List ℕ) → A) (y : A) (mark : ℕ) (xs : List ℕ) → ((v : List ℕ) (more : List (List ℕ)) → R (v ∷ more) ≡ y) → R (pieces_at mark xs) ≡ y
some_piece R y mark [] h = h [] []
some_piece R y mark (x ∷ xs) h = elim (eqb x mark) as (λ t. R (cond t ([] ∷ pieces_at mark xs) (onto_first x (pieces_at mark xs))) ≡ y) [
  | true ↦ h [] (pieces_at mark xs)
  | false ↦ onto_some R y x (pieces_at mark xs) h
]

pub one_more : (v : List ℕ) (mark : ℕ) (xs : List ℕ) → one (v ∷ pieces_at mark xs) ≡ None
one_more v mark xs = some_piece (λ pieces. one (v ∷ pieces)) None mark xs (λ w more. refl)
