-- The pieces of a path that has no long one.
use Rattle.std.proofs.Common.{◌≡◌, ◌≢◌, ◌<◌, ◌≤◌, ℕ, List, [], ◌∷◌, length, All, true, false, Bool, cond, not, ltb, refl, arith, filter, ◌||◌}
use Rattle.std.specs.List.{slice_split, onto_first}
use Rattle.std.proofs.lemmas.Bool.Decides.{nat_tests}
use Rattle.std.proofs.lemmas.List.Elements.{All-nil, All-cons, All-head, All-tail}
use Rattle.kfs_path.specs.Names.{IsPiece}
use Rattle.kfs_path.specs.Pieces.{pieces_of, has_long, is_slash, is_empty}

abbrev IsClean : List ℕ → Type 0
IsClean part = All (λ b. b ≢ 47) part

clean_onto : (x : ℕ) (parts : List (List ℕ)) → x ≢ 47 → All IsClean parts → All IsClean (onto_first x parts)
clean_onto x [] apart clean = All-cons IsClean (x ∷ []) [] (All-cons (λ b. b ≢ 47) x [] apart (All-nil (λ b. b ≢ 47))) (All-nil IsClean)
clean_onto x (part ∷ parts) apart clean = All-cons IsClean (x ∷ part) parts (All-cons (λ b. b ≢ 47) x part apart (All-head IsClean part parts clean)) (All-tail IsClean part parts clean)

isnt_slash : (x : ℕ) → is_slash x ≡ false → x ≢ 47
isnt_slash x e = grind (arith, nat_tests)

-- no part between slashes has a slash
clean_parts : (bytes : List ℕ) → All IsClean (slice_split is_slash bytes)
clean_parts [] = All-cons IsClean [] [] (All-nil (λ b. b ≢ 47)) (All-nil IsClean)
clean_parts (x ∷ xs) =
    let rest = clean_parts xs in
    elim (is_slash x) as (λ t. is_slash x ≡ t → All IsClean (cond t ([] ∷ slice_split is_slash xs) (onto_first x (slice_split is_slash xs)))) [
      | true ↦ λ e. All-cons IsClean [] (slice_split is_slash xs) (All-nil (λ b. b ≢ 47)) rest
      | false ↦ λ e. clean_onto x (slice_split is_slash xs) (isnt_slash x e) rest
    ] refl

neither : (a b : Bool) → (a || b) ≡ false → (a ≡ false) × (b ≡ false)
neither true b e = absurd (cc)
neither false b e = (refl, e)

some : (part : List ℕ) → is_empty part ≡ false → 0 < length part
some part e = grind (arith, nat_tests)

short : (part : List ℕ) → ltb 255 (length part) ≡ false → length part ≤ 255
short part e = grind (arith, nat_tests)

whole_filtered : (parts : List (List ℕ)) → All IsClean parts → has_long (filter (λ part. not (is_empty part)) parts) ≡ false → All IsPiece (filter (λ part. not (is_empty part)) parts)
whole_filtered [] clean none = All-nil IsPiece
whole_filtered (part ∷ parts) clean none =
    let rest = whole_filtered parts (All-tail IsClean part parts clean) in
    let kept = filter (λ part. not (is_empty part)) parts in
    elim (is_empty part) as (λ t. is_empty part ≡ t → has_long (cond (not t) (part ∷ kept) kept) ≡ false → All IsPiece (cond (not t) (part ∷ kept) kept)) [
      | true ↦ λ e n. rest n
      | false ↦ λ e n. let both = neither (ltb 255 (length part)) (has_long kept) n in
          All-cons IsPiece part kept (some part e, short part both.0, All-head IsClean part parts clean) (rest both.1)
    ] refl none

pub pieces_whole : (bytes : List ℕ) → has_long (pieces_of bytes) ≡ false → All IsPiece (pieces_of bytes)
pieces_whole bytes none = whole_filtered (slice_split is_slash bytes) (clean_parts bytes) none
