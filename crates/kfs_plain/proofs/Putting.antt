-- The entries of a rename, put from the last to the first.
use Rattle.std.proofs.Common.{◌≡◌, ℕ, List, [], ◌∷◌, ◌++◌, refl, ap}
use Rattle.std.specs.FinMap.{put}
use Rattle.kfs_model.specs.Tree.{Place, place_cmp, all_put}

-- the entries, put one by one over others
abbrev pub put_over : List (Place × ℕ) → List (Place × ℕ) → List (Place × ℕ)
put_over [] over = over
put_over (e ∷ es) over = put place_cmp e.0 e.1 (put_over es over)

pub put_over-push : (es : List (Place × ℕ)) (place : Place) (n : ℕ) (over : List (Place × ℕ)) → put_over (es ++ (place, n) ∷ []) over ≡ put_over es (put place_cmp place n over)
put_over-push [] place n over = refl
put_over-push (e ∷ es) place n over = ap (put place_cmp e.0 e.1) (put_over-push es place n over)

pub put_over-none : (es : List (Place × ℕ)) → put_over es [] ≡ all_put es
put_over-none [] = refl
put_over-none (e ∷ es) = ap (put place_cmp e.0 e.1) (put_over-none es)
