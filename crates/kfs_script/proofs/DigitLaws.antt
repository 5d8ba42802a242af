-- The loop that reads digits.
use Rattle.std.proofs.Common.{◌≡◌, ℕ, ◌+◌, ◌-◌, ◌*◌, ◌≤◌, ◌<◌, List, [], ◌∷◌, length, drop, get_or, leb, cond, Some, None, ap, sym, ◌∙◌, arith, add-one}
use Rattle.std.proofs.Math.Seq.{drop-cons}
use Rattle.std.proofs.lemmas.Bool.{lt-leb, cond-false}
use Rattle.kfs_script.specs.Script.{number_on}

grows : (n : ℕ) (ds : List ℕ) → n ≤ number_on n ds
grows n [] = omega arith
grows n (d ∷ ds) = omega (arith, grows (10 * n + (d - 48)) ds)

digit_at : (n : ℕ) (ds : List ℕ) (i : ℕ) → i < length ds → number_on n (drop i ds) ≡ number_on (10 * n + (get_or ds i 0 - 48)) (drop (i + 1) ds)
digit_at n ds i lt = ap (number_on n) (drop-cons ds i 0 lt) ∙ ap (λ k. number_on (10 * n + (get_or ds i 0 - 48)) (drop k ds)) (sym (add-one i))

-- a value above the limit before the last digit stays so
pub too_great : (limit n : ℕ) (ds : List ℕ) (i : ℕ) → i < length ds → limit < 10 * n + (get_or ds i 0 - 48) → number_on n (drop i ds) ≡ number_on 0 ds → None ≡ cond (leb (number_on 0 ds) limit) (Some (number_on 0 ds)) None
too_great limit n ds i lt great told =
    let le : limit < number_on 0 ds = omega (arith, grows (10 * n + (get_or ds i 0 - 48)) (drop (i + 1) ds), digit_at n ds i lt, told) in
    sym (cond-false _ _ _ (lt-leb _ _ le))
