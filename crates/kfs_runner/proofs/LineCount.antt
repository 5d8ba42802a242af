-- How many lines a script of so many bytes can have.
use Rattle.std.proofs.Common.{◌≡◌, ◌≤◌, ◌+◌, ◌*◌, ◌++◌, ◌∷◌, ◌∙◌, ℕ, Bool, true, false, cond, List, [], length, Option, Some, None, Result, Ok, Err, refl, ap, arith, length-append}
use Rattle.std.specs.Prelude.{◌==◌, ◌&&◌}
use Rattle.std.specs.List.{slice_split, onto_first}
use Rattle.kfs_model.specs.declared.Line.{Line}
use Rattle.kfs_runner.proofs.LineSize.{size, size_split, line_size}
use Rattle.kfs_script.specs.Script.{script_of, is_skipped, lines_from, lines_of, added, alone, followed, with_front, line_at, has_none}

front_ok : (front : List Line) (r : Result (List Line) ℕ) (ls : List Line) → with_front front r ≡ Ok ls → (more : List Line) × (r ≡ Ok more) × (ls ≡ front ++ more)
front_ok front (Ok more) ls e = let same : ls ≡ front ++ more = cc in (more, refl, same)
front_ok front (Err n) ls e = cc

pub followed_ok : (r : Result (List Line) ℕ) (rest : List Line → Result (List Line) ℕ) (ls : List Line) → followed r rest ≡ Ok ls → (front : List Line) × (more : List Line) × (r ≡ Ok front) × (rest front ≡ Ok more) × (ls ≡ front ++ more)
followed_ok (Ok front) rest ls e = let it = front_ok front (rest front) ls e in (front, it.0, refl, it.1, it.2)
followed_ok (Err n) rest ls e = cc

alone_one : (number : ℕ) (line : Option Line) (front : List Line) (n : ℕ) → ((l : Line) → line ≡ Some l → 3 ≤ n) → alone number line ≡ Ok front → 4 * length front ≤ n + 1
alone_one number None front n long e = cc
alone_one number (Some line) front n long e = let same : front ≡ line ∷ [] = cc in omega (arith, ap length same, long line refl)

added_by : (t : Bool) (number : ℕ) (line : Option Line) (front : List Line) (n : ℕ) → ((l : Line) → line ≡ Some l → 3 ≤ n) → cond t (Ok []) (alone number line) ≡ Ok front → 4 * length front ≤ n + 1
added_by true number line front n long e = let same : front ≡ [] = cc in omega (arith, ap length same)
added_by false number line front n long e = alone_one number line front n long e

-- a line that adds something has at least three bytes
added_size : (number : ℕ) (first : Bool) (bytes : List ℕ) (front : List Line) → added number first bytes ≡ Ok front → 4 * length front ≤ length bytes + 1
unfolding added
added_size number first bytes front e = added_by (is_skipped bytes) number (line_at first bytes) front (length bytes) (line_size first bytes) e

lines_size : (pieces : List (List ℕ)) (number : ℕ) (first : Bool) (ls : List Line) → lines_from number first pieces ≡ Ok ls → 4 * length ls ≤ size pieces
lines_size [] number first ls e = let same : ls ≡ [] = cc in omega (arith, ap length same)
lines_size (bytes ∷ pieces) number first ls e =
    let it = followed_ok (added number first bytes) (λ here. lines_from (number + 1) (first && has_none here) pieces) ls e in
    let here = added_size number first bytes it.0 it.2 in
    let later = lines_size pieces (number + 1) (first && has_none it.0) it.1 it.3 in
    omega (arith, here, later, ap length it.4, length-append it.0 it.1)

-- at most a fourth as many lines as bytes
pub few_lines : (bytes : List ℕ) (ls : List Line) → length bytes ≤ 16777216 → script_of bytes ≡ Ok ls → length ls ≤ 4194304
unfolding script_of
few_lines bytes ls short e =
    let most = lines_size (lines_of bytes) 1 true ls e in
    let all = size_split (λ b. b == 10) bytes in
    omega (arith, most, all)
