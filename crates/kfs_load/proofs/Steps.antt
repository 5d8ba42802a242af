-- One directory more, one step more.
use Rattle.std.proofs.Common.{◌≡◌, ◌<◌, ◌+◌, ◌-◌, ◌++◌, ◌∷◌, ◌∙◌, ℕ, [], zero, suc, List, refl, sym, ap, arith, append_assoc}
use Rattle.kfs_path.specs.declared.call.Call.TheVariants as calls
use Rattle.kfs_model.specs.declared.Line.{Line}
use Rattle.kfs_model.specs.declared.Line.TheVariants as lines
use Rattle.kfs_load.specs.Generator.{dir_path, step_from, steps_from, dirs_from}
use Rattle.kfs_load.specs.Adding.{Adds}

dirs_next : (a n m : ℕ) → n ≡ suc m → dirs_from a n ≡ lines.Call (calls.Mkdir (dir_path a)) ∷ dirs_from (a + 1) m
dirs_next a n m is = ap (dirs_from a) is

-- a directory's line behind what was added, and those that are left
pub dirs_more : (old new all : List Line) (path : List ℕ) (a n m : ℕ) → n ≡ suc m → path ≡ dir_path a → new ≡ old ++ lines.Call (calls.Mkdir path) ∷ [] → old ++ dirs_from a n ≡ all → new ++ dirs_from (a + 1) m ≡ all
dirs_more old new all path a n m is named added before =
    ap (λ ls. ls ++ dirs_from (a + 1) m) (added ∙ ap (λ p. old ++ lines.Call (calls.Mkdir p) ∷ []) named)
    ∙ append_assoc old (lines.Call (calls.Mkdir (dir_path a)) ∷ []) (dirs_from (a + 1) m)
    ∙ ap (λ ls. old ++ ls) (sym (dirs_next a n m is)) ∙ before

-- a step's lines behind what was added, and those that are left
pub steps_more : (old new all : List Line) (x y n m : ℕ) → n ≡ suc m → Adds old (step_from x) new y → old ++ steps_from x n ≡ all → new ++ steps_from y m ≡ all
steps_more old new all x y n m is adds before =
    ap (λ ls. ls ++ steps_from y m) adds.lines
    ∙ append_assoc old (step_from x).lines (steps_from y m)
    ∙ ap (λ ls. old ++ ls) (ap (λ z. (step_from x).lines ++ steps_from z m) adds.reached ∙ sym (ap (steps_from x) is)) ∙ before
