use Rattle.std.proofs.Common.{◌≡◌, ◌≤◌, ◌∙◌, ◌∷◌, List, ℕ, length, drop, ap, subst, arith, IfOk}
use Rattle.kfs_model.specs.declared.Line.{Line}
use Rattle.kfs_model.specs.declared.Line.TheVariants as lines
use Rattle.kfs_load.specs.Generator.{load_rest}
use Rattle.kfs_load.proofs.LineLaws.{rest_is}
use Rattle.kfs_runner.proofs.LoadRuns.{text_is}
use Rattle.kfs_runner.proofs.load.load_line.Goals as goal

some : (ls : List Line) (first : Line) (more : List Line) → ls ≡ first ∷ more → 1 ≤ length ls
some ls first more is = let n = ap length is in omega (arith, n)

pub behind_format-requires : goal.behind_format-requires
behind_format-requires c =
    let whole : c.as_slice.result.now ≡ lines.Format c.args.blocks ∷ load_rest c.args.seed c.args.count = c.as_slice.ensures.value ∙ c.in_ok-lines.ensures ∙ rest_is c.args.seed c.args.count c.args.blocks in
    some c.as_slice.result.now (lines.Format c.args.blocks) (load_rest c.args.seed c.args.count) whole

pub run_lines-requires-clause-load : goal.run_lines-requires-clause-load
run_lines-requires-clause-load c =
    let whole : c.as_slice.result.now ≡ lines.Format c.args.blocks ∷ load_rest c.args.seed c.args.count = c.as_slice.ensures.value ∙ c.in_ok-lines.ensures ∙ rest_is c.args.seed c.args.count c.args.blocks in
    (c.args.seed, c.args.count, c.requires.most, c.behind_format.ensures ∙ ap (drop 1) whole)

pub returns : goal.returns
returns c =
    let whole : c.as_slice.result.now ≡ lines.Format c.args.blocks ∷ load_rest c.args.seed c.args.count = c.as_slice.ensures.value ∙ c.in_ok-lines.ensures ∙ rest_is c.args.seed c.args.count c.args.blocks in
    let rest : c.behind_format.result.now ≡ load_rest c.args.seed c.args.count = c.behind_format.ensures ∙ ap (drop 1) whole in
    let T : List ℕ → Type 0 = λ t. IfOk c.line_of.result (λ text. text ≡ t) in
    subst T (text_is c.args.seed c.args.count c.args.blocks _ c.behind_format.result.now c.in_ok-tally.tally c.in_ok-tally.totals c.in_ok-point.ensures.limits rest c.in_ok-tally.ensures.counted) c.line_of.ensures
