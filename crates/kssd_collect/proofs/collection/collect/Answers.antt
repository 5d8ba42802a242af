use Rattle.std.proofs.Common.{◌≤◌, ap, sym, subst, arith}
use Rattle.std.proofs.lemmas.Result.{err_from_is_err_and}
use Rattle.kv_nand.proofs.Chaining.{works_blocks, works_then_stops, stops_within}
use Rattle.kssd_root.specs.Costs.{most_place_cost}
use Rattle.kssd_index.specs.declared.index.Index.{Index}
use Rattle.kssd_index.specs.Costs.{zero_runs}
use Rattle.kssd_collect.proofs.collection.collect.Goals as goal

pub returns-in_err-finish-clause-stops : goal.returns-in_err-finish-clause-stops
returns-in_err-finish-clause-stops g c =
    let old = g.N.Nand.flash c.args.nand.now in
    let copied = g.N.Nand.flash c.copy_whole.new.nand in
    let new = g.N.Nand.flash c.finish.new.nand in
    let p = err_from_is_err_and c.from_residual-in_err-finish.result c.from_residual-in_err-finish.ensures.1 in
    let cost = ap most_place_cost (works_blocks old copied 34 68 c.in_ok-reclaim.ensures.works) in
    rw (p.1, p.2) (stops_within old new _ _ _ _ _ (works_then_stops old copied new _ 34 68 _ _ c.in_ok-reclaim.ensures.works c.in_err-finish.ensures.stops) (omega (arith, cost)) (omega arith))

pub returns-in_err-finish-clause-usual : goal.returns-in_err-finish-clause-usual
returns-in_err-finish-clause-usual g c low =
    let still = subst (λ (index : Index). zero_runs index ≤ 3) (sym c.in_ok-reclaim.ensures.index) low in
    omega (arith, c.finish.ensures.usual still, c.in_ok-reclaim.ensures.works.counts.ops_at_most)

pub returns-clause-usual : goal.returns-clause-usual
returns-clause-usual g c low =
    let still = subst (λ (index : Index). zero_runs index ≤ 3) (sym c.in_ok-reclaim.ensures.index) low in
    omega (arith, c.finish.ensures.usual still, c.in_ok-reclaim.ensures.works.counts.ops_at_most)
