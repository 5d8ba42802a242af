use Rattle.std.proofs.Common.{◌≡◌, ◌∙◌, ◌+◌, ◌^◌, ap, subst, arith}
use Rattle.std.proofs.lemmas.Result.{err_from_is_err_and}
use Rattle.kv_nand.specs.Flash.{Flash}
use Rattle.kv_nand.specs.Working.{Works, ops_more}
use Rattle.kv_nand.proofs.Chaining.{works_then_stops, stops_within}
use Rattle.kssd_index.specs.Standing.{index_root}
use Rattle.kssd_collect.proofs.Kept.{frees_since}
use Rattle.kssd_collect.proofs.Logged.{ends_in_few}
use Rattle.kssd_collect.proofs.collection.finish.Goals as goal

pub returns-in_err-erase_block-clause-stops : goal.returns-in_err-erase_block-clause-stops
returns-in_err-erase_block-clause-stops g c =
    let old = g.N.Nand.flash c.args.nand.now in
    let named = g.N.Nand.flash c.name_copies.new.nand in
    let new = g.N.Nand.flash c.erase_block.new.nand in
    let p = err_from_is_err_and c.from_residual-in_err-erase_block.result c.from_residual-in_err-erase_block.ensures.1 in
    rw (p.1, p.2) (stops_within old new _ _ _ _ _ (works_then_stops old named new _ _ _ 1 0 c.in_ok-name_copies.ensures.works c.in_err-erase_block.ensures.stops) (omega arith) (omega arith))

pub returns-in_err-erase_block-clause-placed_stops : goal.returns-in_err-erase_block-clause-placed_stops
returns-in_err-erase_block-clause-placed_stops g c place =
    let old = g.N.Nand.flash c.args.nand.now in
    let named = g.N.Nand.flash c.name_copies.new.nand in
    let new = g.N.Nand.flash c.erase_block.new.nand in
    let p = err_from_is_err_and c.from_residual-in_err-erase_block.result c.from_residual-in_err-erase_block.ensures.1 in
    rw (p.1, p.2) (stops_within old new _ _ _ 4 0 (works_then_stops old named new _ 3 0 1 0 (c.in_ok-name_copies.ensures.placed place) c.in_err-erase_block.ensures.stops) (omega arith) (omega arith))

pub returns-clause-frees : goal.returns-clause-frees
returns-clause-frees g c = frees_since c.args.mounted.now.values c.name_copies.new.mounted.values c.erase_block.new.mounted.values c.in_ok-name_copies.ensures.blocks c.in_ok-erase_block.ensures.frees

pub returns-clause-none : goal.returns-clause-none
returns-clause-none g c empty =
    let new = g.N.Nand.flash c.erase_block.new.nand in
    subst (λ (f : Flash). Works f new 1 0 × (new.ops ≡ ops_more f 1)) (c.in_ok-name_copies.ensures.none empty) (c.in_ok-erase_block.ensures.works, c.in_ok-erase_block.ensures.exact)

pub returns-in_err-erase_block-clause-unfrozen_stops : goal.returns-in_err-erase_block-clause-unfrozen_stops
returns-in_err-erase_block-clause-unfrozen_stops g c none =
    let old = g.N.Nand.flash c.args.nand.now in
    let named = g.N.Nand.flash c.name_copies.new.nand in
    let new = g.N.Nand.flash c.erase_block.new.nand in
    let p = err_from_is_err_and c.from_residual-in_err-erase_block.result c.from_residual-in_err-erase_block.ensures.1 in
    rw (p.1, p.2) (stops_within old new _ (3 + 1) (2 ^ 64 + 0) 4 (2 ^ 64) (works_then_stops old named new _ 3 (2 ^ 64) 1 0 (c.in_ok-name_copies.ensures.unfrozen none) c.in_err-erase_block.ensures.stops) (omega arith) (omega arith))

pub returns-in_err-name_copies-clause-unfrozen_stops : goal.returns-in_err-name_copies-clause-unfrozen_stops
returns-in_err-name_copies-clause-unfrozen_stops g c none =
    let old = g.N.Nand.flash c.args.nand.now in
    let named = g.N.Nand.flash c.name_copies.new.nand in
    let p = err_from_is_err_and c.from_residual.result c.from_residual.ensures.1 in
    rw (p.1, p.2) (stops_within old named _ 3 (2 ^ 64) 4 (2 ^ 64) (c.in_err-name_copies.ensures.unfrozen_stops none) (omega arith) (omega arith))

pub returns-clause-unfrozen : goal.returns-clause-unfrozen
returns-clause-unfrozen g c none =
    let old = g.N.Nand.flash c.args.nand.now in
    let named = g.N.Nand.flash c.name_copies.new.nand in
    let new = g.N.Nand.flash c.erase_block.new.nand in
    ends_in_few old named new (c.in_ok-name_copies.ensures.unfrozen none) c.in_ok-erase_block.ensures.works c.in_ok-erase_block.ensures.exact

pub returns-clause-index : goal.returns-clause-index
returns-clause-index g c empty = c.in_ok-erase_block.ensures.index ∙ c.in_ok-name_copies.ensures.index empty

pub returns-in_err-erase_block-clause-usual : goal.returns-in_err-erase_block-clause-usual
returns-in_err-erase_block-clause-usual g c low = omega (arith, c.name_copies.ensures.usual low, c.in_err-erase_block.ensures.stops.counts.ops_at_most)

pub returns-clause-usual : goal.returns-clause-usual
returns-clause-usual g c low = omega (arith, c.name_copies.ensures.usual low, c.in_ok-erase_block.ensures.works.counts.ops_at_most)

pub returns-clause-root : goal.returns-clause-root
returns-clause-root g c none = ap index_root c.in_ok-erase_block.ensures.index ∙ c.in_ok-name_copies.ensures.root none
