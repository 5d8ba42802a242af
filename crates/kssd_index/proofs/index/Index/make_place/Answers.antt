use Rattle.std.proofs.Common.{◌∙◌, ◌^◌, arith}
use Rattle.std.proofs.lemmas.Result.{err_from_is_err_and}
use Rattle.kv_nand.proofs.Chaining.{stops_within}
use Rattle.kssd_root.proofs.Steps.{works_on, stops_on}
use Rattle.kssd_index.specs.Costs.{flush_cost}
use Rattle.kssd_index.proofs.Flushing.{none_cost}
use Rattle.kssd_index.proofs.Places.{place_after}
use Rattle.kssd_index.proofs.index.Index.make_place.Goals as goal

pub returns-clause-place : goal.returns-clause-place
returns-clause-place g c = place_after c.freeze.new.self c.args.entries.now c.in_ok-freeze.ensures.room c.in_ok-freeze.ensures.empty c.requires.size c.read_sizes.ensures

pub returns-clause-unfrozen : goal.returns-clause-unfrozen
returns-clause-unfrozen g c none =
    let old = g.N.Nand.flash c.args.nand.now in
    let mid = g.N.Nand.flash c.flush_older.new.nand in
    let new = g.N.Nand.flash c.freeze.new.nand in
    let cost = flush_cost c.args.self.now.older old.blocks in
    works_on old mid new cost 2 2 (2 ^ 64) 0 (g.met.N.Nand.sound c.freeze.new.nand) (omega (arith, none_cost c.args.self.now.older old.blocks none)) c.in_ok-flush_older.ensures.works c.in_ok-freeze.ensures.works

pub returns-in_err-flush_older-clause-unfrozen_stops : goal.returns-in_err-flush_older-clause-unfrozen_stops
returns-in_err-flush_older-clause-unfrozen_stops g c none =
    let old = g.N.Nand.flash c.args.nand.now in
    let new = g.N.Nand.flash c.flush_older.new.nand in
    let p = err_from_is_err_and c.from_residual.result c.from_residual.ensures.1 in
    rw (p.1, p.2) (stops_within old new _ (flush_cost c.args.self.now.older old.blocks) (2 ^ 64) 2 (2 ^ 64) c.in_err-flush_older.ensures.stops (omega (arith, none_cost c.args.self.now.older old.blocks none)) (omega arith))

pub returns-in_err-freeze-clause-unfrozen_stops : goal.returns-in_err-freeze-clause-unfrozen_stops
returns-in_err-freeze-clause-unfrozen_stops g c none =
    let old = g.N.Nand.flash c.args.nand.now in
    let mid = g.N.Nand.flash c.flush_older.new.nand in
    let new = g.N.Nand.flash c.freeze.new.nand in
    let cost = flush_cost c.args.self.now.older old.blocks in
    let p = err_from_is_err_and c.from_residual-in_err-freeze.result c.from_residual-in_err-freeze.ensures.1 in
    rw (p.1, p.2) (stops_on old mid new _ cost 2 2 (2 ^ 64) 0 (g.met.N.Nand.sound c.freeze.new.nand) (omega (arith, none_cost c.args.self.now.older old.blocks none)) c.in_ok-flush_older.ensures.works c.in_err-freeze.ensures.stops)

pub returns-clause-root : goal.returns-clause-root
returns-clause-root g c none = c.in_ok-freeze.ensures.root ∙ c.in_ok-flush_older.ensures.root none
