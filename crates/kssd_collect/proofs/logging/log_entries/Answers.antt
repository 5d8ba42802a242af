use Rattle.std.proofs.Common.{◌∙◌, ◌^◌, sym, arith}
use Rattle.std.proofs.lemmas.Result.{err_from_is_err_and}
use Rattle.kv_nand.proofs.Chaining.{works_then_stops, stops_within}
use Rattle.kssd_index.proofs.Anchored.{aged_still}
use Rattle.kssd_index.proofs.Beside.{index_before_still}
use Rattle.kssd_index.specs.Costs.{group_cost}
use Rattle.kssd_collect.proofs.Logged.{HasPlace, none_logged, few_for_group, kept_then_either, page_works, page_stops}
use Rattle.kssd_collect.proofs.Short.{page_with_turn}
use Rattle.kssd_collect.proofs.logging.log_entries.Goals as goal

pub returns-then-len-eq0-clause-shown : goal.returns-then-len-eq0-clause-shown
returns-then-len-eq0-clause-shown g c = none_logged _ c.args.entries.now (sym c.len.ensures ∙ c.if-len-eq0.true)

pub returns-then-len-eq0-clause-kept : goal.returns-then-len-eq0-clause-kept
returns-then-len-eq0-clause-kept g c = index_before_still c.args.index.now _ _ _ c.requires.stands

pub returns-then-len-eq0-clause-aged : goal.returns-then-len-eq0-clause-aged
returns-then-len-eq0-clause-aged g c = aged_still c.args.index.now _ _ c.requires.stands

pub returns-in_err-append-clause-kept : goal.returns-in_err-append-clause-kept
returns-in_err-append-clause-kept g c =
    let flash = g.N.Nand.flash in
    kept_then_either (flash c.args.nand.now) (flash c.find_place.new.nand) (flash c.append.new.nand) _ _ c.args.entries.now c.in_ok-find_place.ensures.works c.in_ok-find_place.ensures.kept c.in_err-append.ensures.kept

pub returns-in_err-append-clause-stops : goal.returns-in_err-append-clause-stops
returns-in_err-append-clause-stops g c =
    let flash = g.N.Nand.flash in
    let mid = flash c.find_place.new.nand in
    let found = c.in_ok-find_place.ensures in
    let few = few_for_group c.find_place.new.index mid.blocks mid.image c.args.entries.now found.stands found.place in
    let p = err_from_is_err_and c.from_residual-in_err-append.result c.from_residual-in_err-append.ensures.1 in
    rw (p.1, p.2) (stops_within (flash c.args.nand.now) (flash c.append.new.nand) _ _ _ _ _
    (works_then_stops (flash c.args.nand.now) mid (flash c.append.new.nand) _ _ _ (group_cost c.find_place.new.index c.args.entries.now) 0 found.works c.in_err-append.ensures.stops) (omega (arith, few)) (omega arith))

pub returns-clause-kept : goal.returns-clause-kept
returns-clause-kept g c =
    let flash = g.N.Nand.flash in
    kept_then_either (flash c.args.nand.now) (flash c.find_place.new.nand) (flash c.append.new.nand) _ _ c.args.entries.now c.in_ok-find_place.ensures.works c.in_ok-find_place.ensures.kept c.in_ok-append.ensures.kept

pub returns-in_err-find_place-clause-unfrozen_stops : goal.returns-in_err-find_place-clause-unfrozen_stops
returns-in_err-find_place-clause-unfrozen_stops g c none pages =
    let flash = g.N.Nand.flash in
    let p = err_from_is_err_and c.from_residual.result c.from_residual.ensures.1 in
    rw (p.1, p.2) (stops_within (flash c.args.nand.now) (flash c.find_place.new.nand) _ 2 (2 ^ 64) 3 (2 ^ 64) (c.in_err-find_place.ensures.unfrozen_stops none) (omega arith) (omega arith))

pub returns-in_err-append-clause-unfrozen_stops : goal.returns-in_err-append-clause-unfrozen_stops
returns-in_err-append-clause-unfrozen_stops g c none pages =
    let flash = g.N.Nand.flash in
    let found = c.in_ok-find_place.ensures in
    let has : HasPlace c.args.index.now c.find_place.new.index (flash c.args.nand.now) (flash c.find_place.new.nand) c.args.entries.now = record { still = λ place. (c.find_place.ensures.still place).0; fresh = found.fresh; stands = found.stands; works = found.unfrozen none } in
    let p = err_from_is_err_and c.from_residual-in_err-append.result c.from_residual-in_err-append.ensures.1 in
    rw (p.1, p.2) (page_stops c.args.index.now c.find_place.new.index (flash c.args.nand.now) (flash c.find_place.new.nand) (flash c.append.new.nand) _ c.args.entries.now (g.met.N.Nand.sound c.append.new.nand) has pages c.in_err-append.ensures.stops)

pub returns-clause-unfrozen : goal.returns-clause-unfrozen
returns-clause-unfrozen g c none pages =
    let flash = g.N.Nand.flash in
    let found = c.in_ok-find_place.ensures in
    let has : HasPlace c.args.index.now c.find_place.new.index (flash c.args.nand.now) (flash c.find_place.new.nand) c.args.entries.now = record { still = λ place. (c.find_place.ensures.still place).0; fresh = found.fresh; stands = found.stands; works = found.unfrozen none } in
    page_works c.args.index.now c.find_place.new.index (flash c.args.nand.now) (flash c.find_place.new.nand) (flash c.append.new.nand) c.args.entries.now (g.met.N.Nand.sound c.append.new.nand) has pages c.in_ok-append.ensures.works

pub returns-in_err-append-clause-usual : goal.returns-in_err-append-clause-usual
returns-in_err-append-clause-usual g c few pages =
    let short = page_with_turn c.find_place.new.index c.args.entries.now pages in
    omega (arith, short, c.find_place.ensures.usual few, c.in_err-append.ensures.stops.counts.ops_at_most)

pub returns-clause-usual : goal.returns-clause-usual
returns-clause-usual g c few pages =
    let short = page_with_turn c.find_place.new.index c.args.entries.now pages in
    omega (arith, short, c.find_place.ensures.usual few, c.in_ok-append.ensures.works.counts.ops_at_most)

pub returns-clause-root : goal.returns-clause-root
returns-clause-root g c none = c.append.ensures.root ∙ c.in_ok-find_place.ensures.root none
