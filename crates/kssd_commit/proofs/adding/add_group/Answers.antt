use Rattle.std.proofs.Common.{◌∙◌, sym, arith}
use Rattle.kssd_root.specs.Costs.{most_place_cost}
use Rattle.kssd_index.specs.Costs.{group_cost}
use Rattle.kssd_commit.proofs.Grouped.{few_for_group, kept_then_either, stops_then, group_within}
use Rattle.kssd_commit.proofs.adding.add_group.Goals as goal

pub returns-clause-kept : goal.returns-clause-kept
returns-clause-kept g c =
    let flash = g.N.Nand.flash in
    kept_then_either (flash c.args.nand.now) (flash c.make_place.new.nand) (flash c.append-2.new.nand) _ _ c.args.entries.now c.in_ok-make_place.ensures.works c.in_ok-make_place.ensures.kept c.append-2.ensures.kept

pub returns-clause-stops : goal.returns-clause-stops
returns-clause-stops g c =
    let flash = g.N.Nand.flash in
    stops_then (flash c.args.nand.now) (flash c.make_place.new.nand) (flash c.append-2.new.nand) c.append-2.result (most_place_cost (flash c.args.nand.now).blocks) (group_cost c.make_place.new.self c.args.entries.now) c.in_ok-make_place.ensures.works
    (few_for_group c.make_place.new.self (flash c.make_place.new.nand).blocks (flash c.make_place.new.nand).image c.args.entries.now c.in_ok-make_place.ensures.stands c.in_ok-make_place.ensures.place)
    c.append-2.ensures.stops

pub returns-then-has_place-clause-placed : goal.returns-then-has_place-clause-placed
returns-then-has_place-clause-placed g c place =
    let flash = g.N.Nand.flash in
    group_within (flash c.args.nand.now) (flash c.append.new.nand) c.append.result (group_cost c.args.index.now c.args.entries.now) c.append.ensures.works c.append.ensures.stops

pub returns-then-has_place-clause-usual : goal.returns-then-has_place-clause-usual
returns-then-has_place-clause-usual g c low =
    let old = g.N.Nand.flash c.args.nand.now in
    let index = c.args.index.now in
    let few = few_for_group index old.blocks old.image c.args.entries.now c.requires.stands (sym c.has_place.ensures ∙ c.if-has_place.true) in
    omega (arith, few, group_within old (g.N.Nand.flash c.append.new.nand) c.append.result (group_cost index c.args.entries.now) c.append.ensures.works c.append.ensures.stops)

pub returns-clause-usual : goal.returns-clause-usual
returns-clause-usual g c low =
    let mid = g.N.Nand.flash c.make_place.new.nand in
    let index = c.make_place.new.self in
    let few = few_for_group index mid.blocks mid.image c.args.entries.now c.in_ok-make_place.ensures.stands c.in_ok-make_place.ensures.place in
    omega (arith, few, c.make_place.ensures.usual low, group_within mid (g.N.Nand.flash c.append-2.new.nand) c.append-2.result (group_cost index c.args.entries.now) c.append-2.ensures.works c.append-2.ensures.stops)
