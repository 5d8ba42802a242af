use Rattle.std.proofs.Common.{◌∙◌, sym, ap}
use Rattle.kssd_views.specs.Seen.{seen_value}
use Rattle.kssd_views.proofs.Single.{found_valued, found_seen}
use Rattle.kssd_views.proofs.getting.visible_value.Goals as goal

pub value_of-requires-clause-valued : goal.value_of-requires-clause-valued
value_of-requires-clause-valued g c = found_valued (g.N.Nand.flash c.args.nand.now) (g.N.Nand.flash c.find.new.nand) c.args.key.now c.in_ok-found.found c.in-Some.entry c.requires.visible c.in_ok-found.ensures.reads c.in_ok-found.ensures.found c.in-Some.is

pub returns-in_ok-value-in-Some-clause-value : goal.returns-in_ok-value-in-Some-clause-value
returns-in_ok-value-in-Some-clause-value g c = found_seen (g.N.Nand.flash c.args.nand.now) (g.N.Nand.flash c.find.new.nand) c.args.key.now c.in_ok-found.found c.in-Some.entry c.in_ok-value-in-Some.value c.in_ok-found.ensures.reads c.in_ok-found.ensures.found c.in-Some.is c.in_ok-value-in-Some.ensures.value

pub returns-in-None-clause-value : goal.returns-in-None-clause-value
returns-in-None-clause-value g c = ap (seen_value (g.N.Nand.flash c.args.nand.now).image) (sym c.in-None.is ∙ c.in_ok-found.ensures.found)
