use Rattle.std.proofs.Common.{◌∙◌, sym, Some, None}
use Rattle.kssd_machine.proofs.Seeing.{own_valued}
use Rattle.kssd_views.proofs.Single.{value_seen}
use Rattle.kssd_views.proofs.getting.get.Goals as goal

pub value_of-requires-clause-valued : goal.value_of-requires-clause-valued
value_of-requires-clause-valued g c = own_valued _ _ c.args.changes.now c.args.tx.0 c.args.key.now c.in-Some.entry.now c.requires.pending (sym c.in-Some.ensures.value)

pub returns-in_ok-value-in-Some-clause-value : goal.returns-in_ok-value-in-Some-clause-value
returns-in_ok-value-in-Some-clause-value g c = c.in_ok-value-in-Some.ensures.value ∙ value_seen (g.N.Nand.flash c.args.nand.now) c.args.changes.now c.args.tx.0 c.args.key.now (Some c.in-Some.entry.now) c.requires.rising c.in-Some.ensures.value

pub returns-in_ok-value-in-None-clause-value : goal.returns-in_ok-value-in-None-clause-value
returns-in_ok-value-in-None-clause-value g c = c.in_ok-value-in-None.ensures.value ∙ value_seen (g.N.Nand.flash c.args.nand.now) c.args.changes.now c.args.tx.0 c.args.key.now None c.requires.rising c.in-None.ensures.value
