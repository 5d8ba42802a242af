use Rattle.kssd_values.proofs.Victims.{none_from}
use Rattle.kssd_values.proofs.values.Values.victim.Goals as goal

pub returns-clause-none : goal.returns-clause-none
returns-clause-none c =
    none_from c.args.self.now c.loop-block.block c.loop-block.fewest c.loop-block.victim c.loop-block.invariant.best c.loop-block.invariant.least c.loop-block-test.false
