use Rattle.kfs_tx.proofs.Alone.{alone_set}
use Rattle.kfs_tx.proofs.Causes.{set_caused}
use Rattle.kfs_tx.proofs.running.Running.set.Goals as goal

pub invariant_of-self : goal.invariant_of-self
invariant_of-self g c =
    let r = c.self.inside in
    record {
      alone = alone_set (g.D.Device.machine r.device) r.id.0 c.args.key.now c.args.value.now c.set.result _ c.self.invariant.alone c.set.ensures.ok c.set.ensures.err;
      few = c.self.invariant.few;
      light = c.self.invariant.light;
    }

pub returns-clause-cause : goal.returns-clause-cause
returns-clause-cause g c =
    let r = c.self.inside in
    rw (← c.self.view_is) (set_caused (g.D.Device.machine r.device) r.id.0 c.args.key.now c.args.value.now c.set.result _ c.self.invariant.alone c.set.ensures.err)
