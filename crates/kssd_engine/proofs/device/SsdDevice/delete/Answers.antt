use Rattle.kv_device.specs.Calls.{DeleteDone, DeleteFault}
use Rattle.kssd_mounted.specs.Standing.{machine_at}
use Rattle.kssd_engine.proofs.AfterCalls.{done, fallen, up_still, kept_still}
use Rattle.kssd_engine.proofs.device.SsdDevice.delete.Goals as goal

pub invariant_of-self : goal.invariant_of-self
invariant_of-self g c = record { kept = up_still (g.N.Nand.flash c.args.self.now.nand) c.args.self.now.mounted c.in-Some.mounted c.delete.new.self c.args.self.now.age c.in-Some.is c.args.self.now.kept c.delete.ensures.stands c.delete.ensures.index }

pub returns-in-Ok-clause-ok : goal.returns-in-Ok-clause-ok
returns-in-Ok-clause-ok g c = done (λ now. DeleteDone now c.args.tx.0 c.args.key.now (machine_at (g.N.Nand.flash c.args.self.now.nand) c.delete.new.self)) (g.N.Nand.flash c.args.self.now.nand) c.args.self.now.mounted c.in-Some.mounted c.in-Some.is c.in-Ok.ensures.ok

pub invariant_of-self-in-Err : goal.invariant_of-self-in-Err
invariant_of-self-in-Err g c = record {
  kept = kept_still c.in-Err.fault (g.N.Nand.flash c.args.self.now.nand) c.args.self.now.mounted c.fall.new.mounted c.in-Some.mounted c.delete.new.self c.args.self.now.age c.in-Some.is c.args.self.now.kept c.delete.ensures.stands c.delete.ensures.index c.fall.ensures;
}

pub returns-in-Err-clause-err : goal.returns-in-Err-clause-err
returns-in-Err-clause-err g c =
    fallen (λ old new. DeleteFault old c.args.tx.0 c.args.key.now c.in-Err.fault new) c.in-Err.fault (g.N.Nand.flash c.args.self.now.nand) (g.N.Nand.flash c.args.self.now.nand) c.args.self.now.mounted c.fall.new.mounted c.in-Some.mounted c.delete.new.self c.in-Some.is c.fall.ensures c.in-Err.ensures.err
