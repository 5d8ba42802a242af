use Rattle.kv_device.specs.Calls.{BeginDone, BeginFault}
use Rattle.kssd_mounted.specs.Standing.{machine_at}
use Rattle.kssd_engine.proofs.AfterCalls.{done, fallen, up_still, kept_still}
use Rattle.kssd_engine.proofs.device.SsdDevice.begin.Goals as goal

pub invariant_of-self : goal.invariant_of-self
invariant_of-self g c = record { kept = up_still (g.N.Nand.flash c.args.self.now.nand) c.args.self.now.mounted c.in-Some.mounted c.begin.new.self c.args.self.now.age c.in-Some.is c.args.self.now.kept c.begin.ensures.stands c.begin.ensures.index }

pub returns-in-Ok-clause-ok : goal.returns-in-Ok-clause-ok
returns-in-Ok-clause-ok g c = done (λ now. BeginDone now c.in-Ok.tx.0 (machine_at (g.N.Nand.flash c.args.self.now.nand) c.begin.new.self)) (g.N.Nand.flash c.args.self.now.nand) c.args.self.now.mounted c.in-Some.mounted c.in-Some.is c.in-Ok.ensures.ok

pub invariant_of-self-in-Err : goal.invariant_of-self-in-Err
invariant_of-self-in-Err g c = record {
  kept = kept_still c.in-Err.fault (g.N.Nand.flash c.args.self.now.nand) c.args.self.now.mounted c.fall.new.mounted c.in-Some.mounted c.begin.new.self c.args.self.now.age c.in-Some.is c.args.self.now.kept c.begin.ensures.stands c.begin.ensures.index c.fall.ensures;
}

pub returns-in-Err-clause-err : goal.returns-in-Err-clause-err
returns-in-Err-clause-err g c =
    fallen (λ old new. BeginFault old c.in-Err.fault new) c.in-Err.fault (g.N.Nand.flash c.args.self.now.nand) (g.N.Nand.flash c.args.self.now.nand) c.args.self.now.mounted c.fall.new.mounted c.in-Some.mounted c.begin.new.self c.in-Some.is c.fall.ensures c.in-Err.ensures.err
