use Rattle.std.proofs.Common.{arith}
use Rattle.kv_device.specs.Calls.{WorkFault}
use Rattle.kssd_engine.proofs.AfterCalls.{fallen, kept_up, kept_after, aged_after}
use Rattle.kssd_engine.proofs.device.SsdDevice.work.Goals as goal

pub invariant_of-self : goal.invariant_of-self
invariant_of-self g c = record { kept = kept_up (g.N.Nand.flash c.work_on.new.nand) c.work_on.new.mounted c.args.self.now.age c.age_after-self.result c.in-Ok.ensures.stands c.age_after-self.ensures }

pub invariant_of-self-in-Err : goal.invariant_of-self-in-Err
invariant_of-self-in-Err g c = record {
  kept = kept_after c.in-Err.fault (g.N.Nand.flash c.args.self.now.nand) (g.N.Nand.flash c.work_on.new.nand) c.args.self.now.mounted c.fall.new.mounted c.in-Some.mounted c.work_on.new.mounted c.args.self.now.age c.age_after-self-in-Err.result 4096 _
      c.in-Some.is c.args.self.now.kept c.work_on.ensures.leaves (omega arith) c.in-Err.ensures.refused c.fall.ensures c.age_after-self-in-Err.ensures;
}

pub returns-in-Err-clause-err : goal.returns-in-Err-clause-err
returns-in-Err-clause-err g c =
    fallen (λ old new. WorkFault old c.in-Err.fault new) c.in-Err.fault (g.N.Nand.flash c.args.self.now.nand) (g.N.Nand.flash c.work_on.new.nand) c.args.self.now.mounted c.fall.new.mounted c.in-Some.mounted c.work_on.new.mounted c.in-Some.is c.fall.ensures c.in-Err.ensures.err

pub returns-in-Err-clause-age : goal.returns-in-Err-clause-age
returns-in-Err-clause-age g c =
    let low = c.args.self.now.kept.ages c.in-Some.mounted c.in-Some.is in
    aged_after c.in-Err.fault c.fall.new.mounted c.work_on.new.mounted c.args.self.now.age c.age_after-self-in-Err.result 4096 _ (λ up. omega (arith, c.work_on.ensures.ages)) (omega arith) c.fall.ensures c.age_after-self-in-Err.ensures
