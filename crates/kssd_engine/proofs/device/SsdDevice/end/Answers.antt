use Rattle.std.proofs.Common.{arith}
use Rattle.kv_device.specs.Calls.{EndFault}
use Rattle.kssd_engine.proofs.AfterCalls.{fallen, kept_up, kept_after, aged_after}
use Rattle.kssd_engine.proofs.Bounding.{usual_by, group_by}
use Rattle.kssd_commit.specs.Ending.{usual_end_cost}
use Rattle.kssd_engine.proofs.device.SsdDevice.end.Goals as goal

pub invariant_of-self : goal.invariant_of-self
invariant_of-self g c = record { kept = kept_up (g.N.Nand.flash c.end.new.nand) c.end.new.mounted c.args.self.now.age c.age_after-self.result c.in-Ok.ensures.stands c.age_after-self.ensures }

pub invariant_of-self-in-Err : goal.invariant_of-self-in-Err
invariant_of-self-in-Err g c = record {
  kept = kept_after c.in-Err.fault (g.N.Nand.flash c.args.self.now.nand) (g.N.Nand.flash c.end.new.nand) c.args.self.now.mounted c.fall.new.mounted c.in-Some.mounted c.end.new.mounted c.args.self.now.age c.age_after-self-in-Err.result 1024 _
      c.in-Some.is c.args.self.now.kept c.end.ensures.leaves (omega arith) c.in-Err.ensures.refused c.fall.ensures c.age_after-self-in-Err.ensures;
}

pub returns-in-Err-clause-err : goal.returns-in-Err-clause-err
returns-in-Err-clause-err g c =
    fallen (λ old new. EndFault old c.args.tx.0 c.in-Err.fault new) c.in-Err.fault (g.N.Nand.flash c.args.self.now.nand) (g.N.Nand.flash c.end.new.nand) c.args.self.now.mounted c.fall.new.mounted c.in-Some.mounted c.end.new.mounted c.in-Some.is c.fall.ensures c.in-Err.ensures.err

pub returns-in-Err-clause-age : goal.returns-in-Err-clause-age
returns-in-Err-clause-age g c =
    let low = c.args.self.now.kept.ages c.in-Some.mounted c.in-Some.is in
    aged_after c.in-Err.fault c.fall.new.mounted c.end.new.mounted c.args.self.now.age c.age_after-self-in-Err.result 1024 _ (λ up. omega (arith, c.end.ensures.ages)) (omega arith) c.fall.ensures c.age_after-self-in-Err.ensures

pub returns-in-Ok-clause-usual : goal.returns-in-Ok-clause-usual
returns-in-Ok-clause-usual g c =
    usual_by (g.N.Nand.flash c.args.self.now.nand) (g.N.Nand.flash c.end.new.nand) c.args.self.now.mounted c.in-Some.mounted c.args.self.now.age usual_end_cost c.in-Some.is c.args.self.now.kept (omega arith) c.end.ensures.usual

pub returns-in-Ok-clause-group : goal.returns-in-Ok-clause-group
returns-in-Ok-clause-group g c =
    group_by (g.N.Nand.flash c.args.self.now.nand) (g.N.Nand.flash c.end.new.nand) c.args.self.now.mounted c.in-Some.mounted c.args.self.now.age c.args.tx.0 c.in-Some.is c.args.self.now.kept c.end.ensures.placed

pub returns-in-Err-clause-usual : goal.returns-in-Err-clause-usual
returns-in-Err-clause-usual g c =
    usual_by (g.N.Nand.flash c.args.self.now.nand) (g.N.Nand.flash c.end.new.nand) c.args.self.now.mounted c.in-Some.mounted c.args.self.now.age usual_end_cost c.in-Some.is c.args.self.now.kept (omega arith) c.end.ensures.usual

pub returns-in-Err-clause-group : goal.returns-in-Err-clause-group
returns-in-Err-clause-group g c =
    group_by (g.N.Nand.flash c.args.self.now.nand) (g.N.Nand.flash c.end.new.nand) c.args.self.now.mounted c.in-Some.mounted c.args.self.now.age c.args.tx.0 c.in-Some.is c.args.self.now.kept c.end.ensures.placed
