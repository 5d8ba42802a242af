use Rattle.std.proofs.Common.{arith}
use Rattle.kv_device.specs.Calls.{SetFault}
use Rattle.kssd_engine.proofs.AfterCalls.{fallen, kept_up, kept_after, aged_after, aged_up, set_within, set_little}
use Rattle.kssd_engine.proofs.Bounding.{usual_by}
use Rattle.kssd_store.specs.Setting.{usual_set_cost}
use Rattle.kssd_engine.proofs.device.SsdDevice.set.Goals as goal

pub invariant_of-self : goal.invariant_of-self
invariant_of-self g c = record { kept = kept_up (g.N.Nand.flash c.set.new.nand) c.set.new.mounted c.args.self.now.age c.age_after-self.result c.in-Ok.ensures.stands c.age_after-self.ensures }

pub invariant_of-self-in-Err : goal.invariant_of-self-in-Err
invariant_of-self-in-Err g c = record {
  kept = kept_after c.in-Err.fault (g.N.Nand.flash c.args.self.now.nand) (g.N.Nand.flash c.set.new.nand) c.args.self.now.mounted c.fall.new.mounted c.in-Some.mounted c.set.new.mounted c.args.self.now.age c.age_after-self-in-Err.result c.set_rise-rise.result _
      c.in-Some.is c.args.self.now.kept c.set.ensures.leaves (omega arith) c.in-Err.ensures.refused c.fall.ensures c.age_after-self-in-Err.ensures;
}

pub returns-in-Err-clause-err : goal.returns-in-Err-clause-err
returns-in-Err-clause-err g c =
    fallen (λ old new. SetFault old c.args.tx.0 c.args.key.now c.args.value.now c.in-Err.fault new) c.in-Err.fault (g.N.Nand.flash c.args.self.now.nand) (g.N.Nand.flash c.set.new.nand) c.args.self.now.mounted c.fall.new.mounted c.in-Some.mounted c.set.new.mounted c.in-Some.is c.fall.ensures c.in-Err.ensures.err

pub returns-in-Err-clause-age : goal.returns-in-Err-clause-age
returns-in-Err-clause-age g c =
    let low = c.args.self.now.kept.ages c.in-Some.mounted c.in-Some.is in
    aged_after c.in-Err.fault c.fall.new.mounted c.set.new.mounted c.args.self.now.age c.age_after-self-in-Err.result c.set_rise-rise.result _ (λ up. omega (arith, c.in-Err.ensures.ages_refused up)) (omega (arith, set_within c.args.value.now)) c.fall.ensures c.age_after-self-in-Err.ensures

pub age_after-self-requires : goal.age_after-self-requires
age_after-self-requires g c = omega (arith, set_little c.args.value.now)

pub age_after-self-requires-in-Err : goal.age_after-self-requires-in-Err
age_after-self-requires-in-Err g c = omega (arith, set_little c.args.value.now)

pub returns-in-Ok-clause-age : goal.returns-in-Ok-clause-age
returns-in-Ok-clause-age g c =
    let low = c.args.self.now.kept.ages c.in-Some.mounted c.in-Some.is in
    aged_up c.set.new.mounted c.args.self.now.age c.age_after-self.result c.set_rise-rise.result _ (omega (arith, c.in-Ok.ensures.ages)) (omega (arith, set_within c.args.value.now)) c.age_after-self.ensures

pub returns-in-Ok-clause-usual : goal.returns-in-Ok-clause-usual
returns-in-Ok-clause-usual g c =
    usual_by (g.N.Nand.flash c.args.self.now.nand) (g.N.Nand.flash c.set.new.nand) c.args.self.now.mounted c.in-Some.mounted c.args.self.now.age usual_set_cost c.in-Some.is c.args.self.now.kept (omega arith) c.set.ensures.usual

pub returns-in-Err-clause-usual : goal.returns-in-Err-clause-usual
returns-in-Err-clause-usual g c =
    usual_by (g.N.Nand.flash c.args.self.now.nand) (g.N.Nand.flash c.set.new.nand) c.args.self.now.mounted c.in-Some.mounted c.args.self.now.age usual_set_cost c.in-Some.is c.args.self.now.kept (omega arith) c.set.ensures.usual
