use Rattle.std.proofs.Common.{◌≡◌, subst}
use Rattle.kv_device.specs.Calls.{GetDone, ReadFault}
use Rattle.kssd_mounted.specs.Standing.{machine_at}
use Rattle.kssd_engine.specs.Keeping.{machine_in, mounted_after}
use Rattle.kssd_engine.proofs.AfterCalls.{done, fallen, kept_read, kept_fallen}
use Rattle.kssd_engine.proofs.Bounding.{below_by}
use Rattle.kssd_engine.proofs.device.SsdDevice.get.Goals as goal

pub invariant_of-self : goal.invariant_of-self
invariant_of-self g c = record { kept = kept_read (g.N.Nand.flash c.args.self.now.nand) (g.N.Nand.flash c.get.new.nand) c.args.self.now.mounted c.in-Some.mounted c.args.self.now.age c.in-Some.is c.args.self.now.kept c.in-Ok.ensures.stands }

pub returns-in-Ok-clause-ok : goal.returns-in-Ok-clause-ok
returns-in-Ok-clause-ok g c =
    done (λ now. GetDone (machine_in (g.N.Nand.flash c.args.self.now.nand) c.args.self.now.mounted) c.args.tx.0 c.args.key.now c.in-Ok.value now) (g.N.Nand.flash c.get.new.nand) c.args.self.now.mounted c.in-Some.mounted c.in-Some.is
    (done (λ now. GetDone now c.args.tx.0 c.args.key.now c.in-Ok.value (machine_at (g.N.Nand.flash c.get.new.nand) c.in-Some.mounted)) (g.N.Nand.flash c.args.self.now.nand) c.args.self.now.mounted c.in-Some.mounted c.in-Some.is c.in-Ok.ensures.ok)

pub invariant_of-self-in-Err : goal.invariant_of-self-in-Err
invariant_of-self-in-Err g c = record {
  kept = kept_fallen c.in-Err.fault (g.N.Nand.flash c.args.self.now.nand) (g.N.Nand.flash c.get.new.nand) c.args.self.now.mounted c.fall.new.mounted c.in-Some.mounted c.args.self.now.age c.in-Some.is c.args.self.now.kept c.get.ensures.leaves c.in-Err.ensures.kept c.fall.ensures;
}

pub returns-in-Err-clause-err : goal.returns-in-Err-clause-err
returns-in-Err-clause-err g c =
    fallen (λ old new. ReadFault old c.args.tx.0 c.in-Err.fault new) c.in-Err.fault (g.N.Nand.flash c.args.self.now.nand) (g.N.Nand.flash c.get.new.nand) c.args.self.now.mounted c.fall.new.mounted c.in-Some.mounted c.in-Some.mounted c.in-Some.is
    (subst (λ o. c.fall.new.mounted ≡ mounted_after c.in-Err.fault o) c.in-Some.is c.fall.ensures) c.in-Err.ensures.err

pub returns-in-Ok-clause-below : goal.returns-in-Ok-clause-below
returns-in-Ok-clause-below g c some own logged =
    below_by (g.N.Nand.flash c.args.self.now.nand) c.args.self.now.mounted c.in-Some.mounted c.args.self.now.age c.args.tx.0 c.args.key.now _ c.in-Some.is c.args.self.now.kept own logged (c.in-Ok.ensures.below some)
