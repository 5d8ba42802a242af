use Rattle.std.proofs.Common.{arith}
use Rattle.kssd_engine.proofs.AfterCalls.{up_kept}
use Rattle.kssd_engine.proofs.ssd.Ssd.mount.Goals as goal

pub invariant_of-result : goal.invariant_of-result
invariant_of-result g c = record { kept = up_kept (g.N.Nand.flash c.mount.new.nand) c.in-Ok.mounted c.age-age.result c.in-Ok.ensures.stands (omega (arith, c.age-age.ensures)) }
