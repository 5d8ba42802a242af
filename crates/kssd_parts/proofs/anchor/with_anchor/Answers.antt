use Rattle.std.proofs.Common.{ap}
use Rattle.nand_mem.specs.Machine.{Mem}
use Rattle.kssd_parts.proofs.anchor.with_anchor.Goals as goal

pub write-requires-clause-last : goal.write-requires-clause-last
write-requires-clause-last c = λ page lt. ap (λ (m : Mem). m.flash.image page) c.in-Ok.ensures
