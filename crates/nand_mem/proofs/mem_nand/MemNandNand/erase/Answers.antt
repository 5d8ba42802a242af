use Rattle.std.proofs.Common.{ap}
use Rattle.nand_mem.proofs.States.{left_by_erase}
use Rattle.nand_mem.proofs.mem_nand.MemNandNand.erase.Goals as goal

pub returns-clause-left : goal.returns-clause-left
returns-clause-left c = left_by_erase _ _ _ c.args.block (ap (λ m. m.flash.image) c.erase_pages.ensures.exact.after)
