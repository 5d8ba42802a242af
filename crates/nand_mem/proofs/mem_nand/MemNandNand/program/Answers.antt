use Rattle.std.proofs.Common.{ap}
use Rattle.nand_mem.proofs.States.{left_by_program}
use Rattle.nand_mem.proofs.mem_nand.MemNandNand.program.Goals as goal

pub returns-clause-left : goal.returns-clause-left
returns-clause-left c = left_by_program _ _ _ c.args.page c.args.from.now c.requires.free.here (ap (λ m. m.flash.image) c.program_page.ensures.exact.after)
