use Rattle.std.proofs.Common.{arith}
use Rattle.kssd_model.proofs.AnchorSizes.{few_runs}
use Rattle.kssd_anchor.proofs.spelling.data_of.Goals as goal

pub overflow_cast-len : goal.overflow_cast-len
overflow_cast-len c = omega (arith, few_runs c.args.anchor.now.runs, c.requires.room, c.len.ensures)
