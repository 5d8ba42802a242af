use Rattle.std.proofs.Common.{◌≤◌, ap, arith, length}
use Rattle.kssd_parts.proofs.compact.first_free.Goals as goal

pub free_blocks-requires : goal.free_blocks-requires
free_blocks-requires c = (c.job_blocks_suffice.ensures c.args.levels.now).flush (let few = ap length c.level.ensures in omega (arith, c.if-level-gt3.false, few)) 2048 (omega arith)
