use Rattle.std.proofs.Common.{◌+◌, arith}
use Rattle.kssd_mounted.specs.Standing.{mounted_age}
use Rattle.kssd_store.proofs.Leaving.{still_leaves}
use Rattle.kssd_store.proofs.room.make_room.Goals as goal

pub returns-clause-leaves : goal.returns-clause-leaves
returns-clause-leaves g c = still_leaves c.args.mounted.now (g.N.Nand.flash c.args.nand.now) (mounted_age c.args.mounted.now + 1024) c.requires.stands (omega arith)
