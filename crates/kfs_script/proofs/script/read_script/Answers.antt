use Rattle.std.proofs.Common.{arith}
use Rattle.kfs_script.proofs.ScriptLaws.{begins}
use Rattle.kfs_script.proofs.script.read_script.Goals as goal

pub loop-rest-init : goal.loop-rest-init
loop-rest-init c = record { told = rw c.new-script.ensures (begins c.args.bytes.now); small = omega arith }
