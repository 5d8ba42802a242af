use Rattle.kfs_runner.proofs.LineCount.{few_lines}
use Rattle.kfs_runner.proofs.running.run_script.Goals as goal

pub run_lines-requires : goal.run_lines-requires
run_lines-requires g c = record { few = few_lines c.args.bytes.now c.in-Ok.script c.requires c.in-Ok.ensures }
