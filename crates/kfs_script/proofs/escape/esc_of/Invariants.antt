use Rattle.std.proofs.Common.{◌≡◌, length}
use Rattle.kfs_script.specs.Script.{esc_of}
use Rattle.kfs_script.proofs.EscapeLaws.{with_front}
use Rattle.kfs_script.proofs.escape.esc_of.Given as goal

abbrev pub invariant-loop-rest : goal.invariant-loop-rest
invariant-loop-rest l = with_front l.text (esc_of l.rest) ≡ esc_of l.word

abbrev pub decreases-loop-rest : goal.decreases-loop-rest
decreases-loop-rest l = length l.rest
