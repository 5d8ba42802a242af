use Rattle.std.proofs.Common.{◌≡◌, ◌≤◌, ◌<◌, ◌-◌, length, vec_len}
use Rattle.kfs_runner.specs.Outside.{Gives}
use Rattle.kfs_runner.proofs.reading.read_to_end.Given as goal

abbrev pub invariant-loop-piece : goal.invariant-loop-piece
invariant-loop-piece g l = record {
  given : Gives (g.S.Source.side l.initial.source).bytes l.text (g.S.Source.side l.source).bytes;
  limit : length l.text ≤ 16777216;
  steady : (g.S.Source.side l.source).faults ≡ (g.S.Source.side l.initial.source).faults;
  size : 0 < vec_len l.piece;
}

abbrev pub decreases-loop-piece : goal.decreases-loop-piece
decreases-loop-piece g l = 16777216 - length l.text
