use Rattle.std.proofs.Common.{◌≡◌, ◌-◌}
use Rattle.kssd_model.specs.AnchorReading.{many_at, run_at}
use Rattle.kssd_anchor.proofs.Many.{with_front}
use Rattle.kssd_anchor.proofs.reading.runs_of.Given as goal

abbrev pub invariant-loop-i : goal.invariant-loop-i
invariant-loop-i l = with_front l.runs (many_at run_at (l.count - l.i) l.rest) ≡ many_at run_at l.count l.bytes
