use Rattle.std.proofs.Common.{◌≡◌, ◌-◌}
use Rattle.std.specs.Int.{w16}
use Rattle.kssd_model.specs.AnchorReading.{number_at, many_at}
use Rattle.kssd_anchor.proofs.Many.{with_front}
use Rattle.kssd_anchor.proofs.reading.blocks_of.Given as goal

abbrev pub invariant-loop-i : goal.invariant-loop-i
invariant-loop-i l = with_front l.blocks (many_at (number_at w16) (l.count - l.i) l.rest) ≡ many_at (number_at w16) l.count l.bytes
