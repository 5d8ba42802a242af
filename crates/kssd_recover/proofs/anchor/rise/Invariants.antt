use Rattle.std.proofs.Common.{◌≡◌, drop}
use Rattle.kssd_recover.specs.Anchor.{are_in_order}
use Rattle.kssd_recover.proofs.anchor.rise.Given as goal

abbrev pub invariant-loop-i : goal.invariant-loop-i
invariant-loop-i l = are_in_order (drop l.i l.runs) ≡ are_in_order l.runs
