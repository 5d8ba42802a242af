use Rattle.std.proofs.Common.{◌≡◌, drop}
use Rattle.kssd_recover.specs.Anchor.{are_distinct}
use Rattle.kssd_recover.proofs.anchor.differ.Given as goal

abbrev pub invariant-loop-i : goal.invariant-loop-i
invariant-loop-i l = are_distinct (drop l.i l.numbers) ≡ are_distinct l.numbers
