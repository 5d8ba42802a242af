use Rattle.std.proofs.Common.{◌≡◌, take, true}
use Rattle.kssd_model.specs.Rising.{is_rising}
use Rattle.kssd_run.proofs.judge.rises.Given as goal

abbrev pub invariant-loop-i : goal.invariant-loop-i
invariant-loop-i l = is_rising (take l.i l.entries) ≡ true
