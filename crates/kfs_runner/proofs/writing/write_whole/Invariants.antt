use Rattle.std.proofs.Common.{◌≡◌, ◌++◌, ℕ, List, length}
use Rattle.kfs_runner.specs.Outside.{Takes}
use Rattle.kfs_runner.proofs.writing.write_whole.Given as goal

abbrev pub invariant-loop-rest : goal.invariant-loop-rest
invariant-loop-rest g l = (done : List ℕ) × (l.fn.text ≡ done ++ l.rest) × Takes (g.O.Sink.side l.initial.out).bytes done (g.O.Sink.side l.out).bytes × ((g.O.Sink.side l.out).faults ≡ (g.O.Sink.side l.initial.out).faults)

abbrev pub decreases-loop-rest : goal.decreases-loop-rest
decreases-loop-rest g l = length l.rest
