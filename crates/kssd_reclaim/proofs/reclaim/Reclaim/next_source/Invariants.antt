use Rattle.kssd_reclaim.proofs.Collecting.{NoneBelow}
use Rattle.kssd_reclaim.proofs.reclaim.Reclaim.next_source.Given as goal

abbrev pub invariant-loop-place : goal.invariant-loop-place
invariant-loop-place l = NoneBelow l.values l.self.block l.self.next l.place
