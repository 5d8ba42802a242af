use Rattle.kssd_work.proofs.Rounds.{IsGoingOn}
use Rattle.kssd_work.proofs.working.work.Given as goal

abbrev pub invariant-loop-round : goal.invariant-loop-round
invariant-loop-round g l = IsGoingOn l.fn.mounted (g.N.Nand.flash l.fn.nand) l.fn.operations l._round l.left l.mounted (g.N.Nand.flash l.nand)
