use Rattle.kssd_levels.specs.Levels.{StandLevels}
use Rattle.kssd_parts.proofs.compact.all_worked.Given as goal

abbrev pub invariant-loop-work : goal.invariant-loop-work
invariant-loop-work g l = StandLevels l.levels (g.N.Nand.flash l.nand).blocks (g.N.Nand.flash l.nand).image
