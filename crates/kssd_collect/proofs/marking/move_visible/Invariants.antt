use Rattle.kssd_values.specs.declared.mark.Mark.TheVariants.{Visible}
use Rattle.kssd_reclaim.specs.Sources.{is_visible}
use Rattle.kssd_collect.proofs.Moves.{IsMarked}
use Rattle.kssd_collect.proofs.marking.move_visible.Given as goal

abbrev pub invariant-loop-copy : goal.invariant-loop-copy
invariant-loop-copy l = IsMarked is_visible Visible l.fn.reclaim l.fn.values l.copy-index l.values
