use Rattle.kssd_values.specs.declared.mark.Mark.TheVariants.{Pending}
use Rattle.kssd_machine.specs.Marked.{is_pending}
use Rattle.kssd_collect.proofs.Moves.{IsMarked, AreFollowed}
use Rattle.kssd_collect.proofs.marking.move_pending.Given as goal

abbrev pub invariant-loop-copy : goal.invariant-loop-copy
invariant-loop-copy l = record {
  marks : IsMarked is_pending Pending l.fn.reclaim l.fn.values l.copy-index l.values;
  lists : AreFollowed l.fn.reclaim l.fn.values l.fn.changes l.values l.changes;
}
