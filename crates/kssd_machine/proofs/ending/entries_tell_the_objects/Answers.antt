use Rattle.kssd_machine.proofs.Finishing.{objects_same, objects_after, objects_either, whole_either, values_whole, all_valued, pending_kept}
use Rattle.kssd_machine.proofs.ending.entries_tell_the_objects.Goals as goal

pub returns : goal.returns
returns c = record {
  same = objects_same;
  after = objects_after;
  either = objects_either;
  whole = whole_either;
  values = values_whole;
  valued = all_valued;
  pending = pending_kept;
}
