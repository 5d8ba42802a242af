use Rattle.kssd_machine.proofs.Grouping.{ordered, rises, same_outcome, same_size, few_moves, objects_kept, keys_kept, pages_kept}
use Rattle.kssd_machine.proofs.collecting.moves_are_a_group.Goals as goal

pub returns : goal.returns
returns c = record {
  ordered = ordered;
  rising = rises;
  same = same_outcome;
  size = same_size;
  few = few_moves;
  objects = objects_kept;
  keys = keys_kept;
  pages = pages_kept;
}
