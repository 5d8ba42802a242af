use Rattle.kssd_machine.proofs.Moving.{targets_kept, moves_are, block_left_empty, repointed_same}
use Rattle.kssd_machine.proofs.collecting.collections_move.Goals as goal

pub returns : goal.returns
returns c = record {
  step = targets_kept;
  moves = moves_are;
  left = block_left_empty;
  repointed = repointed_same;
}
