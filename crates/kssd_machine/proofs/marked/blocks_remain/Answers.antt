use Rattle.kssd_machine.proofs.Remaining.{block_at_first, block_after_put, block_after_copy, block_after_clear, block_after_mark}
use Rattle.kssd_machine.proofs.marked.blocks_remain.Goals as goal

pub returns : goal.returns
returns c = record { mount = block_at_first; put = block_after_put; copy = block_after_copy; clear = block_after_clear; mark = block_after_mark }
