use Rattle.std.proofs.Common.{◌≡◌, ◌++◌, take}
use Rattle.kssd_model.specs.AnchorSpelling.{blocks_bytes}
use Rattle.kssd_anchor.proofs.spelling.add_blocks.Given as goal

abbrev pub invariant-loop-block : goal.invariant-loop-block
invariant-loop-block l = l.bytes ≡ l.initial.bytes ++ blocks_bytes (take l.block-index l.blocks)
