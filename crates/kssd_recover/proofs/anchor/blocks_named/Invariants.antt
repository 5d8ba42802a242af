use Rattle.std.proofs.Common.{◌≡◌, take}
use Rattle.kssd_image.specs.AnchorForm.{blocks_of}
use Rattle.kssd_recover.proofs.anchor.blocks_named.Given as goal

abbrev pub invariant-loop-run : goal.invariant-loop-run
invariant-loop-run l = l.blocks.items ≡ blocks_of (take l.run-index l.runs)
