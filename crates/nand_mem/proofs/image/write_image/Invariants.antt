use Rattle.std.proofs.Common.{◌≡◌, ◌++◌}
use Rattle.nand_mem.specs.Slots.{image_of}
use Rattle.nand_mem.specs.ImageFile.{header, pages_bytes}
use Rattle.nand_mem.proofs.image.write_image.Given as goal

abbrev pub invariant-loop-slot : goal.invariant-loop-slot
invariant-loop-slot l = l.out ≡ header l.blocks ++ pages_bytes (image_of l.slots) l.slot-index
