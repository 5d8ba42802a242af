use Rattle.std.proofs.Common.{◌≡◌, ◌++◌}
use Rattle.nand_mem.specs.Slots.{image_of}
use Rattle.nand_mem.specs.ImageFile.{pages_bytes}
use Rattle.nand_mem.proofs.image.read_pages.Given as goal

abbrev pub invariant-loop-page : goal.invariant-loop-page
invariant-loop-page l = l.bytes ≡ pages_bytes (image_of l.slots) l.page ++ l.rest
