use Rattle.std.proofs.Common.{◌≡◌, ◌≤◌, ◌<◌, ℕ}
use Rattle.nand_mem.specs.Slots.{image_of}
use Rattle.nand_mem.specs.Left.{erase_left}
use Rattle.nand_mem.proofs.changing.erase_block.Given as goal

abbrev pub invariant-loop-page : goal.invariant-loop-page
invariant-loop-page l =
    record {
      done : (q : ℕ) → l.start ≤ q → q < l.page → image_of l.slots q ≡ erase_left l.outcome q (image_of l.initial.slots q);
      below : (q : ℕ) → q < l.start → image_of l.slots q ≡ image_of l.initial.slots q;
      above : (q : ℕ) → l.page ≤ q → image_of l.slots q ≡ image_of l.initial.slots q;
    }
