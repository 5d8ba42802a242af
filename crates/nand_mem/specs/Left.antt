-- What an operation leaves by its outcome.
use Rattle.std.specs.Prelude.{◌/◌, ◌%◌, ◌==◌, ℕ, List, if◌then◌else◌}
use Rattle.kv_nand.specs.declared.nand.Outcome.{Outcome}
use Rattle.kv_nand.specs.declared.nand.Outcome.TheVariants as outcomes
use Rattle.kv_nand.specs.Flash.{Image, PageState, Erased, Whole, Cut}

-- what a program leaves of its page: with `Part` and `Mix` a cut page
abbrev pub program_left : Outcome → PageState → List ℕ → PageState
program_left outcomes.None old bytes = old
program_left outcomes.Part old bytes = Cut
program_left outcomes.Mix old bytes = Cut
program_left outcomes.All old bytes = Whole bytes

-- what an erase leaves of a page of its block: with `Mix` the even pages erased and the odd ones as they were
abbrev pub erase_left : Outcome → ℕ → PageState → PageState
erase_left outcomes.None page old = old
erase_left outcomes.Part page old = Cut
erase_left outcomes.Mix page old = if page % 2 == 0 then Erased else old
erase_left outcomes.All page old = Erased

-- each page of a block is put in another state
abbrev pub with_block : Image → ℕ → (ℕ → PageState → PageState) → Image
with_block image block f q = if q / 32 == block then f q (image q) else image q
