-- How many operations jobs and anchors take.
use Rattle.std.specs.Prelude.{◌+◌, ◌*◌, ℕ}
use Rattle.kssd_layout.specs.Numbers.{base_blocks_in}
use Rattle.kssd_levels.specs.declared.kind.JobKind.{JobKind}
use Rattle.kssd_levels.specs.declared.kind.JobKind.TheVariants.{Flush, Zero, One, Collect}

-- at most so many operations write the run of a job: a page for 9 of its entries, and a block for 32 pages; a flush has at most 2,048 entries, a merge of level 0 at most 12,288, and one of level 1 at most so many and a whole base
abbrev pub run_cost : JobKind → ℕ → ℕ
run_cost Flush blocks = 236
run_cost Zero blocks = 1409
run_cost One blocks = 1409 + 33 * base_blocks_in blocks
run_cost Collect blocks = 0

-- and so many with the anchor that names it
abbrev pub merge_cost : JobKind → ℕ → ℕ
merge_cost kind blocks = run_cost kind blocks + 2

-- at most so many operations make place: those of two merges and a flush with an anchor each, and a turn of the ring
abbrev pub most_place_cost : ℕ → ℕ
most_place_cost blocks = 33 * base_blocks_in blocks + 3062

-- at most so many operations make place where level 0 has place for a run more: those of a flush with its anchor, and a turn of the ring
abbrev pub usual_place_cost : ℕ
usual_place_cost = 240
