-- How many operations and reads a collection takes.
use Rattle.std.specs.Prelude.{◌+◌, ◌^◌, ℕ}
use Rattle.kssd_root.specs.Costs.{most_place_cost, usual_place_cost}

-- at most so many operations end a collection: those that make place, 264 for a group, and an erase
abbrev pub most_finish_cost : ℕ → ℕ
most_finish_cost blocks = most_place_cost blocks + 265

-- at most so many operations: 34 to copy a block's pages, those that make place, 264 for a group, and an erase
abbrev pub most_collect_cost : ℕ → ℕ
most_collect_cost blocks = most_place_cost blocks + 299

-- at most so many reads
abbrev pub most_collect_reads : ℕ
most_collect_reads = 2 ^ 64 + 68

-- where level 0 has place for a run more, at most so many operations end a collection: those that make place, a page and a turn, and an erase
abbrev pub usual_finish_cost : ℕ
usual_finish_cost = usual_place_cost + 4

-- and at most so many are a whole collection: 34 copy a block's pages
abbrev pub usual_collect_cost : ℕ
usual_collect_cost = usual_finish_cost + 34
