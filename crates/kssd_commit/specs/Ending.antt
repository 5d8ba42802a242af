-- What the end of a transaction costs.
use Rattle.std.specs.Prelude.{◌≡◌, ◌≤◌, ◌+◌, ℕ}
use Rattle.kv_nand.specs.Flash.{Flash}
use Rattle.kssd_root.specs.Costs.{most_place_cost, usual_place_cost}

-- no operation was begun
abbrev pub IsUntouched : Flash → Flash → Type 0
IsUntouched old new = new.ops ≡ old.ops

-- at most so many operations: those that make place, and a group that fills 8 blocks, of 31 pages and a turn of two operations each
abbrev pub most_end_cost : ℕ → ℕ
most_end_cost blocks = most_place_cost blocks + 264

-- and so many where level 0 has place for a run more
abbrev pub usual_end_cost : ℕ
usual_end_cost = usual_place_cost + 264

-- at most so many operations of an end were begun
abbrev pub IsEndWithin : Flash → Flash → Type 0
IsEndWithin old new = new.ops ≤ old.ops + most_end_cost old.blocks
