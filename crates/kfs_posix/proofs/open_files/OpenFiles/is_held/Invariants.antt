use Rattle.std.proofs.Common.{◌≢◌, ℕ, ◌<◌, Some, None}
use Rattle.std.specs.Prelude.{slice_index_or}
use Rattle.kfs_posix.proofs.open_files.OpenFiles.is_held.Given as goal

-- no slot before has the number
abbrev pub invariant-loop-slot : goal.invariant-loop-slot
invariant-loop-slot l = (i : ℕ) → i < l.slot-index → slice_index_or l.slot-items i None ≢ Some l.number
