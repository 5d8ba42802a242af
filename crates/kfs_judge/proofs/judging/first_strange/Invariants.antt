use Rattle.std.proofs.Common.{◌≡◌, ℕ, ◌<◌, false, Some, slice_get}
use Rattle.kfs_judge.specs.declared.row.Row.{Row}
use Rattle.kfs_judge.specs.Judged.{is_strange}
use Rattle.kfs_judge.proofs.judging.first_strange.Given as goal

-- none of the rows so far is strange
abbrev pub invariant-loop-place : goal.invariant-loop-place
invariant-loop-place l = (i : ℕ) (row : Row) → i < l.place → slice_get l.rows i ≡ Some row → is_strange row ≡ false
