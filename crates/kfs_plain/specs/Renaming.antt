-- The parts of what is judged of a rename.
use Rattle.std.specs.Prelude.{ℕ, List, ◌&&◌, ◌||◌, not, Result, Ok, is_some}
use Rattle.kfs_path.specs.declared.call.Errno.{Errno}
use Rattle.kfs_path.specs.declared.call.Errno.TheVariants.{ENOENT, ENOTDIR, EINVAL, EISDIR, ENOTEMPTY, EBUSY}
use Rattle.kfs_path.specs.declared.call.Reply.TheVariants as replies
use Rattle.kfs_model.specs.Ladder.{◌>>=◌, ◌>>◌, ◌when◌}
use Rattle.kfs_model.specs.Tree.{Place, Tree, below, walk, without_place}
use Rattle.kfs_model.specs.Step.{World, After, Route, ends_in_dots, is_root, is_there, is_dir, is_file, isnt_empty, rmdir_at, leaves_swept}

-- the place that a rename is from
abbrev pub rename_from : Tree → Route → Route → Result Place Errno
rename_from t from to = do
  EINVAL when (ends_in_dots from.pieces || ends_in_dots to.pieces)
  EBUSY when (is_root from.pieces || is_root to.pieces)
  p ← walk t from.pieces
  ENOENT when not (is_there t p)
  ENOTDIR when (from.trailing && is_file t p)
  Ok p

-- the place that it is to
abbrev pub rename_to : Tree → Place → Route → Result Place Errno
rename_to t p to = do
  q ← walk t to.pieces
  ENOTDIR when (is_file t p && to.trailing && not (is_dir t q))
  Ok q

-- whether the new place may take the old one
abbrev pub judge_rename : Tree → Place → Place → Result (Unit {0}) Errno
judge_rename t p q = do
  EINVAL when is_some (below p q)
  ENOTDIR when (is_dir t p && is_file t q)
  EISDIR when (is_file t p && is_dir t q)
  ENOTEMPTY when isnt_empty t q
  Ok tt

-- an empty directory goes
abbrev pub rmdir : World → List ℕ → Result After Errno
rmdir w path = rmdir_at w.tree path >>= λ place. leaves_swept w (without_place w.tree place) replies.Done
