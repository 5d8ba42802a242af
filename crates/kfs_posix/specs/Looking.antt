-- What a path names, looked up first and then asked.
use Rattle.std.specs.Prelude.{ℕ, ◌==◌, List, Result, Ok, if◌then◌else◌}
use Rattle.kv_device.specs.Objects.{Objects}
use Rattle.kfs_path.specs.declared.call.Errno.{Errno}
use Rattle.kfs_path.specs.declared.call.Reply.{Reply}
use Rattle.kfs_path.specs.declared.call.Reply.TheVariants.{Dir, File}
use Rattle.kfs_model.specs.Ladder.{◌>>=◌}
use Rattle.kfs_model.specs.Tree.{Name}
use Rattle.kfs_model.specs.Step.{syntax}
use Rattle.kfs_core.specs.Flat.{lookup_in, inode_in, inode_at, children_at}

-- the node, its kind and its length
abbrev pub found_by : Objects → List ℕ → Result (ℕ × ℕ × ℕ) Errno
found_by m path = do
  route ← syntax path
  n ← lookup_in m route
  i ← inode_at (inode_in m n)
  Ok (n, i.0, i.1)

abbrev pub names_by : Objects → List ℕ → Result (List Name) Errno
names_by m path = do
  route ← syntax path
  n ← lookup_in m route
  children_at m n (inode_in m n)

abbrev pub told_by : ℕ × ℕ × ℕ → Reply
told_by (n, kind, size) = if kind == 1 then Dir n else File n size
