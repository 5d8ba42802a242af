-- The walk and its answers, over objects.
use Rattle.std.specs.Prelude.{ℕ, ◌+◌, ◌-◌, ◌==◌, ◌&&◌, ◌^◌, nat_lt, Bool, List, [], ◌∷◌, ◌++◌, length, take, get_or, Option, Some, None, is_some, Result, Ok, Err, if◌then◌else◌}
use Rattle.std.specs.Option.{option_map, option_and_then}
use Rattle.std.specs.FinMap as objects
use Rattle.kv_device.specs.Objects.{Objects}
use Rattle.kfs_objects.specs.Keys.{inode_key}
use Rattle.kfs_objects.specs.Records.{read_inode}
use Rattle.kfs_path.specs.declared.call.Errno.{Errno}
use Rattle.kfs_path.specs.declared.call.Errno.TheVariants.{ENOENT, ENOTDIR, EEXIST, ENOSPC}
use Rattle.kfs_path.specs.declared.call.Reply.{Reply}
use Rattle.kfs_path.specs.declared.call.Reply.TheVariants as replies
use Rattle.kfs_model.specs.Ladder.{◌>>=◌, ◌>>◌, ◌when◌}
use Rattle.kfs_model.specs.Tree.{Name, is_dot, is_dot_dot}
use Rattle.kfs_model.specs.Step.{Route, syntax}
use Rattle.kfs_dir.specs.Directory.{names_under, node_under}

-- the kind and the length of a node
abbrev pub inode_in : Objects → ℕ → Option (ℕ × ℕ)
inode_in m n = option_and_then read_inode (objects.get m (inode_key n))

-- how far a walk came: the directories above, from the root, the node, and the last name gone down
pub record Where : Type 0 where
  pub above : List ℕ
  pub node : Option ℕ
  pub name : Name

abbrev pub at_root : Where
at_root = record { above = []; node = Some 1; name = [] }

-- a piece is looked for in a directory
abbrev pub enter_at : ℕ → Option (ℕ × ℕ) → Result ℕ Errno
enter_at n None = Err ENOENT
enter_at n (Some (kind, size)) = if kind == 1 then Ok n else Err ENOTDIR

abbrev pub enter_in : Objects → Option ℕ → Result ℕ Errno
enter_in m None = Err ENOENT
enter_in m (Some n) = enter_at n (inode_in m n)

abbrev pub up_from : Where → Where
up_from w = if length w.above == 0 then w else record { above = take (length w.above - 1) w.above; node = Some (get_or w.above (length w.above - 1) 0); name = w.name }

abbrev pub further_in : Objects → Where → ℕ → Name → Where
further_in m w n piece =
    if is_dot piece then w else
    if is_dot_dot piece then up_from w else
    record { above = w.above ++ n ∷ []; node = node_under m n piece; name = piece }

abbrev pub walk_in : Objects → Where → List Name → Result Where Errno
walk_in m w [] = Ok w
walk_in m w (piece ∷ pieces) = enter_in m w.node >>= λ n. walk_in m (further_in m w n piece) pieces

-- what a walk found: the node with its kind and length
abbrev pub found_in : Objects → Option ℕ → Option (ℕ × ℕ × ℕ)
found_in m node = option_and_then (λ n. option_map (λ (i : ℕ × ℕ). (n, i.0, i.1)) (inode_in m n)) node

abbrev pub told_in : Option (ℕ × ℕ × ℕ) → Bool → Result Reply Errno
told_in None trailing = Err ENOENT
told_in (Some (n, kind, size)) trailing =
    if kind == 1 then Ok (replies.Dir n) else
    if trailing then Err ENOTDIR else Ok (replies.File n size)

abbrev pub stat_in : Objects → List ℕ → Result Reply Errno
stat_in m path = do
  route ← syntax path
  w ← walk_in m at_root route.pieces
  told_in (found_in m w.node) route.trailing

-- the names in a directory: the first 2^32 - 1, as one call of the device gives them
abbrev pub names_of : Objects → ℕ → List Name
names_of m n = take (2 ^ 32 - 1) (names_under m n)

abbrev pub listed_in : Objects → Option (ℕ × ℕ × ℕ) → Result Reply Errno
listed_in m None = Err ENOENT
listed_in m (Some (n, kind, size)) = if kind == 1 then Ok (replies.Names (names_of m n)) else Err ENOTDIR

abbrev pub list_in : Objects → List ℕ → Result Reply Errno
list_in m path = do
  route ← syntax path
  w ← walk_in m at_root route.pieces
  listed_in m (found_in m w.node)

-- where a new directory goes
abbrev pub place_at : Objects → ℕ → ℕ → Route → Result Where Errno
place_at m keys charge route = do
  w ← walk_in m at_root route.pieces
  EEXIST when is_some w.node
  ENOSPC when nat_lt keys (charge + 2)
  Ok w

-- where a new node goes: kind 1 is a directory, kind 2 a file, whose path has no trailing slash
abbrev pub new_at : Objects → ℕ → ℕ → ℕ → Route → Result Where Errno
new_at m keys charge kind route = do
  w ← walk_in m at_root route.pieces
  EEXIST when is_some w.node
  ENOENT when (kind == 2 && route.trailing)
  ENOSPC when nat_lt keys (charge + 2)
  Ok w

-- where a new file goes
abbrev pub create_at : Objects → ℕ → ℕ → Route → Result Where Errno
create_at m keys charge route = do
  w ← walk_in m at_root route.pieces
  EEXIST when is_some w.node
  ENOENT when route.trailing
  ENOSPC when nat_lt keys (charge + 2)
  Ok w

abbrev pub place_in : Objects → ℕ → ℕ → List ℕ → Result Where Errno
place_in m keys charge path = do
  route ← syntax path
  place_at m keys charge route

abbrev pub create_in : Objects → ℕ → ℕ → List ℕ → Result Where Errno
create_in m keys charge path = do
  route ← syntax path
  create_at m keys charge route

-- ---- node by node

-- what a path names, where its walk comes to its end
abbrev pub reach_in : Objects → Route → Result (Option (ℕ × ℕ × ℕ)) Errno
reach_in m route = do
  w ← walk_in m at_root route.pieces
  Ok (found_in m w.node)

-- the node that a walk found; a trailing slash wants a directory
abbrev pub node_in : Option (ℕ × ℕ × ℕ) → Bool → Result ℕ Errno
node_in None trailing = Err ENOENT
node_in (Some (n, kind, size)) trailing =
    if kind == 1 then Ok n else
    if trailing then Err ENOTDIR else Ok n

abbrev pub lookup_in : Objects → Route → Result ℕ Errno
lookup_in m route = do
  w ← walk_in m at_root route.pieces
  node_in (found_in m w.node) route.trailing

-- the kind and the length of a node that is there
abbrev pub inode_at : Option (ℕ × ℕ) → Result (ℕ × ℕ) Errno
inode_at None = Err ENOENT
inode_at (Some i) = Ok i

-- the names in a directory
abbrev pub children_at : Objects → ℕ → Option (ℕ × ℕ) → Result (List Name) Errno
children_at m n None = Err ENOENT
children_at m n (Some (kind, size)) = if kind == 1 then Ok (names_of m n) else Err ENOTDIR
