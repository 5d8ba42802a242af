-- What each call answers and leaves.
use Rattle.std.specs.Prelude.{ℕ, ◌+◌, Bool, true, false, not, ◌&&◌, ◌||◌, ◌==◌, nat_lt, nat_le, List, [], ◌∷◌, length, take, drop, map, ℤ, pos, negsuc, ◌+ℤ◌, ◌^◌, Option, Some, None, is_some, Result, Ok, Err, if◌then◌else◌, replicate}
use Rattle.std.specs.Ordering.{nat_cmp}
use Rattle.std.specs.List.{filter, list_any}
use Rattle.std.specs.Option.{option_map, unwrap_or}
use Rattle.std.specs.FinMap.{find, put}
use Rattle.kfs_path.specs.Pieces.{is_empty, is_too_long, pieces_of, ends_in_slash}
use Rattle.kfs_path.specs.declared.call.Call.{Call}
use Rattle.kfs_path.specs.declared.call.Call.TheVariants as calls
use Rattle.kfs_path.specs.declared.call.Reply.{Reply}
use Rattle.kfs_path.specs.declared.call.Reply.TheVariants as replies
use Rattle.kfs_path.specs.declared.call.Errno.{Errno}
use Rattle.kfs_path.specs.declared.call.Errno.TheVariants.{ENOENT, ENAMETOOLONG, ENOTDIR, EINVAL, EEXIST, EISDIR, EMFILE, ENOSPC, EBADF, EFBIG, EOVERFLOW, ENOTEMPTY, EBUSY, EPERM}
use Rattle.kfs_path.specs.declared.call.Flags.{Flags}
use Rattle.kfs_path.specs.declared.call.Whence.{Whence}
use Rattle.kfs_path.specs.declared.call.Whence.TheVariants.{Set, Cur, End}
use Rattle.kfs_path.specs.declared.call.TreeItem.{TreeItem}
use Rattle.kfs_path.specs.declared.call.Data.{Data}
use Rattle.kfs_path.specs.declared.call.Data.TheVariants.{Plain, Fill}
use Rattle.kfs_model.specs.declared.Node.{Node}
use Rattle.kfs_model.specs.declared.Node.TheVariants.{Dir, File}
use Rattle.kfs_model.specs.Ladder.{◌>>=◌, ◌>>◌, ◌when◌}
use Rattle.kfs_model.specs.Tree.{Name, Place, Tree, Limits, below, entry_at, walk, is_dot, is_dot_dot, names_in, charge, chunks, has_room, is_named, with_new, without_place, renamed, with_node, written, resized, fits, greatest_length}
use Rattle.kfs_model.specs.Desk.{Desk, Description, opened, lowest_free, is_open, with_description}

-- the tree and the open files
pub record World : Type 0 where
  pub tree : Tree
  pub desk : Desk

-- a reply, and what the call leaves
pub record After : Type 0 where
  pub world : World
  pub reply : Reply

-- the pieces of a path, and whether it ends in a slash
pub record Route : Type 0 where
  pub pieces : List Name
  pub trailing : Bool

-- a path that is empty or too long is refused, whatever the tree
abbrev pub syntax : List ℕ → Result Route Errno
syntax bytes = do
  ENOENT when is_empty bytes
  ENAMETOOLONG when is_too_long bytes
  Ok (record { pieces = pieces_of bytes; trailing = ends_in_slash bytes })

-- whether a place names a node
abbrev pub is_there : Tree → Place → Bool
is_there t place = is_some (entry_at t place)

-- whether that is a directory
abbrev pub has_dir : Option (ℕ × Node) → Bool
has_dir None = false
has_dir (Some (n, Dir)) = true
has_dir (Some (n, File bytes)) = false

-- whether that is a file
abbrev pub has_file : Option (ℕ × Node) → Bool
has_file None = false
has_file (Some (n, Dir)) = false
has_file (Some (n, File bytes)) = true

-- whether a place names a directory
abbrev pub is_dir : Tree → Place → Bool
is_dir t place = has_dir (entry_at t place)

-- whether a place names a file
abbrev pub is_file : Tree → Place → Bool
is_file t place = has_file (entry_at t place)

-- no piece: the path is slashes alone
abbrev pub is_root : List Name → Bool
is_root [] = true
is_root (piece ∷ pieces) = false

-- whether the last piece passes a test
abbrev pub ends_by : (Name → Bool) → List Name → Bool
ends_by test [] = false
ends_by test (piece ∷ []) = test piece
ends_by test (piece ∷ next ∷ pieces) = ends_by test (next ∷ pieces)

-- whether the last piece is `.` or `..`
abbrev pub ends_in_dots : List Name → Bool
ends_in_dots pieces = ends_by (λ piece. is_dot piece || is_dot_dot piece) pieces

-- whether a directory has a name in it
abbrev pub isnt_empty : Tree → Place → Bool
isnt_empty t place = nat_lt 0 (length (names_in t place))

-- whether two places are one
abbrev pub is_same_place : Place → Place → Bool
is_same_place p q = is_some (below p q) && is_some (below q p)

-- an error where there is nothing
abbrev pub or_else : {A : Type 0} → Option A → Errno → Result A Errno
or_else None e = Err e
or_else (Some x) e = Ok x

-- nothing of the world changes
abbrev pub answers : World → Reply → Result After Errno
answers w reply = Ok (record { world = w; reply = reply })

-- the tree becomes t
abbrev pub leaves : World → Tree → Reply → Result After Errno
leaves w t reply = Ok (record { world = record { tree = t; desk = w.desk }; reply = reply })

-- the open files become those of a desk
abbrev pub with_desk : World → Desk → Reply → Result After Errno
with_desk w desk reply = Ok (record { world = record { tree = w.tree; desk = desk }; reply = reply })

-- a node that neither a place nor a description names goes
abbrev pub swept : World → World
swept w = record { tree = record { names = w.tree.names; nodes = filter (λ e. is_named w.tree e.0 || is_open w.desk e.0) w.tree.nodes; next = w.tree.next }; desk = w.desk }

-- the tree becomes t, and a node that lost its last name goes unless it is open
abbrev pub leaves_swept : World → Tree → Reply → Result After Errno
leaves_swept w t reply = Ok (record { world = swept (record { tree = t; desk = w.desk }); reply = reply })

-- a tree, or an error, is what the call leaves
abbrev pub changes_tree : World → Result Tree Errno → Result After Errno
changes_tree w r = r >>= λ t. leaves w t replies.Done

-- a node as `stat` tells it
abbrev pub told : Option (ℕ × Node) → Result Reply Errno
told None = Err ENOENT
told (Some (n, Dir)) = Ok (replies.Dir n)
told (Some (n, File bytes)) = Ok (replies.File n (length bytes))

-- the bytes of a file; a directory has none
abbrev pub content : Tree → ℕ → List ℕ
content t n = content_of (unwrap_or (find nat_cmp n t.nodes) Dir)
  where
    content_of : Node → List ℕ
    content_of Dir = []
    content_of (File bytes) = bytes

-- the bytes that a call gives
abbrev pub bytes_of : Data → List ℕ
bytes_of (Plain bytes) = bytes
bytes_of (Fill count byte) = replicate count byte

-- a number that is not negative
abbrev pub natural : ℤ → ℕ
natural (pos n) = n
natural (negsuc n) = 0

-- whether a number is below zero
abbrev pub is_negative : ℤ → Bool
is_negative (pos n) = false
is_negative (negsuc n) = true

-- at most so many bytes from a place on
abbrev pub piece_at : List ℕ → ℕ → ℕ → List ℕ
piece_at bytes p count = take count (drop p bytes)

-- the same description at another offset
abbrev pub with_offset : Description → ℕ → Description
with_offset it p = record { node = it.node; offset = p; read = it.read; write = it.write; append = it.append }

-- the most bytes that one call reads or writes
abbrev pub greatest_count : ℕ
greatest_count = 1048576

-- descriptor fd gets a new description, whose number is d
abbrev pub opens : World → Tree → ℕ → ℕ → ℕ → Flags → After
opens w t fd d n flags = record {
  world = record {
    tree = t;
    desk = record {
      descriptors = put nat_cmp fd d w.desk.descriptors;
      descriptions = put nat_cmp d (record { node = n; offset = 0; read = flags.read; write = flags.write; append = flags.append }) w.desk.descriptions;
    };
  };
  reply = replies.Number fd;
}

-- a file is made
abbrev pub open_missing : Limits → ℕ → World → Route → Place → Flags → Result After Errno
open_missing k d w route place flags = do
  ENOENT when (not flags.creat || route.trailing)
  fd ← or_else (lowest_free w.desk) EMFILE
  ENOSPC when nat_lt k.keys (charge w.tree + 2)
  Ok (opens w (with_new w.tree place (File [])) fd d w.tree.next flags)

-- a directory is opened, for reading alone
abbrev pub open_dir : ℕ → World → ℕ → Flags → Result After Errno
open_dir d w n flags = do
  EEXIST when (flags.creat && flags.excl)
  EISDIR when (flags.write || flags.creat)
  fd ← or_else (lowest_free w.desk) EMFILE
  Ok (opens w w.tree fd d n flags)

-- a file is opened, and cut to no bytes where the flags say so
abbrev pub open_file : ℕ → World → Route → ℕ → Flags → Result After Errno
open_file d w route n flags = do
  EEXIST when (flags.creat && flags.excl)
  ENOTDIR when route.trailing
  fd ← or_else (lowest_free w.desk) EMFILE
  Ok (opens w (if flags.trunc then with_node w.tree n (File []) else w.tree) fd d n flags)

-- by what the place names
abbrev pub open_at : Limits → ℕ → World → Route → Place → Flags → Option (ℕ × Node) → Result After Errno
open_at k d w route place flags None = open_missing k d w route place flags
open_at k d w route place flags (Some (n, Dir)) = open_dir d w n flags
open_at k d w route place flags (Some (n, File bytes)) = open_file d w route n flags

-- the path and the flags are judged, then what the path names
abbrev pub open_path : Limits → ℕ → World → List ℕ → Flags → Result After Errno
open_path k d w path flags = do
  EINVAL when ((flags.trunc && not flags.write) || (flags.excl && not flags.creat))
  route ← syntax path
  place ← walk w.tree route.pieces
  open_at k d w route place flags (entry_at w.tree place)

-- with the last descriptor of a description a node without a name goes
abbrev pub close : World → ℕ → Result After Errno
close w fd = do
  it ← or_else (opened w.desk fd) EBADF
  let left = filter (λ e. not (e.0 == fd)) w.desk.descriptors
  Ok (record {
    world = swept (record {
      tree = w.tree;
      desk = record { descriptors = left; descriptions = filter (λ e. list_any (λ f. f.1 == e.0) left) w.desk.descriptions };
    });
    reply = replies.Done;
  })

-- the lowest free descriptor shares the description
abbrev pub dup : World → ℕ → Result After Errno
dup w fd = do
  it ← or_else (opened w.desk fd) EBADF
  new ← or_else (lowest_free w.desk) EMFILE
  with_desk w (record { descriptors = put nat_cmp new it.0 w.desk.descriptors; descriptions = w.desk.descriptions }) (replies.Number new)

-- whether an open node is a directory
abbrev pub is_open_dir : Tree → ℕ → Bool
is_open_dir t n = has_dir (option_map (λ node. (n, node)) (find nat_cmp n t.nodes))

-- what every call that reads from a descriptor refuses
abbrev pub readable : World → ℕ → ℕ → Result (ℕ × Description) Errno
readable w fd count = do
  it ← or_else (opened w.desk fd) EBADF
  EBADF when not it.1.read
  EISDIR when is_open_dir w.tree it.1.node
  EINVAL when nat_lt greatest_count count
  Ok it

-- the bytes from the offset on, and the offset moves behind them
abbrev pub read : World → ℕ → ℕ → Result After Errno
read w fd count = do
  it ← readable w fd count
  let bytes = piece_at (content w.tree it.1.node) it.1.offset count
  with_desk w (with_description w.desk it.0 (with_offset it.1 (it.1.offset + length bytes))) (replies.Read bytes)

-- as many bytes as fit are written, from the place that the description tells
abbrev pub writes : Limits → World → ℕ × Description → List ℕ → Result After Errno
writes k w (d, it) given = do
  EINVAL when nat_lt greatest_count (length given)
  if is_empty given then answers w (replies.Number 0) else do
    EFBIG when nat_le greatest_length p
    ENOSPC when (j == 0)
    Ok (record {
      world = record {
        tree = with_node w.tree it.node (File (written bytes p (take j given)));
        desk = with_description w.desk d (record { node = it.node; offset = p + j; read = it.read; write = it.write; append = it.append });
      };
      reply = replies.Number j;
    })
  where
    bytes : List ℕ
    bytes = content w.tree it.node

    p : ℕ
    p = if it.append then length bytes else it.offset

    j : ℕ
    j = fits k w.tree it.node bytes p (length given)

-- the place is the offset, or the end of the file in append mode
abbrev pub write : Limits → World → ℕ → Data → Result After Errno
write k w fd data' = do
  it ← or_else (opened w.desk fd) EBADF
  EBADF when not it.1.write
  writes k w it (bytes_of data')

-- the bytes from a given place on; the offset stays
abbrev pub pread : World → ℕ → ℕ → ℤ → Result After Errno
pread w fd count offset = do
  it ← readable w fd count
  EINVAL when is_negative offset
  answers w (replies.Read (piece_at (content w.tree it.1.node) (natural offset) count))

-- the place is the given one, in append mode too; the offset stays
abbrev pub pwrite : Limits → World → ℕ → Data → ℤ → Result After Errno
pwrite k w fd given offset = do
  it ← or_else (opened w.desk fd) EBADF
  EBADF when not it.1.write
  EINVAL when is_negative offset
  after ← writes k w (it.0, record { node = it.1.node; offset = natural offset; read = it.1.read; write = true; append = false }) (bytes_of given)
  leaves w after.world.tree after.reply

-- the new offset counts from the start, the old offset or the end
abbrev pub lseek : World → ℕ → Whence → ℤ → Result After Errno
lseek w fd whence offset = do
  it ← or_else (opened w.desk fd) EBADF
  let to = pos (from it.1 whence) +ℤ offset
  EINVAL when is_negative to
  EOVERFLOW when nat_le (2 ^ 63) (natural to)
  with_desk w (with_description w.desk it.0 (with_offset it.1 (natural to))) (replies.Number (natural to))
  where
    from : Description → Whence → ℕ
    from it Set = 0
    from it Cur = it.offset
    from it End = length (content w.tree it.node)

-- the length of a file becomes size, where it and the room allow
abbrev pub lengthened : Limits → Tree → ℕ → ℤ → Result Tree Errno
lengthened k t n size = do
  EFBIG when nat_lt greatest_length (natural size)
  ENOSPC when not (has_room k (with_node t n (File (resized (content t n) (natural size)))))
  Ok (with_node t n (File (resized (content t n) (natural size))))

-- the same by a path
abbrev pub truncate : Limits → Tree → List ℕ → ℤ → Result Tree Errno
truncate k t path size = do
  EINVAL when is_negative size
  route ← syntax path
  place ← walk t route.pieces
  entry ← or_else (entry_at t place) ENOENT
  EISDIR when is_dir t place
  ENOTDIR when route.trailing
  lengthened k t entry.0 size

-- the same by a descriptor
abbrev pub ftruncate : Limits → World → ℕ → ℤ → Result Tree Errno
ftruncate k w fd size = do
  it ← or_else (opened w.desk fd) EBADF
  EBADF when not it.1.write
  EINVAL when is_negative size
  lengthened k w.tree it.1.node size

-- where a new directory goes
abbrev pub mkdir_at : Limits → Tree → List ℕ → Result Place Errno
mkdir_at k t path = do
  route ← syntax path
  place ← walk t route.pieces
  EEXIST when is_there t place
  ENOSPC when nat_lt k.keys (charge t + 2)
  Ok place

-- a new directory
abbrev pub mkdir : Limits → World → List ℕ → Result After Errno
mkdir k w path = mkdir_at k w.tree path >>= λ place. leaves w (with_new w.tree place Dir) replies.Done

-- the directory that goes
abbrev pub rmdir_at : Tree → List ℕ → Result Place Errno
rmdir_at t path = do
  route ← syntax path
  EINVAL when ends_by is_dot route.pieces
  ENOTEMPTY when ends_by is_dot_dot route.pieces
  EBUSY when is_root route.pieces
  place ← walk t route.pieces
  ENOENT when not (is_there t place)
  ENOTDIR when is_file t place
  ENOTEMPTY when isnt_empty t place
  Ok place

-- a file loses its name
abbrev pub unlink : World → List ℕ → Result After Errno
unlink w path = do
  route ← syntax path
  EPERM when (ends_in_dots route.pieces || is_root route.pieces)
  place ← walk w.tree route.pieces
  ENOENT when not (is_there w.tree place)
  EPERM when is_dir w.tree place
  ENOTDIR when route.trailing
  leaves_swept w (without_place w.tree place) replies.Done

-- the old place, with all below it, becomes the new one
abbrev pub rename : World → List ℕ → List ℕ → Result After Errno
rename w old new = do
  from ← syntax old
  to ← syntax new
  EINVAL when (ends_in_dots from.pieces || ends_in_dots to.pieces)
  EBUSY when (is_root from.pieces || is_root to.pieces)
  p ← walk t from.pieces
  ENOENT when not (is_there t p)
  ENOTDIR when (from.trailing && is_file t p)
  q ← walk t to.pieces
  ENOTDIR when (is_file t p && to.trailing && not (is_dir t q))
  if is_same_place p q then answers w replies.Done else do
    EINVAL when is_some (below p q)
    ENOTDIR when (is_dir t p && is_file t q)
    EISDIR when (is_file t p && is_dir t q)
    ENOTEMPTY when isnt_empty t q
    leaves_swept w (renamed (without_place t q) p q) replies.Done
  where
    t : Tree
    t = w.tree

-- the node that a path names
abbrev pub stat_of : Tree → List ℕ → Result Reply Errno
stat_of t path = do
  route ← syntax path
  place ← walk t route.pieces
  reply ← told (entry_at t place)
  ENOTDIR when (route.trailing && is_file t place)
  Ok reply

-- what a path names
abbrev pub stat : World → List ℕ → Result After Errno
stat w path = stat_of w.tree path >>= answers w

-- what a descriptor has open
abbrev pub fstat : World → ℕ → Result After Errno
fstat w fd = do
  it ← or_else (opened w.desk fd) EBADF
  reply ← told (option_map (λ node. (it.1.node, node)) (find nat_cmp it.1.node w.tree.nodes))
  answers w reply

-- the names in the directory that a path names
abbrev pub list_of : Tree → List ℕ → Result Reply Errno
list_of t path = do
  route ← syntax path
  place ← walk t route.pieces
  ENOENT when not (is_there t place)
  ENOTDIR when is_file t place
  Ok (replies.Names (names_in t place))

-- the names in a directory
abbrev pub list : World → List ℕ → Result After Errno
list w path = list_of w.tree path >>= answers w

-- what is committed changes nothing of the world
abbrev pub fsync : World → ℕ → Result After Errno
fsync w fd = do
  it ← or_else (opened w.desk fd) EBADF
  answers w replies.Done

-- what the tree takes of keys and pages, and how many there are
abbrev pub room : Limits → World → Result After Errno
room k w = answers w (replies.Room (charge w.tree) k.keys (chunks w.tree) k.pages)

-- a named node as `tree` tells it
abbrev pub item_of : Tree → Place × ℕ → TreeItem
item_of t (place, n) = item (find nat_cmp n t.nodes)
  where
    item : Option Node → TreeItem
    item None = record { path = place; file = false; length = 0 }
    item (Some Dir) = record { path = place; file = false; length = 0 }
    item (Some (File bytes)) = record { path = place; file = true; length = length bytes }

-- what each call leaves and answers, or the first error that applies
abbrev pub effect : Limits → ℕ → World → Call → Result After Errno
effect k d w (calls.Open path flags) = open_path k d w path flags
effect k d w (calls.Close fd) = close w fd
effect k d w (calls.Dup fd) = dup w fd
effect k d w (calls.Read fd count) = read w fd count
effect k d w (calls.Write fd bytes) = write k w fd bytes
effect k d w (calls.Pread fd count offset) = pread w fd count offset
effect k d w (calls.Pwrite fd bytes offset) = pwrite k w fd bytes offset
effect k d w (calls.Lseek fd whence offset) = lseek w fd whence offset
effect k d w (calls.Truncate path size) = changes_tree w (truncate k w.tree path size)
effect k d w (calls.Ftruncate fd size) = changes_tree w (ftruncate k w fd size)
effect k d w (calls.Mkdir path) = mkdir k w path
effect k d w (calls.Rmdir path) = rmdir_at w.tree path >>= λ place. leaves_swept w (without_place w.tree place) replies.Done
effect k d w (calls.Unlink path) = unlink w path
effect k d w (calls.Rename old new) = rename w old new
effect k d w (calls.Stat path) = stat w path
effect k d w (calls.Fstat fd) = fstat w fd
effect k d w (calls.List path) = list w path
effect k d w (calls.Fsync fd) = fsync w fd
effect k d w calls.Sync = answers w replies.Done
effect k d w calls.Room = room k w
effect k d w calls.Tree = answers w (replies.Tree (map (item_of w.tree) w.tree.names))
effect k d w (calls.Work operations) = answers w replies.Done

-- an error changes nothing
abbrev pub settled : World → Result After Errno → After
settled w (Ok after) = after
settled w (Err e) = record { world = w; reply = replies.Err e }

-- one call; d is the number of the description that `open` makes
abbrev pub step : Limits → ℕ → World → Call → After
step k d w call = settled w (effect k d w call)
