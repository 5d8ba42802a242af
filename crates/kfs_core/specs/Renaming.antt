-- An entry moves, and what it replaces loses its name.
use Rattle.std.specs.Prelude.{ℕ, ◌≡◌, ◌+◌, ◌==◌, ◌⊎◌, nat_lt, Bool, false, not, ◌&&◌, ◌||◌, Option, Some, None, IfSome, ◌≤◌, Result, Ok, Err, if◌then◌else◌}
use Rattle.std.specs.List.{list_any}
use Rattle.std.specs.Option.{option_map, option_and_then}
use Rattle.std.specs.Str.{bytes_eq}
use Rattle.kv_device.specs.declared.fault.DeviceFault.{DeviceFault}
use Rattle.kv_device.specs.Machine.{Machine}
use Rattle.kv_device.specs.Objects.{Objects}
use Rattle.kfs_objects.specs.Keys.{IsNamed, entry_key}
use Rattle.kfs_objects.specs.Records.{entry_value}
use Rattle.kfs_path.specs.declared.call.Errno.{Errno}
use Rattle.kfs_path.specs.declared.call.Errno.TheVariants.{ENOENT, ENOTDIR, EBUSY, EINVAL, EISDIR, ENOTEMPTY, EFBIG}
use Rattle.kfs_model.specs.Ladder.{◌>>=◌, ◌>>◌, ◌when◌}
use Rattle.kfs_model.specs.Tree.{greatest_length}
use Rattle.kfs_model.specs.Step.{Route, is_root, ends_in_dots, or_else}
use Rattle.kfs_tx.specs.Tx.{Tx, put_in, deleted_in, one_change, GetFault, ChangeFault}
use Rattle.kfs_file.specs.Contents.{FailsWithin}
use Rattle.kfs_core.specs.declared.fault.CoreFault.{CoreFault}
use Rattle.kfs_core.specs.declared.fault.CoreFault.TheVariants.{No, Device}
pub use Rattle.kfs_core.specs.declared.renaming.Move.{Move}
use Rattle.kfs_core.specs.Core.{KfsState, tx_in, Stays, Same}
use Rattle.kfs_core.specs.Flat.{Where, at_root, walk_in, found_in}
use Rattle.kfs_core.specs.Making.{parent_of}
use Rattle.kfs_core.specs.Removing.{Leaf, Loses, Frees, leaf_at, has_names, chunks_gone, keys_gone}

-- ---- the judge

-- whether what was found is a directory, or a file, or a directory with a name in it
abbrev pub is_dir_found : Option (ℕ × ℕ × ℕ) → Bool
is_dir_found None = false
is_dir_found (Some (n, kind, size)) = kind == 1

abbrev pub is_file_found : Option (ℕ × ℕ × ℕ) → Bool
is_file_found None = false
is_file_found (Some (n, kind, size)) = not (kind == 1)

abbrev pub isnt_empty_found : Objects → Option (ℕ × ℕ × ℕ) → Bool
isnt_empty_found m None = false
isnt_empty_found m (Some (n, kind, size)) = (kind == 1) && has_names m n

-- longer than any file of a tree
abbrev pub is_long_found : Option (ℕ × ℕ × ℕ) → Bool
is_long_found None = false
is_long_found (Some (n, kind, size)) = nat_lt greatest_length size

-- a file moves to a path with a trailing slash that names no directory
abbrev pub needs_dir : Bool → Bool → Option (ℕ × ℕ × ℕ) → Bool
needs_dir is_dir trailing there = not is_dir && trailing && not (is_dir_found there)

-- two walks ended at one name in one directory
abbrev pub is_same_spot : Where → Where → Bool
is_same_spot p q = (parent_of p == parent_of q) && bytes_eq p.name q.name

abbrev pub replaced_at : Where → Option (ℕ × ℕ × ℕ) → Option Leaf
replaced_at q None = None
replaced_at q (Some (n, kind, size)) = Some (leaf_at q n size)

abbrev pub move_at : ℕ → Where → Where → Option (ℕ × ℕ × ℕ) → Move
move_at n p q there = record { node = n; parent = parent_of p; name = p.name; new_parent = parent_of q; new_name = q.name; replaced = replaced_at q there }

-- the way is clear: what the new name has now may be replaced
abbrev pub clear_in : Objects → ℕ → Bool → Where → Where → Option (ℕ × ℕ × ℕ) → Result (Option Move) Errno
clear_in m n is_dir p q there = do
  EINVAL when list_any (λ k. k == n) q.above
  ENOTDIR when (is_dir && is_file_found there)
  EISDIR when (not is_dir && is_dir_found there)
  ENOTEMPTY when isnt_empty_found m there
  EFBIG when is_long_found there
  Ok (Some (move_at n p q there))

-- the node that moves was found; nothing moves where both paths name one place
abbrev pub onto_in : Objects → Route → Where → ℕ → Bool → Where → Option (ℕ × ℕ × ℕ) → Result (Option Move) Errno
onto_in m to p n is_dir q there = do
  ENOTDIR when needs_dir is_dir to.trailing there
  if is_same_spot p q then Ok None else clear_in m n is_dir p q there

abbrev pub from_in : Objects → Route → Route → Where → ℕ × ℕ × ℕ → Result (Option Move) Errno
from_in m from to p (n, kind, size) = do
  ENOTDIR when (from.trailing && not (kind == 1))
  q ← walk_in m at_root to.pieces
  onto_in m to p n (kind == 1) q (found_in m q.node)

-- what moves, or None where nothing does
abbrev pub rename_in : Objects → Route → Route → Result (Option Move) Errno
rename_in m from to = do
  EINVAL when (ends_in_dots from.pieces || ends_in_dots to.pieces)
  EBUSY when (is_root from.pieces || is_root to.pieces)
  p ← walk_in m at_root from.pieces
  it ← or_else (found_in m p.node) ENOENT
  from_in m from to p it

-- the node that loses its name to the one that moves
abbrev pub replaced_node : Move → Option ℕ
replaced_node move = option_map (λ (leaf : Leaf). leaf.node) move.replaced

-- the node that is told is the one that is replaced, where one moves
abbrev pub TellsReplaced : Result (Option Move) Errno → Option ℕ → Type 0
TellsReplaced judged n = (move : Option Move) × (judged ≡ Ok move) × (n ≡ option_and_then replaced_node move)

-- its names are names, and what it replaces is no longer than any file
pub record IsPlain (move : Move) : Type 0 where
  pub named : IsNamed move.name
  pub new_named : IsNamed move.new_name
  pub small : IfSome move.replaced (λ leaf. leaf.size ≤ 1048576)

-- ---- the effect

-- the node that loses its name goes first, or gets its orphan object
abbrev pub Replaces : Tx → Option Leaf → (ℕ → Bool) → Tx → Type 0
Replaces old None is_open new = new ≡ old
Replaces old (Some leaf) is_open new = Loses old leaf.node leaf.size (is_open leaf.node) new

abbrev pub chunks_replaced : Option Leaf → (ℕ → Bool) → ℕ
chunks_replaced None is_open = 0
chunks_replaced (Some leaf) is_open = chunks_gone leaf (is_open leaf.node)

abbrev pub keys_replaced : Option Leaf → (ℕ → Bool) → ℕ
keys_replaced None is_open = 0
keys_replaced (Some leaf) is_open = keys_gone leaf (is_open leaf.node)

-- then the entry moves, in the place of another
abbrev pub with_moved : Tx → Move → Tx
with_moved r move = put_in (deleted_in r (entry_key move.parent move.name)) (entry_key move.new_parent move.new_name) (entry_value move.node)

-- the same, as one change
pub record Moves (old : Tx) (move : Move) (is_open : ℕ → Bool) (new : Tx) : Type 0 where
  pub mid : Tx
  pub replaces : Replaces old move.replaced is_open mid
  pub change : new ≡ one_change (with_moved mid move) (4 + chunks_replaced move.replaced is_open) mid.next

-- in the middle, or where the change was counted
abbrev pub MoveFault : Tx → Move → (ℕ → Bool) → DeviceFault → Machine → Type 0
MoveFault old move is_open fault new =
    FailsWithin old (3 + chunks_replaced move.replaced is_open) fault new
    ⊎ ((mid : Tx) × Replaces old move.replaced is_open mid × ChangeFault (with_moved mid move) (4 + chunks_replaced move.replaced is_open) mid.next fault new)

abbrev pub MovesTo : KfsState → Option Move → (ℕ → Bool) → KfsState → Type 0
MovesTo old None is_open new = Same old new
MovesTo old (Some move) is_open new = Moves (tx_in old) move is_open (tx_in new) × Frees old (keys_replaced move.replaced is_open) (chunks_replaced move.replaced is_open) new

abbrev pub RenameFails : KfsState → Result (Option Move) Errno → (ℕ → Bool) → CoreFault → KfsState → Type 0
RenameFails old judged is_open (No e) new = (judged ≡ Err e) × Same old new
RenameFails old judged is_open (Device fault) new =
    Stays old new × (GetFault (tx_in old) fault (tx_in new).machine ⊎ ((move : Move) × (judged ≡ Ok (Some move)) × MoveFault (tx_in old) move is_open fault (tx_in new).machine))

-- what renaming did: the judge over the objects, the effect, and what is free then
abbrev pub RenameDoes : {X : Type 0} → KfsState → Result (Option Move) Errno → (ℕ → Bool) → Result X CoreFault → KfsState → Type 0
RenameDoes old judged is_open (Ok x) new = (move : Option Move) × (judged ≡ Ok move) × MovesTo old move is_open new
RenameDoes old judged is_open (Err fault) new = RenameFails old judged is_open fault new
