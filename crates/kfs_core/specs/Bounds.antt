-- How many keys a transaction changes.
use Rattle.std.specs.Prelude.{ℕ, ◌≡◌, ◌+◌, ◌<◌, ◌≤◌, Bool, List, length, take, Some, Ok}
use Rattle.kfs_objects.specs.Keys.{orphan_key}
use Rattle.kfs_model.specs.Tree.{greatest_length}
use Rattle.kfs_model.specs.Change.{spanned}
use Rattle.kfs_model.specs.Step.{Route}
use Rattle.kfs_tx.specs.Tx.{Tx, IsReady, seen, changed_keys, deleted_in, counted, committed, one_change}
use Rattle.kfs_core.specs.declared.room.Space.{Space}
use Rattle.kfs_core.specs.Clearing.{IsFresh}
use Rattle.kfs_core.specs.Files.{PutsBytes, write_in, with_length}
use Rattle.kfs_core.specs.Flat.{inode_in}
use Rattle.kfs_core.specs.Making.{with_entry}
use Rattle.kfs_core.specs.Removing.{Leaf, Goes, Unnames, chunks_for, chunks_gone, unlink_in, rmdir_in, release_at}
use Rattle.kfs_core.specs.Renaming.{Move, Replaces, chunks_replaced, rename_in, with_moved}
use Rattle.kfs_core.specs.Resizing.{PutsLength, resize_in, resize_weight}
use Rattle.kfs_core.specs.Room.{fits_in, grown}

-- what holds between two calls: no boundary is due, and at most as many keys are changed as the changes weigh
pub record IsLight (r : Tx) : Type 0 where
  pub ready : IsReady r
  pub light : r.weight < 256
  pub few : changed_keys r ≤ r.weight

-- 255 of the changes before, 260 of one more, and the super's
abbrev pub most_keys : ℕ
most_keys = 255 + 260 + 1

-- a change of this weight is put and counted: the transaction, which is committed where a boundary falls, has
-- at most so many changed keys before that, and the tx is light after it
pub record IsSmall (put : Tx) (weight next : ℕ) : Type 0 where
  pub keys : changed_keys (counted put weight next) ≤ most_keys
  pub after : IsLight (one_change put weight next)

-- what a call without a change commits
abbrev pub CommitIsSmall : Type 0
CommitIsSmall = (r : Tx) → IsLight r → (changed_keys r ≤ most_keys) × IsLight (committed r)

-- a new directory or file
abbrev pub MakingIsSmall : Type 0
MakingIsSmall = (r : Tx) (kind parent : ℕ) (name : List ℕ) → IsLight r → IsSmall (with_entry r kind parent name) 4 (r.next + 1)

-- as many of the bytes as fit
abbrev pub WritingIsSmall : Type 0
WritingIsSmall =
    (r put : Tx) (space : Space) (node offset size : ℕ) (given : List ℕ) → IsLight r → write_in (seen r) space node offset (length given) ≡ Ok size
    → (some : List ℕ) → some ≡ take (fits_in space size offset (length given)) given → PutsBytes r node offset some put
    → IsSmall (with_length put node (grown size offset (length some))) (2 + spanned offset (length some)) put.next

-- another length
abbrev pub ResizingIsSmall : Type 0
ResizingIsSmall =
    (r put : Tx) (space : Space) (node size now : ℕ) → IsLight r → resize_in (seen r) space node now ≡ Ok size → PutsLength r node size now put
    → IsSmall (with_length put node now) (resize_weight size now) put.next

-- a name that goes, with its node or without
abbrev pub UnlinkingIsSmall : Type 0
UnlinkingIsSmall =
    (r put : Tx) (route : Route) (leaf : Leaf) (open_now : Bool) → IsLight r → unlink_in (seen r) route ≡ Ok leaf → Unnames r leaf open_now put
    → IsSmall put (4 + chunks_gone leaf open_now) put.next

abbrev pub RmdirIsSmall : Type 0
RmdirIsSmall =
    (r put : Tx) (route : Route) (leaf : Leaf) (open_now : Bool) → IsLight r → rmdir_in (seen r) route ≡ Ok leaf → Unnames r leaf open_now put
    → IsSmall put (4 + chunks_gone leaf open_now) put.next

-- an entry that moves, over what the new name has
abbrev pub RenamingIsSmall : Type 0
RenamingIsSmall =
    (r put : Tx) (from to : Route) (move : Move) (is_open : ℕ → Bool) → IsLight r → rename_in (seen r) from to ≡ Ok (Some move) → Replaces r move.replaced is_open put
    → IsSmall (with_moved put move) (4 + chunks_replaced move.replaced is_open) put.next

-- a node without a name, at its last close
abbrev pub ReleasingIsSmall : Type 0
ReleasingIsSmall =
    (r put : Tx) (node size : ℕ) → IsLight r → release_at (inode_in (seen r) node) ≡ Ok size → Goes r node size put
    → IsSmall (deleted_in put (orphan_key node)) (4 + chunks_for size) put.next

-- a node without a name, at a mount, in a transaction of its own
abbrev pub ClearingIsSmall : Type 0
ClearingIsSmall = (r put : Tx) (node size : ℕ) → IsFresh r → size ≤ greatest_length → Goes r node size put → changed_keys (deleted_in put (orphan_key node)) ≤ most_keys
