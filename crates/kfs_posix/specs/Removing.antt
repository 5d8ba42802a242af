-- Names that are taken away, over the objects and the open files.
use Rattle.std.specs.Prelude.{ℕ, ◌≡◌, ◌⊎◌, Bool, List, Result, Ok, Err}
use Rattle.kv_device.specs.Objects.{Objects}
use Rattle.kfs_path.specs.declared.call.Errno.{Errno}
use Rattle.kfs_model.specs.Ladder.{◌>>=◌}
use Rattle.kfs_model.specs.Step.{syntax}
use Rattle.kfs_tx.specs.Tx.{GetFault}
use Rattle.kfs_core.specs.declared.fault.CoreFault.{CoreFault}
use Rattle.kfs_core.specs.declared.fault.CoreFault.TheVariants.{No, Device}
use Rattle.kfs_core.specs.Core.{KfsState, tx_in, Stays, Same}
use Rattle.kfs_core.specs.declared.removing.Leaf.{Leaf}
use Rattle.kfs_core.specs.Removing.{is_open_in, unlink_in, rmdir_in, Unlinks, UnlinkFault, Frees, keys_gone, chunks_gone}
use Rattle.kfs_posix.specs.Opens.{Opens, nodes_of, without_name}

-- the entry that goes, by the path's text
abbrev pub unlink_by : Objects → List ℕ → Result Leaf Errno
unlink_by m path = syntax path >>= λ route. unlink_in m route

abbrev pub rmdir_by : Objects → List ℕ → Result Leaf Errno
rmdir_by m path = syntax path >>= λ route. rmdir_in m route

-- whether a node is open
abbrev pub open_now : Opens → ℕ → Bool
open_now o = is_open_in (nodes_of o)

-- an entry was taken away, with its node unless that is open; who has it open knows
pub record Unnamed (old : KfsState) (o : Opens) (judged : Result Leaf Errno) (new : KfsState) (files : Opens) : Type 0 where
  pub leaf : Leaf
  pub judge : judged ≡ Ok leaf
  pub effect : Unlinks (tx_in old) leaf (open_now o leaf.node) (tx_in new)
  pub frees : Frees old (keys_gone leaf (open_now o leaf.node)) (chunks_gone leaf (open_now o leaf.node)) new
  pub files_are : files ≡ without_name o leaf.node

abbrev pub UnnameFails : KfsState → Opens → Result Leaf Errno → CoreFault → KfsState → Opens → Type 0
UnnameFails old o judged (No e) new files = (judged ≡ Err e) × Same old new × (files ≡ o)
UnnameFails old o judged (Device fault) new files =
    Stays old new × (files ≡ o)
    × (GetFault (tx_in old) fault (tx_in new).machine ⊎ ((leaf : Leaf) × (judged ≡ Ok leaf) × UnlinkFault (tx_in old) leaf (open_now o leaf.node) fault (tx_in new).machine))

-- what taking a name away did: the judge over the objects, the effect, what is free then, and the open files
abbrev pub UnnameDoes : {X : Type 0} → KfsState → Opens → Result Leaf Errno → Result X CoreFault → KfsState → Opens → Type 0
UnnameDoes old o judged (Ok x) new files = Unnamed old o judged new files
UnnameDoes old o judged (Err fault) new files = UnnameFails old o judged fault new files
