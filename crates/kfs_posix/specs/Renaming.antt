-- A place that becomes another, over the objects and the open files.
use Rattle.std.specs.Prelude.{ℕ, ◌≡◌, ◌⊎◌, List, Option, Some, None, Result, Ok, Err}
use Rattle.std.specs.Option.{option_and_then}
use Rattle.kv_device.specs.Objects.{Objects}
use Rattle.kfs_path.specs.declared.call.Errno.{Errno}
use Rattle.kfs_model.specs.Ladder.{◌>>=◌}
use Rattle.kfs_model.specs.Step.{syntax}
use Rattle.kfs_tx.specs.Tx.{GetFault}
use Rattle.kfs_core.specs.declared.fault.CoreFault.{CoreFault}
use Rattle.kfs_core.specs.declared.fault.CoreFault.TheVariants.{No, Device}
use Rattle.kfs_core.specs.declared.renaming.Move.{Move}
use Rattle.kfs_core.specs.Core.{KfsState, tx_in, Stays, Same}
use Rattle.kfs_core.specs.Renaming.{rename_in, replaced_node, MovesTo, MoveFault}
use Rattle.kfs_posix.specs.Opens.{Opens, without_name}
use Rattle.kfs_posix.specs.Removing.{open_now}

-- what moves, by the texts of both paths
abbrev pub rename_by : Objects → List ℕ → List ℕ → Result (Option Move) Errno
rename_by m old new = syntax old >>= λ from. syntax new >>= λ to. rename_in m from to

-- what is known of the node that was replaced, where there is one
abbrev pub without_replaced : Opens → Option ℕ → Opens
without_replaced o None = o
without_replaced o (Some n) = without_name o n

-- an entry moved, or both paths name one place
pub record Renamed (old : KfsState) (o : Opens) (judged : Result (Option Move) Errno) (new : KfsState) (files : Opens) : Type 0 where
  pub move : Option Move
  pub judge : judged ≡ Ok move
  pub effect : MovesTo old move (open_now o) new
  pub files_are : files ≡ without_replaced o (option_and_then replaced_node move)

abbrev pub NotRenamed : KfsState → Opens → Result (Option Move) Errno → CoreFault → KfsState → Opens → Type 0
NotRenamed old o judged (No e) new files = (judged ≡ Err e) × Same old new × (files ≡ o)
NotRenamed old o judged (Device fault) new files =
    Stays old new × (files ≡ o)
    × (GetFault (tx_in old) fault (tx_in new).machine ⊎ ((move : Move) × (judged ≡ Ok (Some move)) × MoveFault (tx_in old) move (open_now o) fault (tx_in new).machine))

-- what renaming did
abbrev pub RenameDone : {X : Type 0} → KfsState → Opens → Result (Option Move) Errno → Result X CoreFault → KfsState → Opens → Type 0
RenameDone old o judged (Ok x) new files = Renamed old o judged new files
RenameDone old o judged (Err fault) new files = NotRenamed old o judged fault new files
