-- What stands between where an entry moves, and the faults.
use Rattle.std.proofs.Common.{◌≡◌, ℕ, ◌+◌, inr, Bool, sym, ◌∙◌, ap, subst, arith, Option, Some, None, Result, Ok}
use Rattle.kv_device.specs.declared.fault.DeviceFault.{DeviceFault}
use Rattle.kv_device.specs.Objects.{Objects}
use Rattle.kfs_path.specs.declared.call.Errno.{Errno}
use Rattle.kfs_tx.specs.Tx.{Tx, seen}
use Rattle.kfs_core.specs.declared.fault.CoreFault.TheVariants.{Device}
use Rattle.kfs_core.specs.Core.{KfsState, tx_in, Stays}
use Rattle.kfs_core.specs.Removing.{Leaf}
use Rattle.kfs_core.specs.Renaming.{Move, Replaces, MoveFault, RenameFails, chunks_replaced}
use Rattle.kfs_core.proofs.Dropped.{Follows}
use Rattle.kfs_core.proofs.Naming.{follows_none, loses_follows}

pub replaces_follows : (old mid : Tx) (replaced : Option Leaf) (is_open : ℕ → Bool) → Replaces old replaced is_open mid → Follows old mid (1 + chunks_replaced replaced is_open)
replaces_follows old mid None is_open h =
    let same = subst (λ (r : Tx). Follows old r 0) (sym h) (follows_none old) in
    record { ready = same.ready; few = λ ready. let a = same.few ready in omega arith; same = same.same; slots = same.slots }
replaces_follows old mid (Some leaf) is_open h = loses_follows old mid leaf.node leaf.size (is_open leaf.node) h

-- ---- as the call tells it

module _ (old new : KfsState) (r mid : Tx) (judge : Objects → Result (Option Move) Errno) (is_open : ℕ → Bool) (move : Move) (is : r ≡ tx_in old) (leaves : mid ≡ r) (gives : judge (seen r) ≡ Ok (Some move)) where
  judged : judge (seen (tx_in old)) ≡ Ok (Some move)
  judged = ap (λ (x : Tx). judge (seen x)) (sym is) ∙ gives

  pub rename_failed : (fault : DeviceFault) → MoveFault mid move is_open fault (tx_in new).machine → Stays old new → RenameFails old (judge (seen (tx_in old))) is_open (Device fault) new
  rename_failed fault h stays = (stays, inr (move, judged, subst (λ (x : Tx). MoveFault x move is_open fault (tx_in new).machine) (leaves ∙ is) h))
