-- `rename` of a session, by what it did.
use Rattle.std.proofs.Common.{◌≡◌, ℕ, ◌+◌, ◌-◌, inl, inr, true, refl, ◌∙◌, ap, subst, List, Option, Some, None, Result, Ok}
use Rattle.std.specs.Option.{option_and_then}
use Rattle.kfs_path.specs.declared.call.Call.{Call}
use Rattle.kfs_path.specs.declared.call.Call.TheVariants as calls
use Rattle.kfs_path.specs.declared.call.Cause.{Cause}
use Rattle.kfs_path.specs.declared.call.Errno.{Errno}
use Rattle.kfs_path.specs.declared.call.Reply.{Reply}
use Rattle.kfs_path.specs.declared.call.Reply.TheVariants as replies
use Rattle.kfs_model.specs.Ladder.{◌>>=◌}
use Rattle.kfs_model.specs.Step.{Route, syntax}
use Rattle.kfs_tx.specs.Tx.{seen, one_change}
use Rattle.kfs_core.specs.declared.fault.CoreFault.{CoreFault}
use Rattle.kfs_core.specs.declared.fault.CoreFault.TheVariants.{No, Device}
use Rattle.kfs_core.specs.declared.renaming.Move.{Move}
use Rattle.kfs_core.specs.Core.{KfsState, tx_in}
use Rattle.kfs_core.specs.Removing.{is_open_in}
use Rattle.kfs_core.specs.Renaming.{MovesTo, MoveFault, RenameFails, with_moved, chunks_replaced, keys_replaced, replaced_node}
use Rattle.kfs_posix.specs.Opens.{Opens, nodes_of}
use Rattle.kfs_posix.specs.Removing.{open_now}
use Rattle.kfs_posix.specs.Renaming.{Renamed, NotRenamed, rename_by, without_replaced}
use Rattle.kfs_posix.specs.Volume.{Volume, SessionState, state_of, volume_of, cause_of}
use Rattle.kfs_posix.specs.Answering.{IsYoung, refusal, down_after}
use Rattle.kfs_posix.proofs.Events.{unread, erred, taken_down, Happens, same_machine, answered, low_count, Fails}
use Rattle.kfs_posix.proofs.Calls.{any_cause}
use Rattle.kfs_posix.proofs.Planned.{changed_same}
use Rattle.kfs_posix.proofs.RenameGoes.{moved_same, rename_caused, rename_rest, rename_no, rename_goes, rename_falls}

-- what the call failed with, by the paths' texts
pub rename_not_done : (old new : KfsState) (o : Opens) (p q : List ℕ) (from to : Route) (judge : Route → Route → Result (Option Move) Errno) (nodes : List (List ℕ)) (fault : CoreFault) → syntax p ≡ Ok from → syntax q ≡ Ok to → nodes ≡ nodes_of o
    → RenameFails old (judge from to) (is_open_in nodes) fault new → NotRenamed old o (syntax p >>= λ f. syntax q >>= λ g. judge f g) fault new o
rename_not_done old new o p q from to judge nodes (No e) a b is (judged, same) = ((λ i. a i >>= λ f. b i >>= λ g. judge f g) ∙ judged, same, refl)
rename_not_done old new o p q from to judge nodes (Device f) a b is (stays, inl unread) = (stays, refl, inl unread)
rename_not_done old new o p q from to judge nodes (Device fault) a b is (stays, inr (move, judged, fell)) =
    (stays, refl, inr (move, (λ i. a i >>= λ f. b i >>= λ g. judge f g) ∙ judged, subst (λ ns. MoveFault (tx_in old) move (is_open_in ns) fault (tx_in new).machine) is fell))

module _ (old : SessionState) (k0 k1 : KfsState) (o o1 : Opens) (d : Option Cause) (is : state_of k0 o d ≡ old) (up : d ≡ None) (awake : (tx_in k0).machine.up ≡ true) (age : IsYoung old) (from to : List ℕ) where
  abbrev b : Volume
  b = volume_of k0 o d

  abbrev call : Call
  call = calls.Rename from to

  abbrev judge : Result (Option Move) Errno
  judge = rename_by (seen (tx_in k0)) from to

  pub rename_answered : Renamed k0 o judge k1 o1 → Happens old call replies.Done k1 o1 d
  rename_answered h = by h.move h.judge h.effect h.files_are
    where
      by : (x : Option Move) → judge ≡ Ok x → MovesTo k0 x (open_now o) k1 → o1 ≡ without_replaced o (option_and_then replaced_node x) → Happens old call replies.Done k1 o1 d
      by None judged same files =
          answered old k0 k1 o o1 d is up call replies.Done tt (tx_in k0) k0.charge k0.chunks o (same_machine (tx_in k0))
          (ap tx_in same) same files
          (rename_rest b from to up judged)
      by (Some move) judged (moves, frees) files =
          let n = 4 + chunks_replaced move.replaced (open_now o) in
          answered old k0 k1 o o1 d is up call replies.Done tt (one_change (with_moved moves.mid move) n moves.mid.next) (k0.charge - keys_replaced move.replaced (open_now o)) (k0.chunks - chunks_replaced move.replaced (open_now o))
          (without_replaced o (replaced_node move))
          (changed_same (tx_in k0) (with_moved moves.mid move) (moved_same (tx_in k0) move (open_now o) moves.mid moves.replaces) n moves.mid.next)
          moves.change frees files
          (rename_goes b from to up move judged (low_count old k0 o d is age) moves.mid moves.replaces)

  pub rename_failed : (fault : CoreFault) (reply : Reply) (d1 : Option Cause) → NotRenamed k0 o judge fault k1 o1 → reply ≡ refusal fault → d1 ≡ down_after d fault → Fails old call fault reply k1 o1 d1
  rename_failed (No e) reply d1 h reply_is down =
      erred old k0 k1 o o1 d is up call e reply d1 reply_is down (ap tx_in h.1) h.1 h.2 (rename_no b from to up e h.0)
  rename_failed (Device f) reply d1 (stays, files, inl unread_is) reply_is down =
      unread old k0 k1 o o1 d is up call f reply d1 reply_is down awake stays files (λ live sh cause. any_cause live.world call refl refl refl cause) unread_is
  rename_failed (Device f) reply d1 (stays, files, inr (move, judged, fell)) reply_is down =
      taken_down old k0 k1 o o1 d is up call f reply d1 reply_is down awake stays files (rename_caused (tx_in k0) move (open_now o) f (tx_in k1).machine fell)
      (rename_falls b from to up move judged (low_count old k0 o d is age) (record b { tx = tx_in k1; down = Some (cause_of f) }) f refl refl fell)
