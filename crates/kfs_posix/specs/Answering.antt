-- Which counts rose in a call, and what the session keeps of it, by the reply.
use Rattle.std.specs.Prelude.{ℕ, ◌≡◌, ◌≤◌, ◌<◌, ◌-◌, ◌^◌, Option, Some, None, IsSome}
use Rattle.kv_device.specs.Asked.{Asked}
use Rattle.kv_device.specs.Machine.{Machine}
use Rattle.kv_device.specs.Calls.{Rises}
use Rattle.kfs_path.specs.declared.call.Call.{Call}
use Rattle.kfs_path.specs.declared.call.Call.TheVariants.{Work}
use Rattle.kfs_path.specs.declared.call.Cause.{Cause}
use Rattle.kfs_path.specs.declared.call.Cause.TheVariants.{Cut, Eio}
use Rattle.kfs_path.specs.declared.call.Reply.{Reply}
use Rattle.kfs_path.specs.declared.call.Reply.TheVariants.{Down, Off, Err}
use Rattle.kfs_model.specs.declared.Line.TheVariants as lines
use Rattle.kfs_model.specs.declared.Answer.TheVariants as answers
use Rattle.kfs_tx.specs.Tx.{age_of, Aged}
use Rattle.kfs_core.specs.declared.fault.CoreFault.{CoreFault}
use Rattle.kfs_core.specs.declared.fault.CoreFault.TheVariants.{No, Device}
use Rattle.kfs_core.specs.Starting.{IsOutside}
use Rattle.kfs_posix.specs.Volume.{Volume, SessionState, running_in, limits_of, cause_of}
use Rattle.kfs_posix.specs.Showing.{GoesOn}

-- the cuts rose exactly where it is down by a cut, the faults exactly where it is down by a fault
abbrev pub CountsFaults : Machine → Reply → Machine → Type 0
CountsFaults old (Down Cut) new = Rises old.cuts new.cuts old.most_cuts × (new.faults ≡ old.faults)
CountsFaults old (Down Eio) new = Rises old.faults new.faults old.most_faults × (new.cuts ≡ old.cuts)
CountsFaults old reply new = (new.cuts ≡ old.cuts) × (new.faults ≡ old.faults)

-- a session that is up asks its device for as many operations as it is asked for; `off` is the answer of one that is down
abbrev pub AsksWork : ℕ → Reply → Asked → Type 0
AsksWork operations Off asked = Unit {0}
AsksWork operations reply asked = asked.work ≡ operations

-- so of the call of work; other calls ask for none
abbrev pub Asks : Call → Reply → Asked → Type 0
Asks (Work operations) reply asked = AsksWork operations reply asked
Asks call reply asked = Unit {0}

-- it goes down exactly at an answer that says so, answers so while it is down, and keeps the cause
abbrev pub KeepsCause : Volume → Reply → Volume → Type 0
KeepsCause old (Down cause) new = (old.down ≡ None) × (new.down ≡ Some cause)
KeepsCause old Off new = IsSome old.down × (new ≡ old)
KeepsCause old reply new = (old.down ≡ None) × (new.down ≡ None)

-- its numbers leave room for a call
abbrev pub IsYoung : SessionState → Type 0
IsYoung s = age_of (running_in s) < 2 ^ 63 - 2 ^ 40

-- it has at most as many keys as the largest device
abbrev pub HasFewKeys : SessionState → Type 0
HasFewKeys s = s.volume.keys ≤ 68544

-- the call and its reply lead on, the counts of cuts and faults rose as the reply tells, the limits stay, the cause
-- is kept, and the numbers grew by little
pub record Answers (old : SessionState) (call : Call) (reply : Reply) (new : SessionState) : Type 0 where
  pub goes_on : GoesOn old.volume (lines.Call call) (answers.Reply reply) new.volume
  pub counts : CountsFaults old.volume.tx.machine reply new.volume.tx.machine
  pub room : limits_of new.volume ≡ limits_of old.volume
  pub down : KeepsCause old.volume reply new.volume
  pub age : Aged (running_in old) (running_in new) (2 ^ 38)

-- a fault that a session has an answer to: an error of the call, or that power, the device or memory was missing
abbrev pub IsAnswerable : CoreFault → Type 0
IsAnswerable (No errno) = Unit {0}
IsAnswerable (Device fault) = IsOutside fault

-- the answer to a fault, and the cause that is kept after it
abbrev pub refusal : CoreFault → Reply
refusal (No errno) = Err errno
refusal (Device fault) = Down (cause_of fault)

abbrev pub down_after : Option Cause → CoreFault → Option Cause
down_after down (No errno) = down
down_after down (Device fault) = Some (cause_of fault)
