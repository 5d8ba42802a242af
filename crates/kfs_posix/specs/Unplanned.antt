-- Calls over a device for which neither a cut nor a fault is planned.
use Rattle.std.specs.Prelude.{◌≡◌}
use Rattle.kv_device.specs.Machine.{Machine}
use Rattle.kfs_path.specs.declared.call.Call.{Call}
use Rattle.kfs_path.specs.declared.call.Reply.{Reply}
use Rattle.kfs_model.specs.declared.Line.TheVariants as lines
use Rattle.kfs_model.specs.declared.Answer.TheVariants as answers
use Rattle.kfs_model.specs.Life.{State}
use Rattle.kfs_laws.specs.Plain.{PlainAnswer}
use Rattle.kfs_posix.specs.Answering.{CountsFaults}
use Rattle.kfs_posix.specs.Volume.{Volume, limits_of}
use Rattle.kfs_posix.specs.Showing.{ShowsState, GoesOn}

-- no cut and no fault can come
pub record IsUnplanned (m : Machine) : Type 0 where
  pub cuts : m.most_cuts ≡ m.cuts
  pub faults : m.most_faults ≡ m.faults

-- then a call of a session that is up is answered as it should be, or memory is wanting, and one of a session
-- that is down by `off`, in each state that the session shows
abbrev pub CallsFailUnplannedByMemoryAlone : Type 0
CallsFailUnplannedByMemoryAlone =
    (old new : Volume) (call : Call) (reply : Reply)
    → GoesOn old (lines.Call call) (answers.Reply reply) new → CountsFaults old.tx.machine reply new.tx.machine → IsUnplanned old.tx.machine
    → (s : State) → ShowsState old s → PlainAnswer (limits_of old) s.now (lines.Call call) (answers.Reply reply)
