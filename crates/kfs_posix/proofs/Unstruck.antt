-- Where neither a cut nor a fault is planned, a call is answered as it should be, or memory is wanting.
use Rattle.std.proofs.Common.{ℕ, ◌≡◌, ◌<◌, ◌≤◌, ◌^◌, inl, inr, refl, ap, subst, arith}
use Rattle.kv_base.specs.Counts.{one_more}
use Rattle.kv_device.specs.Machine.{Machine}
use Rattle.kfs_path.specs.declared.call.Call.{Call}
use Rattle.kfs_path.specs.declared.call.Cause.TheVariants.{Cut, Eio, NoMem}
use Rattle.kfs_path.specs.declared.call.Reply.{Reply}
use Rattle.kfs_path.specs.declared.call.Reply.TheVariants as replies
use Rattle.kfs_model.specs.declared.Line.TheVariants as lines
use Rattle.kfs_model.specs.declared.Answer.TheVariants as answers
use Rattle.kfs_model.specs.Tree.{Limits}
use Rattle.kfs_model.specs.Life.{State, Now, Up, Down, EventAt, live_after, fallen}
use Rattle.kfs_model.specs.Step.{step}
use Rattle.kfs_laws.specs.Plain.{PlainAnswer}
use Rattle.kfs_posix.specs.Answering.{CountsFaults}
use Rattle.kfs_posix.specs.Volume.{limits_of}
use Rattle.kfs_posix.specs.Unplanned.{IsUnplanned, CallsFailUnplannedByMemoryAlone}
use Rattle.kfs_posix.proofs.Shown.{fits}

-- a count at its bound doesn't rise
at_bound : (old new most : ℕ) → most ≡ old → most < 2 ^ 63 → new ≤ most → new ≡ one_more old → ⊥
at_bound old new most bound few low up = omega arith

no_cut : (m new : Machine) (reply : Reply) → IsUnplanned m → m.most_cuts < 2 ^ 63 → CountsFaults m reply new → reply ≡ replies.Down Cut → ⊥
no_cut m new reply none few counts is =
    let h : CountsFaults m (replies.Down Cut) new = subst (λ r. CountsFaults m r new) is counts in
    at_bound m.cuts new.cuts m.most_cuts none.cuts few h.0.0 h.0.1

no_fault : (m new : Machine) (reply : Reply) → IsUnplanned m → m.most_faults < 2 ^ 63 → CountsFaults m reply new → reply ≡ replies.Down Eio → ⊥
no_fault m new reply none few counts is =
    let h : CountsFaults m (replies.Down Eio) new = subst (λ r. CountsFaults m r new) is counts in
    at_bound m.faults new.faults m.most_faults none.faults few h.0.0 h.0.1

plain_at : (k : Limits) (s t : State) (now : Now) (call : Call) (reply : Reply) → (reply ≡ replies.Down Cut → ⊥) → (reply ≡ replies.Down Eio → ⊥) → EventAt k s now (lines.Call call) (answers.Reply reply) t → PlainAnswer k now (lines.Call call) (answers.Reply reply)
plain_at k s t (Up live) call reply uncut unfailed (d, free, inl done) = (Up (live_after live call (step k d live.world call)), (d, free, inl (ap answers.Reply done.0, refl)))
plain_at k s t (Up live) call reply uncut unfailed (d, free, inr (Cut, is, armed, left)) = absurd (uncut is)
plain_at k s t (Up live) call reply uncut unfailed (d, free, inr (Eio, is, armed, left)) = absurd (unfailed is)
plain_at k s t (Up live) call reply uncut unfailed (d, free, inr (NoMem, is, armed, left)) = (fallen live call (step k d live.world call), (d, free, inr (ap answers.Reply is, refl)))
plain_at k s t (Down past may) call reply uncut unfailed h = (Down past may, (ap answers.Reply h.0, refl))

pub calls_plain : CallsFailUnplannedByMemoryAlone
calls_plain old new call reply goes counts none s shows =
    let done = goes.each s (fits old s shows) in
    plain_at (limits_of old) s done.0 s.now call reply (no_cut old.tx.machine new.tx.machine reply none shows.few_cuts counts) (no_fault old.tx.machine new.tx.machine reply none shows.few_faults counts) done.1
