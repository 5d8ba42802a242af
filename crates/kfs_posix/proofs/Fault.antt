-- What a session's answers to faults say of counts, causes and lives.
use Rattle.std.proofs.Common.{◌≡◌, ℕ, inl, inr, true, false, sym, ◌∙◌, ap, List, None}
use Rattle.kv_device.specs.declared.fault.DeviceFault.{DeviceFault}
use Rattle.kv_device.specs.declared.fault.DeviceFault.TheVariants.{NoTx, Busy, TxFull, Full, BadSize, Off, Failed, Memory}
use Rattle.kv_device.specs.Machine.{Machine}
use Rattle.kfs_path.specs.declared.call.Reply.TheVariants as replies
use Rattle.kfs_tx.specs.Tx.{Tx, Caused, CausedAlone}
use Rattle.kfs_core.specs.declared.fault.CoreFault.{CoreFault}
use Rattle.kfs_core.specs.declared.fault.CoreFault.TheVariants.{No, Device}
use Rattle.kfs_core.specs.Making.{AddFault}
use Rattle.kfs_posix.specs.Volume.{Volume, cause_of}
use Rattle.kfs_posix.specs.Answering.{CountsFaults, KeepsCause, refusal, down_after}

-- ---- counts

pub caused_counts : (m : Machine) (fault : DeviceFault) (new : Machine) → m.up ≡ true → Caused m fault new → CountsFaults m (replies.Down (cause_of fault)) new
caused_counts m NoTx new up h = absurd h
caused_counts m Busy new up h = absurd h
caused_counts m TxFull new up h = h
caused_counts m (Full k p) new up h = h
caused_counts m BadSize new up h = h
caused_counts m Off new up (inl h) = absurd (let e : true ≡ false = sym up ∙ h.0 in cc)
caused_counts m Off new up (inr h) = h
caused_counts m Failed new up h = h
caused_counts m Memory new up h = h

pub alone_caused : (m : Machine) (fault : DeviceFault) (new : Machine) → CausedAlone m fault new → Caused m fault new
alone_caused m NoTx new h = absurd h
alone_caused m Busy new h = absurd h
alone_caused m TxFull new h = absurd h
alone_caused m (Full k p) new h = absurd h
alone_caused m BadSize new h = absurd h
alone_caused m Off new h = h
alone_caused m Failed new h = h
alone_caused m Memory new h = h

pub same_counts : (m new : Machine) → new ≡ m → (new.cuts ≡ m.cuts) × (new.faults ≡ m.faults)
same_counts m new e = (ap (λ (x : Machine). x.cuts) e, ap (λ (x : Machine). x.faults) e)

pub make_caused : (r : Tx) (kind parent : ℕ) (name : List ℕ) (fault : DeviceFault) (new : Machine) → AddFault r kind parent name fault new → Caused r.machine fault new
make_caused r kind parent name fault new (inl h) = h.1
make_caused r kind parent name fault new (inr (inl h)) = h.1
make_caused r kind parent name fault new (inr (inr (inl h))) = h.1
make_caused r kind parent name fault new (inr (inr (inr h))) = h.1.1

-- ---- causes

pub refused_keeps : (old new : Volume) (fault : CoreFault) → old.down ≡ None → new.down ≡ down_after old.down fault → KeepsCause old (refusal fault) new
refused_keeps old new (No e) up h = (up, h ∙ up)
refused_keeps old new (Device f) up h = (up, h)

-- what a boundary leaves of a tx's device
pub record SameMachine (old new : Machine) : Type 0 where
  pub up : new.up ≡ old.up
  pub cuts : new.cuts ≡ old.cuts
  pub faults : new.faults ≡ old.faults
