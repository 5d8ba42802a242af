-- What each fault of a device leaves.
use Rattle.std.proofs.Common.{◌≡◌, inl, inr, ℕ, false, refl, ◌∙◌, ap, List, Option, Some, None}
use Rattle.std.specs.FinMap as objects
use Rattle.kv_device.specs.Machine.{Machine, view}
use Rattle.kv_device.specs.declared.fault.DeviceFault.{DeviceFault}
use Rattle.kv_device.specs.declared.fault.DeviceFault.TheVariants.{NoTx, Busy, TxFull, Full, BadSize, Off, Failed, Memory}
use Rattle.kv_device.specs.Calls.{IsFault, Never, FallsReading, Falls, FallsEnding, BeginFault, ReadFault, SetFault, DeleteFault, EndFault, AbortFault, WorkFault, begin_refusal, first_of, set_refusal, delete_refusal, off_refusal}
use Rattle.kfs_cache.specs.Knowing.{FellDown, Left, is_changed}
use Rattle.kfs_cache.proofs.Fitting.{unchanged_view}

-- with stable as it was, or as it is after an end
abbrev Stands : Machine → Machine → Type 0
Stands old base = (key : List ℕ) → ((tx : ℕ) → is_changed old tx key ≡ false) → objects.get base.stable key ≡ objects.get old.stable key

abbrev stable_at : List ℕ → Machine → Option (List ℕ)
stable_at key m = objects.get m.stable key

-- of a call that reads
reading_fell : (old base : Machine) (fault : DeviceFault) (new : Machine) → Stands old base → FallsReading base fault new → FellDown old fault new
reading_fell old base NoTx new stands h = absurd h
reading_fell old base Busy new stands h = absurd h
reading_fell old base TxFull new stands h = absurd h
reading_fell old base (Full k p) new stands h = absurd h
reading_fell old base BadSize new stands h = absurd h
reading_fell old base Off new stands h = absurd h
reading_fell old base Failed new stands h = record { told = refl; pending = ap (λ (m : Machine). m.pending) h.1; stable = λ key none. ap (stable_at key) h.1 ∙ stands key none }
reading_fell old base Memory new stands h = record { told = refl; pending = ap (λ (m : Machine). m.pending) h; stable = λ key none. ap (stable_at key) h ∙ stands key none }

same_stands : (old : Machine) → Stands old old
same_stands old key none = refl

end_stands : (old : Machine) (tx : ℕ) → Stands old (record old { stable = view old tx })
end_stands old tx key none = unchanged_view old tx key (none tx)

fell : (old : Machine) (fault : DeviceFault) (new : Machine) → Falls old fault new → FellDown old fault new
fell old NoTx new h = absurd h
fell old Busy new h = absurd h
fell old TxFull new h = absurd h
fell old (Full k p) new h = absurd h
fell old BadSize new h = absurd h
fell old Off new h = record { told = refl; pending = ap (λ (m : Machine). m.pending) h.1; stable = λ key none. ap (stable_at key) h.1 }
fell old Failed new h = reading_fell old old Failed new (same_stands old) h
fell old Memory new h = reading_fell old old Memory new (same_stands old) h

ending_left : (old : Machine) (tx : ℕ) (fault : DeviceFault) (new : Machine) → FallsEnding (view old tx) old fault new → Left old fault new
ending_left old tx NoTx new h = elim h [ inl a ↦ absurd a | inr b ↦ absurd b.1 ]
ending_left old tx Busy new h = elim h [ inl a ↦ absurd a | inr b ↦ absurd b.1 ]
ending_left old tx TxFull new h = elim h [ inl a ↦ absurd a | inr b ↦ absurd b.1 ]
ending_left old tx (Full k p) new h = inl h.3
ending_left old tx BadSize new h = elim h [ inl a ↦ absurd a | inr b ↦ absurd b.1 ]
ending_left old tx Off new h = elim h.1 [
  | inl a ↦ inr (record { told = refl; pending = ap (λ (m : Machine). m.pending) a.1; stable = λ key none. ap (stable_at key) a.1 })
  | inr b ↦ inr (record { told = refl; pending = ap (λ (m : Machine). m.pending) b.1; stable = λ key none. ap (stable_at key) b.1 ∙ end_stands old tx key none })
]
ending_left old tx Failed new h = elim h [
  | inl a ↦ inr (reading_fell old old Failed new (same_stands old) a)
  | inr b ↦ inr (reading_fell old (record old { stable = view old tx }) Failed new (end_stands old tx) b.1)
]
ending_left old tx Memory new h = elim h [
  | inl a ↦ inr (reading_fell old old Memory new (same_stands old) a)
  | inr b ↦ inr (reading_fell old (record old { stable = view old tx }) Memory new (end_stands old tx) b.1)
]

fault_left : (r : Option DeviceFault) (outside : Machine → DeviceFault → Machine → Type 0) (old : Machine) (fault : DeviceFault) (new : Machine) → (outside old fault new → Left old fault new) → IsFault r outside old fault new → Left old fault new
fault_left None outside old fault new falls h = falls h
fault_left (Some refusal) outside old fault new falls h = inl h.1

pub begin_left : (m : Machine) (fault : DeviceFault) (new : Machine) → BeginFault m fault new → Left m fault new
begin_left m fault new h = fault_left (begin_refusal m) Never m fault new (λ a. absurd a) h

pub read_left : (m : Machine) (tx : ℕ) (fault : DeviceFault) (new : Machine) → ReadFault m tx fault new → Left m fault new
read_left m tx fault new h = fault_left (first_of m tx None) FallsReading m fault new (λ a. inr (reading_fell m m fault new (same_stands m) a)) h

pub set_left : (m : Machine) (tx : ℕ) (key value : List ℕ) (fault : DeviceFault) (new : Machine) → SetFault m tx key value fault new → Left m fault new
set_left m tx key value fault new h = fault_left (set_refusal m tx key value) Falls m fault new (λ a. inr (fell m fault new a)) h

pub delete_left : (m : Machine) (tx : ℕ) (key : List ℕ) (fault : DeviceFault) (new : Machine) → DeleteFault m tx key fault new → Left m fault new
delete_left m tx key fault new h = fault_left (delete_refusal m tx key) FallsReading m fault new (λ a. inr (reading_fell m m fault new (same_stands m) a)) h

pub end_left : (m : Machine) (tx : ℕ) (fault : DeviceFault) (new : Machine) → EndFault m tx fault new → Left m fault new
end_left m tx fault new h = fault_left (first_of m tx None) (FallsEnding (view m tx)) m fault new (ending_left m tx fault new) h

pub abort_left : (m : Machine) (tx : ℕ) (fault : DeviceFault) (new : Machine) → AbortFault m tx fault new → Left m fault new
abort_left m tx fault new h = fault_left (first_of m tx None) Never m fault new (λ a. absurd a) h

pub work_left : (m : Machine) (fault : DeviceFault) (new : Machine) → WorkFault m fault new → Left m fault new
work_left m fault new h = fault_left (off_refusal m) Falls m fault new (λ a. inr (fell m fault new a)) h
