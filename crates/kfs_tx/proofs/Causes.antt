-- The causes of a setting's refusals and faults, and the ages after a change.
use Rattle.std.proofs.Common.{◌≡◌, ◌≤◌, ◌+◌, ◌^◌, ℕ, inl, inr, Bool, true, false, not, cond, refl, sym, ap, subst, arith, List, Result, Ok, Err, IfErr, Option, Some, None, is_some, slice_get, option_and_then}
use Rattle.kv_device.specs.declared.fault.DeviceFault.{DeviceFault}
use Rattle.kv_device.specs.declared.fault.DeviceFault.TheVariants.{NoTx, Busy, TxFull, Full, BadSize, Off, Failed, Memory}
use Rattle.kv_device.specs.Machine.{Machine, is_open}
use Rattle.kv_device.specs.Calls.{first_of, set_refusal, set_ages, IsFault, Falls, SetFault, Ages}
use Rattle.kfs_objects.specs.Keys.{be64}
use Rattle.kfs_objects.specs.Records.{super_value}
use Rattle.kfs_tx.specs.Tx.{RunningState, Aged, is_alone, Caused}
use Rattle.kfs_tx.proofs.Alone.{alone_is}

-- a refusal that a transaction that is the only one can meet
abbrev Meets : Option DeviceFault → Machine → Type 0
Meets None m = Unit {0}
Meets (Some NoTx) m = ⊥
Meets (Some Busy) m = ⊥
Meets (Some Failed) m = ⊥
Meets (Some Off) m = m.up ≡ false
Meets (Some fault) m = Unit {0}

falls_caused : (m : Machine) (fault : DeviceFault) (new : Machine) → Falls m fault new → Caused m fault new
falls_caused m NoTx new h = absurd h
falls_caused m Busy new h = absurd h
falls_caused m TxFull new h = absurd h
falls_caused m (Full k p) new h = absurd h
falls_caused m BadSize new h = absurd h
falls_caused m Off new h = inr (h.0, ap (λ (x : Machine). x.faults) h.1)
falls_caused m Failed new h = (h.0, ap (λ (x : Machine). x.cuts) h.1)
falls_caused m Memory new h = (ap (λ (x : Machine). x.cuts) h, ap (λ (x : Machine). x.faults) h)

same_counts : (m new : Machine) → new ≡ m → (new.cuts ≡ m.cuts) × (new.faults ≡ m.faults)
same_counts m new e = (ap (λ (x : Machine). x.cuts) e, ap (λ (x : Machine). x.faults) e)

refused : (o : Option DeviceFault) (m : Machine) (fault : DeviceFault) (new : Machine) → Meets o m → IsFault o Falls m fault new → Caused m fault new
refused None m fault new h f = falls_caused m fault new f
refused (Some NoTx) m fault new h f = absurd h
refused (Some Busy) m fault new h f = absurd h
refused (Some Failed) m fault new h f = absurd h
refused (Some Off) m fault new h f = subst (λ x. Caused m x new) (sym f.0) (let e = same_counts m new f.1 in inl (h, e.0, e.1))
refused (Some TxFull) m fault new h f = subst (λ x. Caused m x new) (sym f.0) (same_counts m new f.1)
refused (Some (Full k p)) m fault new h f = subst (λ x. Caused m x new) (sym f.0) (same_counts m new f.1)
refused (Some BadSize) m fault new h f = subst (λ x. Caused m x new) (sym f.0) (same_counts m new f.1)
refused (Some Memory) m fault new h f = subst (λ x. Caused m x new) (sym f.0) (same_counts m new f.1)

open_alone : (m : Machine) (tx : ℕ) → is_alone m.pending tx ≡ true → is_open m tx ≡ true
open_alone m tx e = let a = alone_is m.pending tx e in λ i. is_some (option_and_then (λ t. t) (slice_get (a.is i) (a.first i)))

meets_first : (m : Machine) (tx : ℕ) (rest : Option DeviceFault) → (m.up ≡ true → is_alone m.pending tx ≡ true) → Meets rest m → Meets (first_of m tx rest) m
meets_first m tx rest alone h = by m.up refl
  where
    by : (b : Bool) → m.up ≡ b → Meets (cond (not b) (Some Off) (cond (not (is_open m tx)) (Some NoTx) rest)) m
    by true e = subst (λ o. Meets (cond (not o) (Some NoTx) rest) m) (sym (open_alone m tx (alone e))) h
    by false e = e

meets_own : (m : Machine) (b c : Bool) → Meets (cond b (Some BadSize) (cond c (Some TxFull) None)) m
meets_own m true c = tt
meets_own m false true = tt
meets_own m false false = tt

-- why a setting was refused or failed
pub set_caused : {X : Type 0} (m : Machine) (tx : ℕ) (key value : List ℕ) (r : Result X DeviceFault) (new : Machine) → (m.up ≡ true → is_alone m.pending tx ≡ true) → IfErr r (λ fault. SetFault m tx key value fault new) → IfErr r (λ fault. Caused m fault new)
set_caused m tx key value (Ok x) new alone h = tt
set_caused m tx key value (Err fault) new alone h = refused (set_refusal m tx key value) m fault new (meets_first m tx _ alone (meets_own m _ _)) h

-- setting a super writes nothing
pub super_ages : (k n : ℕ) → set_ages (super_value k n) ≡ 0
unfolding be64
super_ages k n = refl

-- the ages after a change: the super's is set, and the transaction ended
pub change_ages : (old mid new : RunningState) (next : ℕ) → Aged old mid 0 → Ages mid.device_age new.device_age (2 ^ 16) → new.tx.changes ≡ old.tx.changes + 1 → new.tx.next ≡ next → old.tx.next ≤ next → next ≤ old.tx.next + 1 → Aged old new (2 ^ 16)
change_ages old mid new next set ended changes is least most = record { device = record { later = omega arith; bounded = omega arith }; whole = record { later = omega arith; bounded = omega arith } }

-- the ages after a super is set and the transaction's end fails
pub failed_ages : (old mid new : RunningState) → Aged old mid 0 → Aged mid new (2 ^ 16) → Aged old new (2 ^ 16)
failed_ages old mid new set ended = record { device = record { later = omega arith; bounded = omega arith }; whole = record { later = omega arith; bounded = omega arith } }
