-- What faults in the middle of a write say of its beginning, and the counts of keys.
use Rattle.std.proofs.Common.{◌≡◌, ℕ, ◌≤◌, ◌+◌, ◌&&◌, inl, inr, false, true, Bool, refl, subst, arith, List, length, nat_lt}
use Rattle.kv_device.specs.declared.fault.DeviceFault.{DeviceFault}
use Rattle.kv_device.specs.declared.fault.DeviceFault.TheVariants.{NoTx, Busy, TxFull, Full, BadSize, Off, Failed, Memory}
use Rattle.kv_device.specs.Machine.{Machine, Transactions}
use Rattle.kfs_objects.specs.Keys.{be64, be32, chunk_key}
use Rattle.kfs_tx.specs.Tx.{Tx, IsReady, changed_keys, Caused, CausedAlone, Fallen, HasCause}
use Rattle.kfs_tx.proofs.Falling.{get_falls, put_falls}
use Rattle.kfs_file.specs.Contents.{FailsWithin, PieceFault, CutFault, ChangesAtMost, pending_of}

-- a cause alone is a cause
pub caused_alone : (m : Machine) (fault : DeviceFault) (new : Machine) → CausedAlone m fault new → Caused m fault new
caused_alone m NoTx new h = h
caused_alone m Busy new h = h
caused_alone m TxFull new h = absurd h
caused_alone m (Full k p) new h = absurd h
caused_alone m BadSize new h = absurd h
caused_alone m Off new h = h
caused_alone m Failed new h = h
caused_alone m Memory new h = h

-- what is pending makes no difference to a cause
pub cause_before : (m : Machine) (p : Transactions) (fault : DeviceFault) (new : Machine) → Caused (record m { pending = p }) fault new → Caused m fault new
cause_before m p NoTx new h = h
cause_before m p Busy new h = h
cause_before m p TxFull new h = h
cause_before m p (Full k q) new h = h
cause_before m p BadSize new h = h
cause_before m p Off new h = h
cause_before m p Failed new h = h
cause_before m p Memory new h = h

has_cause_before : (m : Machine) (p : Transactions) (fault : DeviceFault) (new : Machine) → HasCause (record m { pending = p }) fault new → HasCause m fault new
has_cause_before m p NoTx new h = h
has_cause_before m p Busy new h = h
has_cause_before m p TxFull new h = h
has_cause_before m p (Full k q) new h = h
has_cause_before m p BadSize new h = h
has_cause_before m p Off new h = h
has_cause_before m p Failed new h = h
has_cause_before m p Memory new h = h

pub fallen_before : (m : Machine) (p : Transactions) (fault : DeviceFault) (new : Machine) → Fallen (record m { pending = p }) fault m.stable new → Fallen m fault m.stable new
fallen_before m p fault new f = record {
  cause = has_cause_before m p fault new f.cause;
  stable = f.stable;
  bounds = record { most_cuts = f.bounds.most_cuts; most_faults = f.bounds.most_faults; room_keys = f.bounds.room_keys; room_pages = f.bounds.room_pages };
}

small : (b : Bool) → (b && false) ≡ false
small true = refl
small false = refl

small_key : (value : List ℕ) (node chunk : ℕ) → (nat_lt 128 (length value) && nat_lt 32 (length (chunk_key node chunk))) ≡ false
unfolding be64 be32
small_key value node chunk = small (nat_lt 128 (length value))

-- a fault in the middle
pub fails_between : (old mid : Tx) (node chunk start keys : ℕ) (given : List ℕ) (fault : DeviceFault) (new : Machine) → mid ≡ pending_of mid old → (IsReady old → IsReady mid) → (IsReady old → changed_keys mid + 1 ≤ changed_keys old + keys)
    → PieceFault mid node chunk start given fault new → FailsWithin old keys fault new
fails_between old mid node chunk start keys given fault new same ready few h = record {
  cause = cause_before old.machine mid.machine.pending fault new (subst (λ (r : Tx). Caused r.machine fault new) same (elim h [ inl get ↦ caused_alone mid.machine fault new get.1 | inr put ↦ put.1 ]));
  fallen = λ is_ready room. fallen_before old.machine mid.machine.pending fault new (subst (λ (r : Tx). Fallen r.machine fault r.machine.stable new) same (elim h [
    | inl get ↦ get_falls mid fault new (ready is_ready) get
    | inr put ↦ let less = few is_ready in put_falls mid (chunk_key node chunk) _ fault new (ready is_ready) (omega arith) (small_key _ node chunk) put
  ]));
}

-- with more keys to spare
pub fails_weaker : (r : Tx) (k j : ℕ) (fault : DeviceFault) (new : Machine) → k ≤ j → FailsWithin r k fault new → FailsWithin r j fault new
fails_weaker r k j fault new le h = record { cause = h.cause; fallen = λ ready room. h.fallen ready (omega arith) }

-- a fault in what follows
pub fails_after : (old mid : Tx) (j k all : ℕ) (fault : DeviceFault) (new : Machine) → mid ≡ pending_of mid old → (IsReady old → IsReady mid) → ChangesAtMost old j mid → j + k ≤ all → FailsWithin mid k fault new → FailsWithin old all fault new
fails_after old mid j k all fault new same ready few le h = record {
  cause = cause_before old.machine mid.machine.pending fault new (subst (λ (r : Tx). Caused r.machine fault new) same h.cause);
  fallen = λ is_ready room. fallen_before old.machine mid.machine.pending fault new (subst (λ (r : Tx). Fallen r.machine fault r.machine.stable new) same (let so_far = few is_ready in h.fallen (ready is_ready) (omega arith)));
}

-- a fault where an object is cut
pub cut_fails : (r : Tx) (node chunk : ℕ) (count : ℕ) (fault : DeviceFault) (new : Machine) → CutFault r node chunk count fault new → FailsWithin r 1 fault new
cut_fails r node chunk count fault new h = record {
  cause = elim h [ inl get ↦ caused_alone r.machine fault new get.1 | inr put ↦ put.1 ];
  fallen = λ ready room. elim h [
    | inl get ↦ get_falls r fault new ready get
    | inr put ↦ put_falls r (chunk_key node chunk) _ fault new ready (omega arith) (small_key _ node chunk) put
  ];
}
