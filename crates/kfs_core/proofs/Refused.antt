-- Objects that are refused stay as they were, and none that are clear are refused.
use Rattle.std.proofs.Common.{◌≡◌, sym, ap, subst}
use Rattle.kv_base.specs.declared.damage.Damage.{Damage}
use Rattle.kv_device.specs.Objects.{Objects}
use Rattle.kv_device.specs.Machine.{Machine}
use Rattle.kv_device.specs.declared.fault.DeviceFault.{DeviceFault}
use Rattle.kv_device.specs.declared.fault.DeviceFault.TheVariants as faults
use Rattle.kfs_damages.specs.Damages.{IsTreeDamage, IsClear}
use Rattle.kfs_damages.proofs.One.{damaged_is_not_clear}
use Rattle.kfs_judge.specs.Judging.{heard, room_in}
use Rattle.kfs_tx.specs.Tx.{HasCause, SameBounds}
use Rattle.kfs_core.specs.declared.fault.HostFault.TheVariants.{Damaged}
use Rattle.kfs_core.specs.Clearing.{Keeps}
use Rattle.kfs_core.specs.Starting.{NotMounted, HostCause, host_fault}
use Rattle.kfs_core.proofs.Cleared.{keeps_same}

pub refused : (old new : Machine) (damage : Damage) → IsTreeDamage (room_in old) (heard old.stable) damage × (new ≡ old) → NotMounted old (Damaged damage) new
refused old new damage h = record {
  cause = h;
  keeps = subst (λ (o : Objects). Keeps old.stable o) (sym (ap (λ (m : Machine). m.stable) h.1)) (keeps_same old.stable);
  bounds = record {
    most_cuts = ap (λ (m : Machine). m.most_cuts) h.1;
    most_faults = ap (λ (m : Machine). m.most_faults) h.1;
    room_keys = ap (λ (m : Machine). m.room_keys) h.1;
    room_pages = ap (λ (m : Machine). m.room_pages) h.1;
  };
  damaged = λ d is. ap (λ (m : Machine). m.stable) h.1;
}

host_cause : (old new : Machine) (fault : DeviceFault) → HasCause old fault new → HostCause old (host_fault fault) new
host_cause old new faults.NoTx h = absurd h
host_cause old new faults.Busy h = absurd h
host_cause old new faults.TxFull h = absurd h
host_cause old new (faults.Full keys pages) h = absurd h
host_cause old new faults.BadSize h = absurd h
host_cause old new faults.Off h = h
host_cause old new faults.Failed h = h
host_cause old new faults.Memory h = h

-- a fault behind objects that are clear
pub fails_clear : (old new : Machine) (fault : DeviceFault) → IsClear (room_in old) (heard old.stable) → HasCause old fault new → Keeps old.stable new.stable → SameBounds old new → NotMounted old (host_fault fault) new
fails_clear old new fault clear cause keeps bounds = record {
  cause = host_cause old new fault cause;
  keeps = keeps;
  bounds = bounds;
  damaged = λ damage is. absurd (damaged_is_not_clear (room_in old) (heard old.stable) damage is clear);
}
