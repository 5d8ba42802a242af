-- What a device leaves that could not be woken.
use Rattle.std.specs.Prelude.{◌≡◌, Option}
use Rattle.kv_device.specs.Machine.{Machine}
use Rattle.kfs_core.specs.declared.fault.HostFault.{HostFault}
use Rattle.kfs_core.specs.declared.fault.HostFault.TheVariants.{Damaged, Cut, Eio, NoMem}
use Rattle.kfs_core.specs.Starting.{HostCause}
use Rattle.kfs_runner.specs.Refusals.{Rested, damaged_in}

-- the first damage of the image, with no count risen, or which count rose, by the fault
abbrev pub WakeCause : Option Rested → Machine → HostFault → Machine → Type 0
WakeCause rested old (Damaged damage) new = damaged_in rested damage × (new.cuts ≡ old.cuts) × (new.faults ≡ old.faults)
WakeCause rested old Cut new = HostCause old Cut new
WakeCause rested old Eio new = HostCause old Eio new
WakeCause rested old NoMem new = HostCause old NoMem new

-- the count of the fault's cause rose, and nothing else changed
pub record NotWoken (rested : Option Rested) (old : Machine) (fault : HostFault) (new : Machine) : Type 0 where
  pub cause : WakeCause rested old fault new
  pub same : new ≡ record old { cuts = new.cuts; faults = new.faults }

-- no damage
abbrev pub IsOutside : HostFault → Type 0
IsOutside (Damaged damage) = ⊥
IsOutside Cut = Unit {0}
IsOutside Eio = Unit {0}
IsOutside NoMem = Unit {0}
