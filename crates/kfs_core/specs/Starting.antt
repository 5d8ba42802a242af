-- What a mount finds and leaves, and what a format leaves.
use Rattle.std.specs.Prelude.{◌≡◌, ◌<◌, ◌^◌, ◌⊎◌, Some}
use Rattle.std.specs.Option.{option_and_then}
use Rattle.std.specs.FinMap as objects
use Rattle.kv_base.specs.declared.damage.Damage.{Damage}
use Rattle.kv_device.specs.declared.fault.DeviceFault.{DeviceFault}
use Rattle.kv_device.specs.declared.fault.DeviceFault.TheVariants.{Off, Failed, Memory}
use Rattle.kv_device.specs.Objects.{Objects}
use Rattle.kv_device.specs.Machine.{Machine, none_open}
use Rattle.kv_device.specs.Calls.{Rises}
use Rattle.kfs_objects.specs.declared.records.Super.{Super}
use Rattle.kfs_objects.specs.Keys.{super_key, inode_key}
use Rattle.kfs_objects.specs.Records.{super_value, inode_value, read_super}
use Rattle.kfs_damages.specs.Damages.{IsTreeDamage, IsClear}
use Rattle.kfs_judge.specs.Judging.{heard, room_in}
use Rattle.kfs_tx.specs.Tx.{SameBounds, CausedAlone}
use Rattle.kfs_core.specs.declared.fault.HostFault.{HostFault}
use Rattle.kfs_core.specs.declared.fault.HostFault.TheVariants.{Damaged, Cut, Eio, NoMem}
use Rattle.kfs_core.specs.Clearing.{Keeps, Cleared, begun_over}
use Rattle.kfs_core.specs.Counted.{charge_in, chunks_in}
use Rattle.kfs_core.specs.Core.{KfsState, tx_in}

-- power, the device or memory was missing; the device refused nothing
abbrev pub IsOutside : DeviceFault → Type 0
IsOutside Off = Unit {0}
IsOutside Failed = Unit {0}
IsOutside Memory = Unit {0}
IsOutside fault = ⊥

-- a fault of the device, as a mount tells it
abbrev pub host_fault : DeviceFault → HostFault
host_fault Off = Cut
host_fault Failed = Eio
host_fault fault = NoMem

-- the first damage of the objects, which leaves all as it was, or which count rose, by the fault of a mount
abbrev pub HostCause : Machine → HostFault → Machine → Type 0
HostCause old (Damaged damage) new = IsTreeDamage (room_in old) (heard old.stable) damage × (new ≡ old)
HostCause old Cut new = Rises old.cuts new.cuts old.most_cuts × (new.faults ≡ old.faults)
HostCause old Eio new = Rises old.faults new.faults old.most_faults × (new.cuts ≡ old.cuts)
HostCause old NoMem new = (new.cuts ≡ old.cuts) × (new.faults ≡ old.faults)

-- a mount failed so, and left the tree that the device holds, without some of its nameless nodes, possibly none; damaged objects stay
pub record NotMounted (old : Machine) (fault : HostFault) (new : Machine) : Type 0 where
  pub cause : HostCause old fault new
  pub keeps : Keeps old.stable new.stable
  pub bounds : SameBounds old new
  pub damaged : (damage : Damage) → IsTreeDamage (room_in old) (heard old.stable) damage → new.stable ≡ old.stable

-- nothing was damaged, and a mount began with the numbers of the super that is stored, removed the nameless nodes, and counted the charge and the chunks
pub record Started (old : Machine) (new : KfsState) : Type 0 where
  pub clear : IsClear (room_in old) (heard old.stable)
  pub head : option_and_then read_super (objects.get old.stable super_key) ≡ Some ((tx_in new).changes, (tx_in new).next)
  pub cleared : Cleared old.stable (tx_in new).machine.stable
  pub tx : tx_in new ≡ begun_over old (tx_in new).machine.stable (tx_in new).changes (tx_in new).next
  pub keys : new.keys ≡ old.room_keys
  pub pages : new.pages ≡ old.room_pages
  pub charge : new.charge ≡ charge_in (tx_in new).machine.stable
  pub chunks : new.chunks ≡ chunks_in (tx_in new).machine.stable
  pub changes : (tx_in new).changes < 2 ^ 62
  pub next : (tx_in new).next < 2 ^ 62

-- the same, of this super
pub record Starts (old : Machine) (head : Super) (new : KfsState) : Type 0 where
  pub cleared : Cleared old.stable (tx_in new).machine.stable
  pub tx : tx_in new ≡ begun_over old (tx_in new).machine.stable head.changes head.next
  pub keys : new.keys ≡ old.room_keys
  pub pages : new.pages ≡ old.room_pages
  pub charge : new.charge ≡ charge_in (tx_in new).machine.stable
  pub chunks : new.chunks ≡ chunks_in (tx_in new).machine.stable

-- the objects of a root alone
abbrev pub first_objects : Objects
first_objects = objects.insert (objects.insert objects.empty (inode_key 1) (inode_value 1 0)) super_key (super_value 0 2)

abbrev pub formatted : Machine → Machine
formatted m = record m { stable = first_objects; pending = none_open }

-- a format failed: nothing is stored, or all
pub record NotFormatted (old : Machine) (fault : DeviceFault) (new : Machine) : Type 0 where
  pub cause : CausedAlone old fault new
  pub stable : (new.stable ≡ objects.empty) ⊎ (new.stable ≡ first_objects)
  pub bounds : SameBounds old new
