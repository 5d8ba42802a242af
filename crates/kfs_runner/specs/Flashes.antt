-- What a flash is without a device on it.
use Rattle.std.specs.Prelude.{◌≤◌}
use Rattle.std.proofs.Props.{props}
use Rattle.kv_nand.specs.Flash.{Flash}
use Rattle.kv_nand.specs.declared.fault.MountFault.{MountFault}
use Rattle.kv_nand.specs.declared.fault.MountFault.TheVariants as mount
use Rattle.kfs_core.specs.declared.fault.HostFault.{HostFault}
use Rattle.kfs_core.specs.declared.fault.HostFault.TheVariants as host
use Rattle.kv_device.specs.Machine.{Machine, fresh}
use Rattle.kssd_layout.specs.Numbers.{max_keys_in, max_pages_in}

-- 256 to 2,048 blocks
pub record HasBlocks (flash : Flash) : Type 0 where
  pub least : 256 ≤ flash.blocks
  pub most : flash.blocks ≤ 2048

-- there is at most one proof of it
pub HasBlocks-prop : (flash : Flash) → IsProp (HasBlocks flash)
HasBlocks-prop flash = Prim.hlevel props

-- why a device isn't mounted, as a mount of a session tells it
abbrev pub host_fault : MountFault → HostFault
host_fault (mount.Damaged damage) = host.Damaged damage
host_fault mount.Off = host.Cut
host_fault mount.Failed = host.Eio
host_fault mount.Memory = host.NoMem

-- a new device on a flash, which keeps its counts
abbrev pub new_on : Flash → Machine
new_on flash = record (fresh (max_keys_in flash.blocks) (max_pages_in flash.blocks)) {
  cuts = flash.cuts;
  faults = flash.faults;
  most_cuts = flash.most_cuts;
  most_faults = flash.most_faults;
}
