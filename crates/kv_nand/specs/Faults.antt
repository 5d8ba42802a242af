-- A fault of a lower call among those of a call above it.
use Rattle.kv_nand.specs.declared.fault.NandFault.{NandFault}
use Rattle.kv_nand.specs.declared.fault.NandFault.TheVariants as nand
use Rattle.kv_nand.specs.declared.fault.FlashFault.{FlashFault}
use Rattle.kv_nand.specs.declared.fault.FlashFault.TheVariants as flash
use Rattle.kv_nand.specs.declared.fault.MountFault.{MountFault}
use Rattle.kv_nand.specs.declared.fault.MountFault.TheVariants as mount

abbrev pub flash_fault : NandFault → FlashFault
flash_fault nand.Off = flash.Off
flash_fault nand.Failed = flash.Failed

abbrev pub mount_fault : FlashFault → MountFault
mount_fault flash.Off = mount.Off
mount_fault flash.Failed = mount.Failed
mount_fault flash.Memory = mount.Memory
