-- Why a mount stops.
use Rattle.kv_base.specs.declared.damage.Damage.{Damage}
use Rattle.kv_nand.specs.declared.fault.FlashFault.TheVariants as flash
use Rattle.kv_nand.specs.declared.fault.MountFault.{MountFault}
use Rattle.kv_nand.specs.declared.fault.MountFault.TheVariants as mount
use Rattle.kv_nand.specs.Flash.{Flash}
use Rattle.kssd_model.specs.OnlyReading.{OnlyReads, StopsReading}

-- it only read, and there is this damage; or the flash or memory stopped it
abbrev pub FailsBy : (Damage → Type 0) → Flash → MountFault → Flash → Type 0
FailsBy Damaged old (mount.Damaged damage) new = Damaged damage × OnlyReads old new
FailsBy Damaged old mount.Off new = StopsReading old flash.Off new
FailsBy Damaged old mount.Failed new = StopsReading old flash.Failed new
FailsBy Damaged old mount.Memory new = StopsReading old flash.Memory new
