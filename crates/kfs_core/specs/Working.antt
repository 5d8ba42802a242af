-- What a refused call for due jobs says: it refuses by no error of its own.
use Rattle.kv_device.specs.Calls.{WorkFault}
use Rattle.kfs_tx.specs.Tx.{Tx, CausedAlone}
use Rattle.kfs_core.specs.declared.fault.CoreFault.{CoreFault}
use Rattle.kfs_core.specs.declared.fault.CoreFault.TheVariants.{No, Device}

abbrev pub WorkFails : Tx → Tx → CoreFault → Type 0
WorkFails old new (No errno) = ⊥
WorkFails old new (Device fault) = WorkFault old.machine fault new.machine × CausedAlone old.machine fault new.machine
