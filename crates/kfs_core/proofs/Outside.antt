-- What isn't a refusal of the device's own.
use Rattle.kv_device.specs.declared.fault.DeviceFault.{DeviceFault}
use Rattle.kv_device.specs.declared.fault.DeviceFault.TheVariants as faults
use Rattle.kv_device.specs.Machine.{Machine}
use Rattle.kfs_tx.specs.Tx.{HasCause}
use Rattle.kfs_core.specs.Starting.{IsOutside}

pub outside_of : (old new : Machine) (fault : DeviceFault) → HasCause old fault new → IsOutside fault
outside_of old new faults.NoTx h = h
outside_of old new faults.Busy h = h
outside_of old new faults.TxFull h = h
outside_of old new (faults.Full keys pages) h = h
outside_of old new faults.BadSize h = h
outside_of old new faults.Off h = tt
outside_of old new faults.Failed h = tt
outside_of old new faults.Memory h = tt
