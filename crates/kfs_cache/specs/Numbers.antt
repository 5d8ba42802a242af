-- Which transactions are marked as open, and which answers tell that a device may be down.
use Rattle.std.specs.Prelude.{ℕ, Bool, true, false, List, slice_get, unwrap_or}
use Rattle.kv_device.specs.declared.fault.DeviceFault.{DeviceFault}
use Rattle.kv_device.specs.declared.fault.DeviceFault.TheVariants.{Off, Failed, Memory}

abbrev pub is_marked : List Bool → ℕ → Bool
is_marked marks tx = unwrap_or (slice_get marks tx) false

abbrev pub is_outside : DeviceFault → Bool
is_outside Off = true
is_outside Failed = true
is_outside Memory = true
is_outside fault = false
