-- A directory's names and their nodes, over the objects. What doesn't read is as good as absent.
use Rattle.std.specs.Prelude.{ℕ, ◌≡◌, ◌⊎◌, List, [], map, drop, Option}
use Rattle.std.specs.Option.{option_and_then}
use Rattle.std.specs.FinMap as objects
use Rattle.kv_device.specs.declared.fault.DeviceFault.{DeviceFault}
use Rattle.kv_device.specs.declared.fault.DeviceFault.TheVariants.{Memory}
use Rattle.kv_device.specs.Calls.{DeleteFault}
use Rattle.kv_device.specs.Machine.{Machine}
use Rattle.kv_device.specs.Objects.{Objects, pairs_from}
use Rattle.kfs_objects.specs.Keys.{entry_key}
use Rattle.kfs_objects.specs.Records.{read_entry}
use Rattle.kfs_tx.specs.Tx.{Tx, Caused}

-- the node under a name
abbrev pub node_under : Objects → ℕ → List ℕ → Option ℕ
node_under m parent name = option_and_then read_entry (objects.get m (entry_key parent name))

-- the names, in the order of their bytes: what follows the parent's number in the keys
abbrev pub names_under : Objects → ℕ → List (List ℕ)
names_under m parent = map (λ e. drop 9 e.0) (pairs_from m (entry_key parent []) (entry_key parent []))

-- want of memory before the device was asked, or what the device answered; and its cause
abbrev pub TakenFault : Tx → List ℕ → DeviceFault → Machine → Type 0
TakenFault r key fault new = (((fault ≡ Memory) × (new ≡ r.machine)) ⊎ DeleteFault r.machine r.id key fault new) × Caused r.machine fault new
