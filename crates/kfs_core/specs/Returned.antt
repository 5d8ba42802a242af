-- What a function returned, seen by view, is what the definition gives, unless the device or memory failed.
use Rattle.std.specs.Prelude.{◌≡◌, Result, Ok, Err}
use Rattle.kv_device.specs.declared.fault.DeviceFault.TheVariants.{Memory}
use Rattle.kfs_path.specs.declared.call.Errno.{Errno}
use Rattle.kfs_tx.specs.Tx.{Tx, GetFault, CommitFault}
use Rattle.kfs_core.specs.declared.fault.CoreFault.{CoreFault}
use Rattle.kfs_core.specs.declared.fault.CoreFault.TheVariants.{No, Device}

abbrev pub RefusesAs : {Y : Type 0} → CoreFault → Result Y Errno → Type 0
RefusesAs (Device fault) given = Unit {0}
RefusesAs (No e) given = given ≡ Err e

abbrev pub JudgesAs : {X Y : Type 0} → (X → Y) → Result X CoreFault → Result Y Errno → Type 0
JudgesAs view (Ok x) given = given ≡ Ok (view x)
JudgesAs view (Err e) given = RefusesAs e given

-- a call that only reads: it leaves the tx, or the device or memory failed
abbrev pub LeavesAtFault : Tx → CoreFault → Tx → Type 0
LeavesAtFault old (No e) new = new ≡ old
LeavesAtFault old (Device fault) new = GetFault old fault new.machine

abbrev pub Leaves : {X : Type 0} → Tx → Result X CoreFault → Tx → Type 0
Leaves old (Ok x) new = new ≡ old
Leaves old (Err e) new = LeavesAtFault old e new

-- a commit refuses by no error of its own
abbrev pub CommitFails : Tx → Tx → CoreFault → Type 0
CommitFails old new (No e) = ⊥
CommitFails old new (Device fault) = CommitFault old fault new.machine

-- of the device's causes only want of memory
abbrev pub IsOwn : CoreFault → Type 0
IsOwn (No e) = Unit {0}
IsOwn (Device fault) = fault ≡ Memory
