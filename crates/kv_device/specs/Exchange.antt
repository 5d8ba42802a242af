-- Two objects put and one removed, in a transaction of its own.
use Rattle.std.specs.Prelude.{◌≡◌, ◌⊎◌, Bool, true, false, nat_lt, ◌&&◌, List, ℕ, length, Some, None}
use Rattle.std.specs.FinMap as objects
use Rattle.kv_base.specs.declared.pairs.Pair.{Pair}
use Rattle.kv_device.specs.declared.fault.DeviceFault.{DeviceFault}
use Rattle.kv_device.specs.declared.fault.DeviceFault.TheVariants.{NoTx, Busy, TxFull, Full, BadSize}
use Rattle.kv_device.specs.Machine.{Machine, with_change}
use Rattle.kv_device.specs.Objects.{Objects, page_count}
use Rattle.kv_device.specs.Calls.{has_room, Falls, SetFault, DeleteFault, EndFault}

-- the objects after it
abbrev pub exchanged : Objects → Pair → Pair → List ℕ → Objects
exchanged m first second gone = objects.remove (objects.insert (objects.insert m first.key first.value) second.key second.value) gone

abbrev pub with_stable : Machine → Objects → Machine
with_stable m after = record m { stable = after }

-- a large value under a long key
abbrev pub is_misfit : Pair → Bool
is_misfit pair = nat_lt 128 (length pair.value) && nat_lt 32 (length pair.key)

-- an error of it: a refusal, which leaves the device as before, or an outside cause, which leaves
-- it down, with the objects as before or as after
abbrev pub ExchangeFault : Machine → Bool → Objects → DeviceFault → Machine → Type 0
ExchangeFault old misfit after NoTx new = ⊥
ExchangeFault old misfit after Busy new = ⊥
ExchangeFault old misfit after TxFull new = ⊥
ExchangeFault old misfit after BadSize new = (misfit ≡ true) × (new ≡ old)
ExchangeFault old misfit after (Full keys pages) new =
    (has_room old after ≡ false) × (keys ≡ objects.len after) × (pages ≡ page_count after) × (new ≡ old)
ExchangeFault old misfit after fault new = Falls old fault new ⊎ Falls (with_stable old after) fault new

-- ---- its calls one after another

abbrev pub one_filled : Machine → ℕ → Pair → Machine
one_filled m tx pair = with_change m tx pair.key (Some pair.value)

-- with the changes made
abbrev pub filled : Machine → ℕ → Pair → Pair → List ℕ → Machine
filled m tx first second gone = with_change (one_filled (one_filled m tx first) tx second) tx gone None

-- an error of one of them
abbrev pub FillFault : Machine → ℕ → Pair → Pair → List ℕ → DeviceFault → Machine → Type 0
FillFault m tx first second gone fault new =
    SetFault m tx first.key first.value fault new
    ⊎ SetFault (one_filled m tx first) tx second.key second.value fault new
    ⊎ DeleteFault (one_filled (one_filled m tx first) tx second) tx gone fault new
    ⊎ EndFault (filled m tx first second gone) tx fault new
