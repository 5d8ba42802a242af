-- What is judged: the objects of a device, as far as a call can name them.
use Rattle.std.specs.Prelude.{ℕ, ◌≡◌, ◌&&◌, Bool, true, nat_le, nat_lt, List, length, Some}
use Rattle.std.specs.List.{list_all}
use Rattle.std.specs.FinMap as objects
use Rattle.kv_device.specs.Objects.{Objects}
use Rattle.kv_device.specs.Machine.{Machine}
use Rattle.kfs_model.specs.Tree.{Limits}
use Rattle.kfs_damages.specs.Damages.{IsTreeDamage}
use Rattle.kfs_tx.specs.Tx.{Fallen}
use Rattle.kfs_judge.specs.declared.fault.JudgeFault.{JudgeFault}
use Rattle.kfs_judge.specs.declared.fault.JudgeFault.TheVariants.{Damaged, Device}

-- 1 to 264 bytes
abbrev pub is_key : List ℕ → Bool
is_key key = nat_le 1 (length key) && nat_le (length key) 264 && list_all (λ b. nat_lt b 256) key

-- the objects that a call can name
abbrev pub heard : Objects → Objects
heard m = objects.retain_keys m is_key

-- a call can name each object
abbrev pub AreNameable : Objects → Type 0
AreNameable m = (key value : List ℕ) → objects.get m key ≡ Some value → is_key key ≡ true

-- so all of them are judged
abbrev pub AllHeard : Type 0
AllHeard = (m : Objects) → AreNameable m → heard m ≡ m

-- what the device has room for
abbrev pub room_in : Machine → Limits
room_in m = record { keys = m.room_keys; pages = m.room_pages }

-- the first damage, with nothing changed, or a fault of the device
abbrev pub JudgeFails : Machine → JudgeFault → Machine → Type 0
JudgeFails old (Damaged damage) new = IsTreeDamage (room_in old) (heard old.stable) damage × (new ≡ old)
JudgeFails old (Device fault) new = Fallen old fault old.stable new
