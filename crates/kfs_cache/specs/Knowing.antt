-- What a cache knows of its device, and when that is true.
use Rattle.std.specs.Prelude.{◌≡◌, ◌⊎◌, ℕ, Bool, true, false, ◌||◌, List, map, Some, is_some, unwrap_or}
use Rattle.std.specs.FinMap as objects
use Rattle.kv_device.specs.declared.fault.DeviceFault.{DeviceFault}
use Rattle.kv_device.specs.Machine.{Machine, changes_of, none_open}
use Rattle.kfs_cache.specs.declared.touched.Touched.{Touched}
use Rattle.kfs_cache.specs.declared.known.Known.{Known}
use Rattle.kfs_cache.specs.Numbers.{is_outside}
use Rattle.kfs_cache.specs.Parts.{IsPart}

-- a transaction may have changed the key
abbrev pub is_touched : Touched → List ℕ → Bool
is_touched t key = t.all || objects.contains_key t.keys key

-- the transaction has changed the key
abbrev pub is_changed : Machine → ℕ → List ℕ → Bool
is_changed m tx key = objects.contains_key (unwrap_or (changes_of m tx) objects.empty) key

-- what is kept stands and isn't changed, what is changed is touched, and the open transactions are
-- known while the device is known to be up
pub record Fits (m : Machine) (k : Known) : Type 0 where
  pub stable : IsPart k.kept m.stable
  pub unchanged : (key value : List ℕ) (tx : ℕ) → objects.get k.kept key ≡ Some value → is_changed m tx key ≡ false
  pub touched : (key : List ℕ) (tx : ℕ) → is_changed m tx key ≡ true → is_touched k.touched key ≡ true
  pub up : k.up ≡ true → (m.up ≡ true) × (k.numbers ≡ map is_some m.pending)

-- down, with all of stable as it was where no transaction had changed it
pub record FellDown (old : Machine) (fault : DeviceFault) (new : Machine) : Type 0 where
  pub told : is_outside fault ≡ true
  pub pending : new.pending ≡ none_open
  pub stable : (key : List ℕ) → ((tx : ℕ) → is_changed old tx key ≡ false) → objects.get new.stable key ≡ objects.get old.stable key

-- a call that answered so left the device as it was, or it fell down
abbrev pub Left : Machine → DeviceFault → Machine → Type 0
Left old fault new = (new ≡ old) ⊎ FellDown old fault new
