-- What each call of a device answers, and what it leaves.
use Rattle.std.specs.Prelude.{◌+◌, ◌≡◌, ℕ, ◌^◌, ◌≤◌, ◌⊎◌, Bool, true, false, not, ◌&&◌, ◌||◌, if◌then◌else◌, nat_lt, nat_le, is_some, unwrap_or, List, length, map, take, Option, Some, None}
use Rattle.kv_base.specs.Counts.{one_more}
use Rattle.std.specs.FinMap as objects
use Rattle.kv_device.specs.declared.fault.DeviceFault.{DeviceFault}
use Rattle.kv_device.specs.declared.fault.DeviceFault.TheVariants.{NoTx, Busy, TxFull, Full, BadSize, Off, Failed, Memory}
use Rattle.kv_device.specs.Machine.{Machine, is_open, changes_of, change_count, free_number, view, down, begun, with_change, aborted, ended}
use Rattle.kv_device.specs.Objects.{Objects, page_count, pairs_from, pair_of, IsHeld}
use Rattle.kv_base.specs.declared.pairs.Pair.{Pair}

-- ---- refusals: the first that applies

-- Off, then NoTx, then what else
abbrev pub first_of : Machine → ℕ → Option DeviceFault → Option DeviceFault
first_of m tx rest = if not m.up then Some Off else (if not (is_open m tx) then Some NoTx else rest)

abbrev pub off_refusal : Machine → Option DeviceFault
off_refusal m = if not m.up then Some Off else None

abbrev pub begin_refusal : Machine → Option DeviceFault
begin_refusal m = if not m.up then Some Off else (if is_some (free_number m.pending) then None else Some Busy)

-- the key is new in the transaction, and that or all have no room for it
unfoldable pub is_tx_full : Machine → ℕ → List ℕ → Bool
is_tx_full m tx key =
    let changes = unwrap_or (changes_of m tx) objects.empty in
    not (objects.contains_key changes key) && (nat_le 640 (objects.len changes) || nat_le 1280 (change_count m.pending))

abbrev pub delete_refusal : Machine → ℕ → List ℕ → Option DeviceFault
delete_refusal m tx key = first_of m tx (if is_tx_full m tx key then Some TxFull else None)

abbrev pub set_refusal : Machine → ℕ → List ℕ → List ℕ → Option DeviceFault
set_refusal m tx key value =
    first_of m tx (if nat_lt 128 (length value) && nat_lt 32 (length key) then Some BadSize else (if is_tx_full m tx key then Some TxFull else None))

-- the map after the end has no room
abbrev pub has_room : Machine → Objects → Bool
has_room m after = nat_le (objects.len after) m.room_keys && nat_le (page_count after) m.room_pages

-- ---- outside causes

-- a count rose by one, within its bound; at its end it stays
abbrev pub Rises : ℕ → ℕ → ℕ → Type 0
Rises old new most = (new ≤ most) × (new ≡ one_more old)

abbrev pub IsCutOff : Machine → Machine → Type 0
IsCutOff old new = Rises old.cuts new.cuts old.most_cuts × (new ≡ record (down old) { cuts = new.cuts })

abbrev pub HasFailed : Machine → Machine → Type 0
HasFailed old new = Rises old.faults new.faults old.most_faults × (new ≡ record (down old) { faults = new.faults })

-- want of memory, in a call that does nothing to the flash
abbrev pub RunsOut : Machine → DeviceFault → Machine → Type 0
RunsOut old Memory new = new ≡ down old
RunsOut old fault new = ⊥

-- the causes of a call that reads
abbrev pub FallsReading : Machine → DeviceFault → Machine → Type 0
FallsReading old Failed new = HasFailed old new
FallsReading old fault new = RunsOut old fault new

-- the causes of a call that programs or erases
abbrev pub Falls : Machine → DeviceFault → Machine → Type 0
Falls old Off new = IsCutOff old new
Falls old fault new = FallsReading old fault new

-- a fault is the refusal, which changes nothing, or where there is none an outside cause
abbrev pub IsFault : Option DeviceFault → (Machine → DeviceFault → Machine → Type 0) → Machine → DeviceFault → Machine → Type 0
IsFault (Some refusal) outside old fault new = (fault ≡ refusal) × (new ≡ old)
IsFault None outside old fault new = outside old fault new

abbrev pub Never : Machine → DeviceFault → Machine → Type 0
Never old fault new = ⊥

-- `end`: no room, or an outside cause, with stable as before or as after
abbrev pub FallsEnding : Objects → Machine → DeviceFault → Machine → Type 0
FallsEnding after old (Full keys pages) new =
    (has_room old after ≡ false) × (keys ≡ objects.len after) × (pages ≡ page_count after) × (new ≡ old)
FallsEnding after old Off new = (has_room old after ≡ true) × (IsCutOff old new ⊎ IsCutOff (record old { stable = after }) new)
FallsEnding after old fault new = FallsReading old fault new ⊎ ((has_room old after ≡ true) × FallsReading (record old { stable = after }) fault new)

-- a refusal of `end`, which changes nothing
abbrev pub EndRefusal : Machine → ℕ → DeviceFault → Type 0
EndRefusal m tx (Full keys pages) =
    (first_of m tx None ≡ None) × (has_room m (view m tx) ≡ false) × (keys ≡ objects.len (view m tx)) × (pages ≡ page_count (view m tx))
EndRefusal m tx fault = first_of m tx None ≡ Some fault

-- ---- what a call says at Ok

pub record BeginDone (old : Machine) (tx : ℕ) (new : Machine) : Type 0 where
  pub allowed : begin_refusal old ≡ None
  pub lowest : free_number old.pending ≡ Some tx
  pub after : new ≡ begun old tx

pub record GetDone (old : Machine) (tx : ℕ) (key : List ℕ) (value : Option (List ℕ)) (new : Machine) : Type 0 where
  pub allowed : first_of old tx None ≡ None
  pub found : value ≡ objects.get (view old tx) key
  pub after : new ≡ old

pub record SetDone (old : Machine) (tx : ℕ) (key value : List ℕ) (new : Machine) : Type 0 where
  pub allowed : set_refusal old tx key value ≡ None
  pub after : new ≡ with_change old tx key (Some value)

pub record DeleteDone (old : Machine) (tx : ℕ) (key : List ℕ) (new : Machine) : Type 0 where
  pub allowed : delete_refusal old tx key ≡ None
  pub after : new ≡ with_change old tx key None

pub record IterateDone (old : Machine) (tx : ℕ) (from prefix : List ℕ) (at_most : ℕ) (pairs : List Pair) (new : Machine) : Type 0 where
  pub allowed : first_of old tx None ≡ None
  pub found : map pair_of pairs ≡ take at_most (pairs_from (view old tx) from prefix)
  pub after : new ≡ old

pub record EndDone (old : Machine) (tx : ℕ) (new : Machine) : Type 0 where
  pub allowed : first_of old tx None ≡ None
  pub room : has_room old (view old tx) ≡ true
  pub after : new ≡ ended old tx

pub record AbortDone (old : Machine) (tx : ℕ) (new : Machine) : Type 0 where
  pub allowed : first_of old tx None ≡ None
  pub after : new ≡ aborted old tx

pub record WorkDone (old new : Machine) : Type 0 where
  pub allowed : off_refusal old ≡ None
  pub after : new ≡ old

-- ---- what it says at Err

abbrev pub BeginFault : Machine → DeviceFault → Machine → Type 0
BeginFault old = IsFault (begin_refusal old) Never old

abbrev pub ReadFault : Machine → ℕ → DeviceFault → Machine → Type 0
ReadFault old tx = IsFault (first_of old tx None) FallsReading old

abbrev pub SetFault : Machine → ℕ → List ℕ → List ℕ → DeviceFault → Machine → Type 0
SetFault old tx key value = IsFault (set_refusal old tx key value) Falls old

abbrev pub DeleteFault : Machine → ℕ → List ℕ → DeviceFault → Machine → Type 0
DeleteFault old tx key = IsFault (delete_refusal old tx key) FallsReading old

abbrev pub EndFault : Machine → ℕ → DeviceFault → Machine → Type 0
EndFault old tx = IsFault (first_of old tx None) (FallsEnding (view old tx)) old

abbrev pub AbortFault : Machine → ℕ → DeviceFault → Machine → Type 0
AbortFault old tx = IsFault (first_of old tx None) Never old

abbrev pub WorkFault : Machine → DeviceFault → Machine → Type 0
WorkFault old = IsFault (off_refusal old) Falls old

-- what holds of each device
pub record IsSound (m : Machine) : Type 0 where
  pub keys : objects.len m.stable ≤ m.room_keys
  pub pages : page_count m.stable ≤ m.room_pages
  pub cuts : m.cuts ≤ m.most_cuts
  pub faults : m.faults ≤ m.most_faults
  pub four : length m.pending ≡ 4
  pub held : IsHeld m.stable

-- it doesn't fall, and rises by at most so much
pub record Ages (old new most : ℕ) : Type 0 where
  pub later : old ≤ new
  pub bounded : new ≤ old + most

-- by how much setting a value may raise the age: an inline value programs nothing
abbrev pub set_ages : List ℕ → ℕ
set_ages value = if nat_lt 128 (length value) then 2 ^ 16 else 0
