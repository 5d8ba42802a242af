-- The running transaction: what it keeps, and what its calls do.
use Rattle.std.specs.Prelude.{ℕ, max, None, ◌≡◌, ◌+◌, ◌<◌, ◌⊎◌, ◌&&◌, ◌||◌, ◌==◌, Bool, true, false, nat_le, is_some, is_none, List, [], ◌∷◌, Some, unwrap_or, if◌then◌else◌}
use Rattle.std.specs.List.{list_all}
use Rattle.std.specs.FinMap as objects
use Rattle.kv_device.specs.declared.fault.DeviceFault.{DeviceFault}
use Rattle.kv_device.specs.declared.fault.DeviceFault.TheVariants.{NoTx, Busy, TxFull, Full, BadSize, Off, Failed, Memory}
use Rattle.kv_device.specs.declared.device.TxId.{TxId}
use Rattle.kv_device.specs.Asked.{Asked}
use Rattle.kv_device.specs.Objects.{Objects}
use Rattle.kv_device.specs.Machine.{Machine, Transactions, view, changes_of, with_change, ended, begun}
use Rattle.kv_device.specs.Calls.{Rises, SetFault, ReadFault, EndFault, set_refusal, has_room, Ages}
use Rattle.kfs_objects.specs.declared.records.Super.{Super}
use Rattle.kfs_objects.specs.Keys.{super_key}
use Rattle.kfs_objects.specs.Records.{super_value}

-- the transaction is the first one, and no other is open
abbrev pub is_alone : Transactions → ℕ → Bool
is_alone [] tx = false
is_alone (t ∷ rest) tx = is_some t && list_all is_none rest && tx == 0

pub record Tx : Type 0 where
  pub machine : Machine
  pub id : ℕ
  pub changes : ℕ
  pub next : ℕ
  pub since : ℕ  -- changes since the last boundary
  pub weight : ℕ  -- and their weight

-- a running transaction, as its callers see it
pub record RunningState : Type 0 where
  pub tx : Tx
  pub device_age : ℕ  -- the greatest number that the device has written
  pub asked : Asked  -- what is planned for the device, and the work that it was asked for last

-- the greatest of the device's and the super's numbers
abbrev pub age_of : RunningState → ℕ
age_of s = max s.device_age (max s.tx.changes s.tx.next)

-- neither age falls, nor rises by more than so much
pub record Aged (old new : RunningState) (most : ℕ) : Type 0 where
  pub device : Ages old.device_age new.device_age most
  pub whole : Ages (age_of old) (age_of new) most

abbrev pub tx_of : Machine → TxId → Super → ℕ → ℕ → Tx
tx_of m tx head since weight = record { machine = m; id = tx.0; changes = head.changes; next = head.next; since = since; weight = weight }

-- the first transaction is begun, and nothing counted
abbrev pub started : Machine → ℕ → ℕ → Tx
started m changes next = record { machine = begun m 0; id = 0; changes = changes; next = next; since = 0; weight = 0 }

abbrev pub opened : Machine → Super → Tx
opened m head = started m head.changes head.next

-- the objects that the transaction sees
abbrev pub seen : Tx → Objects
seen r = view r.machine r.id

abbrev pub changed_keys : Tx → ℕ
changed_keys r = objects.len (unwrap_or (changes_of r.machine r.id) objects.empty)

-- whether a boundary falls after one more change of this weight
abbrev pub is_full : ℕ → ℕ → Bool
is_full since weight = nat_le 64 since || nat_le 256 weight

-- ---- what calls do

abbrev pub put_in : Tx → List ℕ → List ℕ → Tx
put_in r key value = record r { machine = with_change r.machine r.id key (Some value) }

abbrev pub deleted_in : Tx → List ℕ → Tx
deleted_in r key = record r { machine = with_change r.machine r.id key None }

abbrev pub committed : Tx → Tx
committed r = record { machine = begun (ended r.machine r.id) 0; id = 0; changes = r.changes; next = r.next; since = 0; weight = 0 }

-- the objects that it sees have room on the device
abbrev pub HasRoom : Tx → Type 0
HasRoom r = has_room r.machine (seen r) ≡ true

-- the super of one more change
abbrev pub with_super : Tx → ℕ → Tx
with_super r next = put_in r super_key (super_value (r.changes + 1) next)

abbrev pub counted : Tx → ℕ → ℕ → Tx
counted r weight next = record (with_super r next) { changes = r.changes + 1; next = next; since = r.since + 1; weight = r.weight + weight }

abbrev pub one_change : Tx → ℕ → ℕ → Tx
one_change r weight next = if is_full (r.since + 1) (r.weight + weight) then committed (counted r weight next) else counted r weight next

-- the super may be set, and at a boundary there is room
pub record IsAllowed (r : Tx) (weight next : ℕ) : Type 0 where
  pub super : set_refusal r.machine r.id super_key (super_value (r.changes + 1) next) ≡ None
  pub room : is_full (r.since + 1) (r.weight + weight) ≡ true → HasRoom (with_super r next)

-- ---- outside causes, as the host sees them

abbrev pub HasCause : Machine → DeviceFault → Machine → Type 0
HasCause old Off new = Rises old.cuts new.cuts old.most_cuts × (new.faults ≡ old.faults)
HasCause old Failed new = Rises old.faults new.faults old.most_faults × (new.cuts ≡ old.cuts)
HasCause old Memory new = (new.cuts ≡ old.cuts) × (new.faults ≡ old.faults)
HasCause old fault new = ⊥

-- which count rose, by the fault: none where the device was down, and none at a refusal
abbrev pub Caused : Machine → DeviceFault → Machine → Type 0
Caused old NoTx new = ⊥
Caused old Busy new = ⊥
Caused old Off new = ((old.up ≡ false) × (new.cuts ≡ old.cuts) × (new.faults ≡ old.faults)) ⊎ HasCause old Off new
Caused old Failed new = HasCause old Failed new
Caused old fault new = (new.cuts ≡ old.cuts) × (new.faults ≡ old.faults)

-- of a call that refuses for nothing of its own
abbrev pub CausedAlone : Machine → DeviceFault → Machine → Type 0
CausedAlone old TxFull new = ⊥
CausedAlone old (Full keys pages) new = ⊥
CausedAlone old BadSize new = ⊥
CausedAlone old fault new = Caused old fault new

-- ---- what an error says

-- want of memory before the device was asked, or what the device answered; and its cause
abbrev pub PutFault : Tx → List ℕ → List ℕ → DeviceFault → Machine → Type 0
PutFault r key value fault new = (((fault ≡ Memory) × (new ≡ r.machine)) ⊎ SetFault r.machine r.id key value fault new) × Caused r.machine fault new

abbrev pub CommitFault : Tx → DeviceFault → Machine → Type 0
CommitFault r fault new = EndFault r.machine r.id fault new × Caused r.machine fault new

abbrev pub ChangeFault : Tx → ℕ → ℕ → DeviceFault → Machine → Type 0
ChangeFault r weight next fault new =
    PutFault r super_key (super_value (r.changes + 1) next) fault new ⊎ ((is_full (r.since + 1) (r.weight + weight) ≡ true) × CommitFault (counted r weight next) fault new)

-- a call that only reads
abbrev pub GetFault : Tx → DeviceFault → Machine → Type 0
GetFault r fault new = (((fault ≡ Memory) × (new ≡ r.machine)) ⊎ ReadFault r.machine r.id fault new) × CausedAlone r.machine fault new

-- up, and the transaction the only one
pub record IsReady (r : Tx) : Type 0 where
  pub up : r.machine.up ≡ true
  pub alone : is_alone r.machine.pending r.id ≡ true

-- what each tx keeps: while the device is up, its transaction is the only one; and no boundary is due
pub record IsKept (r : Tx) : Type 0 where
  pub alone : r.machine.up ≡ true → is_alone r.machine.pending r.id ≡ true
  pub few : r.since < 64
  pub light : r.weight < 256

-- what no call changes
pub record SameBounds (old new : Machine) : Type 0 where
  pub most_cuts : new.most_cuts ≡ old.most_cuts
  pub most_faults : new.most_faults ≡ old.most_faults
  pub room_keys : new.room_keys ≡ old.room_keys
  pub room_pages : new.room_pages ≡ old.room_pages

-- the call ended so, and these objects stand
pub record Fallen (old : Machine) (fault : DeviceFault) (stands : Objects) (new : Machine) : Type 0 where
  pub cause : HasCause old fault new
  pub stable : new.stable ≡ stands
  pub bounds : SameBounds old new
