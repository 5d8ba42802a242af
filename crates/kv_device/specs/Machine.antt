-- The device as a machine: its state, and what calls do to it.
use Rattle.std.specs.Prelude.{ℕ, Bool, true, false, is_some, is_none, unwrap_or, List, [], ◌∷◌, sum_by, position, slice_get, slice_set, Option, Some, None}
use Rattle.kv_base.specs.Counts.{one_more}
use Rattle.std.specs.Option.{option_and_then}
use Rattle.std.specs.FinMap as objects
use Rattle.kv_device.specs.Objects.{Objects, Changes, seen_through}

-- the transactions by their numbers; nothing where none is open
abbrev pub Transactions : Type 0
Transactions = List (Option Changes)

pub record Machine : Type 0 where
  pub up : Bool
  pub stable : Objects
  pub pending : Transactions
  pub cuts : ℕ
  pub faults : ℕ
  pub most_cuts : ℕ
  pub most_faults : ℕ
  pub room_keys : ℕ
  pub room_pages : ℕ

-- the changes of an open transaction
abbrev pub changes_of : Machine → ℕ → Option Changes
changes_of m tx = option_and_then (λ t. t) (slice_get m.pending tx)

abbrev pub is_open : Machine → ℕ → Bool
is_open m tx = is_some (changes_of m tx)

-- the objects as the transaction sees them
unfoldable pub view : Machine → ℕ → Objects
view m tx = seen_through (unwrap_or (changes_of m tx) objects.empty) m.stable

-- the changed keys of all transactions
unfoldable pub change_count : Transactions → ℕ
change_count pending = sum_by (λ t. objects.len (unwrap_or t objects.empty)) pending

-- the lowest free number
abbrev pub free_number : Transactions → Option ℕ
free_number pending = position is_none pending

abbrev pub none_open : Transactions
none_open = None ∷ None ∷ None ∷ None ∷ []

-- a new device
abbrev pub fresh : ℕ → ℕ → Machine
fresh keys pages = record {
  up = true;
  stable = objects.empty;
  pending = none_open;
  cuts = 0;
  faults = 0;
  most_cuts = 0;
  most_faults = 0;
  room_keys = keys;
  room_pages = pages;
}

-- ---- what calls do

abbrev pub begun : Machine → ℕ → Machine
begun m tx = record m { pending = slice_set m.pending tx (Some objects.empty) }

abbrev pub with_change : Machine → ℕ → List ℕ → Option (List ℕ) → Machine
with_change m tx key change =
    record m { pending = slice_set m.pending tx (Some (objects.insert (unwrap_or (changes_of m tx) objects.empty) key change)) }

abbrev pub aborted : Machine → ℕ → Machine
aborted m tx = record m { pending = slice_set m.pending tx None }

abbrev pub ended : Machine → ℕ → Machine
ended m tx = record m { stable = view m tx; pending = slice_set m.pending tx None }

-- down, with nothing pending
abbrev pub down : Machine → Machine
down m = record m { up = false; pending = none_open }

-- up again, with nothing pending
abbrev pub restarted : Machine → Machine
restarted m = record (down m) { up = true }

-- a cut is planned
abbrev pub with_most_cuts : Machine → Machine
with_most_cuts m = record m { most_cuts = one_more m.cuts }

-- a fault is planned, or none
abbrev pub with_most_faults : Machine → ℕ → Machine
with_most_faults m most = record m { most_faults = most }
