-- Transactions beside one another.
use Rattle.std.specs.Prelude.{◌≡◌, ◌≢◌, ℕ, List, Option, Some, None, unwrap_or}
use Rattle.std.specs.FinMap as objects
use Rattle.kv_device.specs.Machine.{Machine, changes_of, view, with_change, ended}

-- a change over what was there, where there is one
abbrev pub later : Option (Option (List ℕ)) → Option (List ℕ) → Option (List ℕ)
later None old = old
later (Some change) old = change

-- a transaction sees its own changes, and else what stands
abbrev pub OwnChangesSeen : Type 0
OwnChangesSeen = (m : Machine) (tx : ℕ) (key : List ℕ)
    → objects.get (view m tx) key ≡ later (objects.get (unwrap_or (changes_of m tx) objects.empty) key) (objects.get m.stable key)

-- a change in one is not seen in another
abbrev pub OthersUnseen : Type 0
OthersUnseen = (m : Machine) (tx other : ℕ) (key : List ℕ) (change : Option (List ℕ)) → other ≢ tx → view (with_change m tx key change) other ≡ view m other

-- of two ends the later one's changes stand over the earlier one's
abbrev pub LastEndWins : Type 0
LastEndWins = (m : Machine) (tx other : ℕ) (key : List ℕ) → other ≢ tx
    → objects.get (ended (ended m tx) other).stable key ≡ later (objects.get (unwrap_or (changes_of m other) objects.empty) key) (objects.get (ended m tx).stable key)
