-- What a mount finds, and what it gives.
use Rattle.std.specs.Prelude.{ℕ, ◌≡◌}
use Rattle.kv_device.specs.Machine.{Machine}
use Rattle.kfs_model.specs.Tree.{Tree, Limits}
use Rattle.kfs_model.specs.Life.{Past, tree_at, up_at}
use Rattle.kfs_posix.specs.Volume.{Volume}
use Rattle.kfs_posix.specs.Showing.{ShowsLive, IsSaved}

abbrev pub limits_in : Machine → Limits
limits_in m = record { keys = m.room_keys; pages = m.room_pages }

-- the device holds the tree after k changes
abbrev pub IsStored : Machine → Tree → ℕ → Type 0
IsStored m t k = IsSaved (limits_in m) m.stable t k

-- whatever it holds, the session goes on from there
pub record Mounts (old : Machine) (new : Volume) : Type 0 where
  pub each : (past : Past) (k : ℕ) → IsStored old (tree_at past k) k → (new.tx.changes ≡ k) × ShowsLive new (up_at past k)
