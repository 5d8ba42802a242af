-- How many keys the transaction of a session has changed between two calls.
use Rattle.kfs_model.specs.Life.{Live}
use Rattle.kfs_core.specs.Bounds.{IsLight}
use Rattle.kfs_posix.specs.Volume.{Volume}
use Rattle.kfs_posix.specs.Showing.{ShowsLive}

-- whatever live state an up session shows, its tx is light
abbrev pub SessionsAreLight : Type 0
SessionsAreLight = (b : Volume) (live : Live) → ShowsLive b live → IsLight b.tx
