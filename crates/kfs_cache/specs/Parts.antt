-- Values that a cache keeps, as a map.
use Rattle.std.specs.Prelude.{◌≡◌, ℕ, List, map, Some}
use Rattle.std.specs.declared.vec.Vec.{Vec}
use Rattle.std.specs.FinMap as objects
use Rattle.kv_device.specs.Objects.{Objects}

abbrev pub bytes_pair : {Z : Type 0} → Vec ℕ Z × List ℕ → List ℕ × List ℕ
bytes_pair e = (e.0.items, e.1)

-- the entries as a map
unfoldable pub shown : {Z : Type 0} → List (Vec ℕ Z × List ℕ) → Objects
shown es = objects.from_entries (map bytes_pair es)

-- what the first map has the second has too
abbrev pub IsPart : Objects → Objects → Type 0
IsPart part whole = (key value : List ℕ) → objects.get part key ≡ Some value → objects.get whole key ≡ Some value
