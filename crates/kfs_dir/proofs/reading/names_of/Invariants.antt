use Rattle.std.proofs.Common.{◌≡◌, ℕ, List, map, take, drop}
use Rattle.kv_device.specs.Objects.{pair_of}
use Rattle.kfs_dir.proofs.reading.names_of.Given as goal

-- the names so far
abbrev pub invariant-loop-pair : goal.invariant-loop-pair
invariant-loop-pair l = l.names ≡ map (λ (e : List ℕ × List ℕ). drop 9 e.0) (map pair_of (take l.pair-index l.pairs))
