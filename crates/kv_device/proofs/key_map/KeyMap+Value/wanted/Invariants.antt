use Rattle.std.proofs.Common.{◌≡◌, filter}
use Rattle.kv_device.specs.Objects.{is_wanted, wanted_of}
use Rattle.kv_device.proofs.WantedLaws.{puts}
use Rattle.kv_device.proofs.key_map.KeyMap+Value.wanted.Given as goal

-- the objects so far, with those put that are wanted of what is left
abbrev pub invariant-loop-key : goal.invariant-loop-key
invariant-loop-key l = puts (filter (λ e. is_wanted l.from l.prefix e.0) l.key-iterator) l.near ≡ wanted_of l.self l.from l.prefix
