use Rattle.std.proofs.Common.{length}
use Rattle.kv_device.proofs.key_map.KeyMap+Value.+make.Given as goal

-- how many changes are left
abbrev pub decreases-make : goal.decreases-make
decreases-make l = length l.rest
