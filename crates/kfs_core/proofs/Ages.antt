-- Setting a record writes nothing at once.
use Rattle.std.proofs.Common.{◌≡◌, ℕ, refl}
use Rattle.kv_device.specs.Calls.{set_ages}
use Rattle.kfs_objects.specs.Keys.{be64}
use Rattle.kfs_objects.specs.Records.{inode_value}

pub inode_ages : (kind size : ℕ) → set_ages (inode_value kind size) ≡ 0
unfolding be64
inode_ages kind size = refl
