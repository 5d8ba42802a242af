-- How much a device of so many blocks holds, and how far its numbers rise.
use Rattle.std.specs.Prelude.{ℕ, ◌+◌, ◌^◌}
use Rattle.kssd_layout.specs.Numbers.{max_keys_in, max_pages_in}
use Rattle.kfs_model.specs.Tree.{Limits}

-- the greatest number of keys, and of values that stand in pages
abbrev pub limits_of : ℕ → Limits
limits_of blocks = record { keys = max_keys_in blocks; pages = max_pages_in blocks }

-- by how much a line may raise the greatest number that a device has written
abbrev pub line_age : ℕ
line_age = 2 ^ 38 + 2 ^ 21
