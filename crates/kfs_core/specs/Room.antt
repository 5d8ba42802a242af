-- The room for a file's bytes.
use Rattle.std.specs.Prelude.{ℕ, ◌+◌, ◌-◌, ◌*◌, min, max}
pub use Rattle.kfs_model.specs.Tree.{chunks_for}
use Rattle.kfs_model.specs.Tree.{chunk_bytes}
use Rattle.kfs_core.specs.declared.room.Space.{Space}
use Rattle.kfs_core.specs.Core.{KfsState}

-- the keys and the pages that there are, and how many are taken
abbrev pub space_in : KfsState → Space
space_in s = record { keys = s.keys; pages = s.pages; charge = s.charge; chunks = s.chunks }

-- the most chunks that a file of so many bytes may have
abbrev pub most_chunks : Space → ℕ → ℕ
most_chunks space size = min 256 (chunks_for size + min (space.keys - space.charge) (space.pages - space.chunks))

-- how many of so many bytes fit from a place on
abbrev pub fits_in : Space → ℕ → ℕ → ℕ → ℕ
fits_in space size offset count = min count (most_chunks space size * chunk_bytes - offset)

-- the length after so many bytes are written from a place on
abbrev pub grown : ℕ → ℕ → ℕ → ℕ
grown size offset count = max size (offset + count)
