-- What holds of numbers by the types in which the code keeps them.
use Rattle.std.specs.Prelude.{◌<◌, ◌^◌, ℕ, List, get_or}

-- each is the number of a block, in two bytes
abbrev pub AreBlocks : List ℕ → Type 0
AreBlocks blocks = (i : ℕ) → get_or blocks i 0 < 2 ^ 16
