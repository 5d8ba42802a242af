-- What two images have in common.
use Rattle.std.specs.Prelude.{◌≡◌, ◌/◌, ℕ, true, nat_eq, List}
use Rattle.std.specs.List.{list_any}
use Rattle.kv_nand.specs.Flash.{Image}

-- the pages of these blocks are the same
abbrev pub AreSameIn : List ℕ → Image → Image → Type 0
AreSameIn blocks old new = (page : ℕ) → list_any (nat_eq (page / 32)) blocks ≡ true → new page ≡ old page
