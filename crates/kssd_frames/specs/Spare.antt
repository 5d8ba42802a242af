-- What operations on pages leave that nothing names.
use Rattle.std.specs.Prelude.{◌≡◌, ◌⊎◌, ◌/◌, ℕ, List}
use Rattle.std.specs.List.{Contains}
use Rattle.kv_nand.specs.Flash.{Image, LeftByProgram, LeftByErase}
use Rattle.kssd_layout.specs.Numbers.{region_in}
use Rattle.kssd_layout.specs.declared.region.Region.TheVariants.{Run, Value}
use Rattle.kssd_image.specs.Stages.{the_anchor, shown_in}
use Rattle.kssd_image.specs.AnchorForm.{blocks_of}
use Rattle.kssd_image.specs.Whole.{pages_named, IsWhole, age_in}
use Rattle.kssd_frames.specs.Same.{IsSameAt, Stays}

-- a block for runs that the newest anchor doesn't name
abbrev pub IsSpareRunBlock : ℕ → Image → ℕ → Type 0
IsSpareRunBlock blocks image block = (region_in blocks block ≡ Run) × (Contains (blocks_of (the_anchor image).runs) block → ⊥)

-- a page for values that no visible entry names
abbrev pub IsSpareValuePage : ℕ → Image → ℕ → Type 0
IsSpareValuePage blocks image page = (region_in blocks (page / 32) ≡ Value) × (Contains (pages_named (shown_in image)) page → ⊥)

-- a page of which nothing depends
abbrev pub IsSpare : ℕ → Image → ℕ → Type 0
IsSpare blocks image page = IsSpareRunBlock blocks image (page / 32) ⊎ IsSpareValuePage blocks image page

-- only such pages may differ, whatever was done to them and how often
abbrev pub ChangesSparePages : ℕ → Image → Image → Type 0
ChangesSparePages blocks old new = (page : ℕ) → (IsSpare blocks old page → ⊥) → IsSameAt old new page

-- whatever operations on them answered, the objects stay: a program and an erase; all that a region's calls do in blocks for runs or in pages for values
pub record SparePagesCountForNothing : Type 0 where
  pub any : (blocks : ℕ) (old new : Image) → IsWhole blocks old → ChangesSparePages blocks old new → Stays blocks old new (age_in old)
  pub program : (blocks : ℕ) (old new : Image) (page : ℕ) (bytes : List ℕ) → IsWhole blocks old → LeftByProgram old page bytes new → IsSpare blocks old page → Stays blocks old new (age_in old)
  pub erase : (blocks : ℕ) (old new : Image) (block : ℕ) → IsWhole blocks old → LeftByErase old block new → ((page : ℕ) → page / 32 ≡ block → IsSpare blocks old page) → Stays blocks old new (age_in old)
  pub runs : (blocks : ℕ) (old new : Image) → IsWhole blocks old → ((page : ℕ) → (IsSpareRunBlock blocks old (page / 32) → ⊥) → new page ≡ old page) → Stays blocks old new (age_in old)
  pub values : (blocks : ℕ) (old new : Image) → IsWhole blocks old → ((page : ℕ) → (IsSpareValuePage blocks old page → ⊥) → new page ≡ old page) → Stays blocks old new (age_in old)
