-- Which images a mount takes.
use Rattle.std.specs.Prelude.{◌≡◌, ◌<◌, ◌^◌, ℕ}
use Rattle.std.specs.FinMap as objects
use Rattle.kv_nand.specs.Flash.{Flash, Image}
use Rattle.kssd_image.specs.Stages.{objects_in}
use Rattle.kssd_image.specs.Whole.{IsWhole, Sound, age_in}
use Rattle.kssd_recover.specs.Formatting.{IsFresh}
use Rattle.kssd_mounted.specs.Standing.{Leaves}

-- an image is taken where its numbers are below the limit, so also what a call leaves
pub record LeftIsTaken : Type 0 where
  pub whole : (blocks : ℕ) (image : Image) → IsWhole blocks image → age_in image < 2 ^ 62 → Sound blocks image
  pub leaves : (old new : Flash) (age : ℕ) → Leaves old age new → age < 2 ^ 62 → Sound new.blocks new.image

-- what a format leaves is taken, has no objects, and its greatest number is 1
pub record FormattedIsTaken : Type 0 where
  pub sound : (blocks : ℕ) (old new : Image) → IsFresh blocks old new → Sound blocks new
  pub none : (blocks : ℕ) (old new : Image) → IsFresh blocks old new → objects_in new ≡ objects.empty
  pub age : (blocks : ℕ) (old new : Image) → IsFresh blocks old new → age_in new ≡ 1
