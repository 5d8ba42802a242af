-- Images with low numbers are taken.
use Rattle.std.proofs.Common.{ℕ, ◌<◌, ◌^◌, Option, Some, None, max, arith}
use Rattle.kv_nand.specs.Flash.{Flash, Image}
use Rattle.kssd_model.specs.declared.anchor.Found.{Found}
use Rattle.kssd_model.specs.Anchors.{newest_in}
use Rattle.kssd_image.specs.Stages.{anchor_of, the_anchor}
use Rattle.kssd_image.specs.AnchorForm.{anchor_age, HasLowNumbers}
use Rattle.kssd_image.specs.Whole.{IsWhole, Sound, age_of, age_in}
use Rattle.kssd_mounted.specs.Standing.{Leaves}

first_below : (a b n : ℕ) → max a b < n → a < n
first_below a b n low = grind arith

found_low : (image : Image) (found : Option Found) → age_of image found < 2 ^ 62 → HasLowNumbers (anchor_of found)
found_low image None low = omega arith
found_low image (Some found) low = first_below (anchor_age found.anchor) _ (2 ^ 62) low

pub taken : (blocks : ℕ) (image : Image) → IsWhole blocks image → age_in image < 2 ^ 62 → Sound blocks image
unfolding age_in the_anchor
taken blocks image whole low = record { whole = whole; numbers = found_low image (newest_in image) low }

pub left_taken : (old new : Flash) (age : ℕ) → Leaves old age new → age < 2 ^ 62 → Sound new.blocks new.image
left_taken old new age leaves low = let most = leaves.age_is in taken new.blocks new.image leaves.whole (omega arith)
