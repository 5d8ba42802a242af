-- What holds of damages.
use Rattle.std.specs.Prelude.{◌≡◌, ℕ, true, false, Some}
use Rattle.std.specs.List.{All, list_all}
use Rattle.kv_base.specs.declared.damage.Damage.{Damage}
use Rattle.kv_nand.specs.Flash.{Image}
use Rattle.kssd_model.specs.declared.anchor.Found.{Found}
use Rattle.kssd_model.specs.Anchors.{newest_in}
use Rattle.kssd_model.specs.RunPages.{IsGoodRun}
use Rattle.kssd_image.specs.Stages.{shown_by}
use Rattle.kssd_image.specs.Whole.{log_of, IsLogWhole, has_its_value, Sound}
use Rattle.kssd_image.specs.Damages.{IsAnchorFit, is_passed, IsDamage}

-- what the newest anchor names is clear of each kind of damage
pub record IsClear (blocks : ℕ) (image : Image) (found : Found) : Type 0 where
  pub newest : newest_in image ≡ Some found
  pub anchor : IsAnchorFit blocks found.anchor
  pub runs : All (IsGoodRun image) found.anchor.runs
  pub log : IsLogWhole image (log_of image found.anchor)
  pub values : list_all (has_its_value blocks image) (shown_by image found.anchor) ≡ true
  pub limits : (limit : ℕ) → is_passed blocks image found.anchor limit ≡ false

-- no two damages apply to one image
abbrev pub DamageIsOne : Type 0
DamageIsOne = (blocks : ℕ) (image : Image) (first second : Damage) → IsDamage blocks image first → IsDamage blocks image second → first ≡ second

-- sound is an image to which none applies, and which is clear of each
pub record SoundIsWithoutDamage : Type 0 where
  pub none : (blocks : ℕ) (image : Image) (damage : Damage) → Sound blocks image → IsDamage blocks image damage → ⊥
  pub clear : (blocks : ℕ) (image : Image) (found : Found) → IsClear blocks image found → Sound blocks image
  pub sound : (blocks : ℕ) (image : Image) (found : Found) → newest_in image ≡ Some found → Sound blocks image → IsClear blocks image found
  pub otherwise : (blocks : ℕ) (image : Image) → ((damage : Damage) → IsDamage blocks image damage → ⊥) → Sound blocks image
