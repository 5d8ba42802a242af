-- What is read of an anchor's log.
use Rattle.std.specs.Prelude.{◌≡◌, ◌*◌, ◌/◌, ℕ}
use Rattle.kv_base.specs.declared.damage.Damage.{Damage}
use Rattle.kv_base.specs.declared.damage.Damage.TheVariants.{Log}
use Rattle.kv_nand.specs.Flash.{Image, Erased}
use Rattle.kssd_model.specs.declared.anchor.Anchor.{Anchor}
use Rattle.kssd_model.specs.Groups.{IsDamaged}
use Rattle.kssd_image.specs.Stages.{log_map}
use Rattle.kssd_image.specs.Whole.{log_of, IsLogWhole}
use Rattle.kssd_image.specs.Damages.{IsAt}
use Rattle.kssd_recover.specs.declared.log.LogContents.{LogContents}

-- for each key the newest entry, and where the log goes on; a mount takes it
pub record IsLogOf (image : Image) (anchor : Anchor) (log : LogContents) : Type 0 where
  pub entries : log.entries ≡ log_map image (32 * anchor.log_block) anchor.log_seq
  pub last : log.last_block ≡ (log_of image anchor).end / 32
  pub next : log.next_seq ≡ (log_of image anchor).next
  pub whole : IsLogWhole image (log_of image anchor)

-- the page of the log that a mount refuses
abbrev pub IsLogDamage : Image → Anchor → Damage → Type 0
IsLogDamage image anchor = IsAt Log (IsDamaged image (32 * anchor.log_block) anchor.log_seq)

-- each page of the block is Erased
abbrev pub IsErasedBlock : Image → ℕ → Type 0
IsErasedBlock image block = (page : ℕ) → page / 32 ≡ block → image page ≡ Erased
