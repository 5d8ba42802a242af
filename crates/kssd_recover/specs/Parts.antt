-- What a device holds, as it is recovered.
use Rattle.std.specs.Prelude.{◌≡◌, ◌*◌, ◌/◌, ◌==◌, ◌↔◌, ℕ, false, IsTrue, List, length, Some, None, if◌then◌else◌}
use Rattle.std.specs.List.{list_any}
use Rattle.std.specs.FinMap as objects
use Rattle.kv_base.specs.declared.damage.Damage.{Damage}
use Rattle.kv_base.specs.declared.damage.Damage.TheVariants.{NoAnchor, Run}
use Rattle.kv_nand.specs.Flash.{Image}
use Rattle.kssd_model.specs.declared.anchor.Anchor.{Anchor}
use Rattle.kssd_model.specs.Anchors.{newest_in}
use Rattle.kssd_image.specs.Stages.{log_map, shown_in, objects_in}
use Rattle.kssd_image.specs.Whole.{log_of, pages_named, Sound}
use Rattle.kssd_image.specs.Damages.{IsAt, IsAnchorFit, IsBadRunOf}
use Rattle.kssd_levels.specs.Levels.{AreOpened}
use Rattle.kssd_values.specs.declared.values.Values.{Values}
use Rattle.kssd_values.specs.declared.mark.Mark.TheVariants.{Visible, Dead}
use Rattle.kssd_values.specs.Places.{IsValueBlock}
use Rattle.kssd_values.specs.Blocks.{Free, Closed, device_of, mark_at, state_at, open_room, has_target}
use Rattle.kssd_recover.specs.declared.index.Index.{Index}
use Rattle.kssd_recover.specs.declared.recovering.Parts.{Parts}
use Rattle.kssd_recover.specs.Log.{IsLogOf, IsErasedBlock}

-- there is no anchor
abbrev pub LacksAnchor : Image → Damage → Type 0
LacksAnchor image damage = (newest_in image ≡ None) × (damage ≡ NoAnchor)

-- the first damaged page of an anchor's runs
abbrev pub IsRunDamage : Image → Anchor → Damage → Type 0
IsRunDamage image anchor = IsAt Run (IsBadRunOf image anchor.runs)

-- the newest anchor, its runs, and its log; a mount takes them
pub record IsIndexRead (blocks : ℕ) (image : Image) (index : Index) : Type 0 where
  pub found : newest_in image ≡ Some index.found
  pub fit : IsAnchorFit blocks index.found.anchor
  pub levels : AreOpened index.found.anchor.runs blocks image index.levels
  pub log : IsLogOf image index.found.anchor index.log

-- exactly these pages are visible: a block with one of them is closed, every other one is free, and none is open
pub record HasVisible (blocks : ℕ) (visible : List ℕ) (values : Values) : Type 0 where
  pub device : device_of values ≡ blocks
  pub marks : (page : ℕ) → mark_at values page ≡ (if list_any (λ q. q == page) visible then Visible else Dead)
  pub states : (block : ℕ) → IsValueBlock blocks block → state_at values block ≡ (if list_any (λ q. (q / 32) == block) visible then Closed else Free)
  pub opened : open_room values ≡ 0
  pub target : has_target values ≡ false

-- the parts of a sound image: its newest anchor, the runs that stand as that anchor names them, the newest entry of each key in the log and where the log goes on, the visible pages, and how many objects there are
pub record AreParts (blocks : ℕ) (image : Image) (parts : Parts) : Type 0 where
  pub sound : Sound blocks image
  pub device : parts.layout.blocks ≡ blocks
  pub found : newest_in image ≡ Some (record { page = parts.anchor_page; anchor = parts.anchor })
  pub levels : AreOpened parts.anchor.runs blocks image parts.levels
  pub log : parts.log ≡ log_map image (32 * parts.anchor.log_block) parts.anchor.log_seq
  pub clean : IsTrue parts.clean ↔ IsErasedBlock image parts.anchor.log_block
  pub last_block : parts.last_block ≡ (log_of image parts.anchor).end / 32
  pub next_seq : parts.next_seq ≡ (log_of image parts.anchor).next
  pub values : HasVisible blocks (pages_named (shown_in image)) parts.values
  pub keys : parts.keys ≡ objects.len (objects_in image)
  pub pages : parts.pages ≡ length (pages_named (shown_in image))
