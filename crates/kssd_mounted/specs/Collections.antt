-- A collection that is under way while other calls are made.
use Rattle.std.specs.Prelude.{◌≡◌, ◌/◌, ℕ, true, false, Option, Some, None}
use Rattle.kv_nand.specs.Flash.{Image}
use Rattle.kssd_values.specs.declared.values.Values.{Values}
use Rattle.kssd_values.specs.Blocks.{Closed, Target, device_of, is_live_at, state_at, has_target, is_target_page, IsClosed}
use Rattle.kssd_values.specs.Changes.{SameTarget}
use Rattle.kssd_reclaim.specs.declared.reclaim.Reclaim.{Reclaim}
use Rattle.kssd_reclaim.specs.Reclaim.{block_of, Collects}
use Rattle.kssd_machine.specs.Collecting.{HasTargets, AreFew}

-- the block that is collected is closed, the copies made are those of its pages, and they stand in the block copied into, of which no page is named and which isn't full
pub record IsUnderWay (r : Reclaim) (v : Values) (image : Image) : Type 0 where
  pub closed : IsClosed v (block_of r)
  pub collects : Collects r v image
  pub targets : HasTargets r v
  pub few : AreFew r v

-- the collection under way stands; where there is none, no block is being copied into
abbrev pub CollectsIn : Option Reclaim → Values → Image → Type 0
CollectsIn None v image = has_target v ≡ false
CollectsIn (Some r) v image = IsUnderWay r v image

-- what bears a collection: the same block is copied into, as far; closed blocks stay closed, and none becomes the one copied into; no page of either comes to life; and what is copied and what is live in a closed block holds the same
pub record BearsCollection (v w : Values) (before after : Image) : Type 0 where
  pub device : device_of w ≡ device_of v
  pub target : SameTarget v w
  pub closed : (block : ℕ) → state_at v block ≡ Closed → state_at w block ≡ Closed
  pub into : (block : ℕ) → state_at w block ≡ Target → state_at v block ≡ Target
  pub live : (page : ℕ) → state_at v (page / 32) ≡ Closed → is_live_at w page ≡ true → is_live_at v page ≡ true
  pub dead : (page : ℕ) → state_at w (page / 32) ≡ Target → is_live_at w page ≡ true → is_live_at v page ≡ true
  pub same : (page : ℕ) → state_at v (page / 32) ≡ Closed → is_live_at w page ≡ true → after page ≡ before page
  pub filled : (page : ℕ) → is_target_page v page ≡ true → after page ≡ before page
