-- A block of values whose pages are being copied.
use Rattle.std.specs.Prelude.{◌≡◌, ◌≤◌, ◌+◌, ◌-◌, ◌*◌, ℕ, true, false, if◌then◌else◌}
use Rattle.kv_nand.specs.Flash.{Flash, Image}
use Rattle.kv_nand.specs.Working.{Works, ops_more}
use Rattle.kssd_values.specs.declared.values.Values.{Values}
use Rattle.kssd_values.specs.Blocks.{device_of, is_filled, has_target, free_count, IsClosed}
use Rattle.kssd_values.specs.Pages.{KeepsPages, StandsIn}
use Rattle.kssd_values.specs.Changes.{SameMarks}
use Rattle.kssd_reclaim.specs.declared.reclaim.Reclaim.{Reclaim}
use Rattle.kssd_reclaim.specs.Reclaim.{block_of, next_of, Collects}
use Rattle.kssd_machine.specs.Marked.{HasBlock}
use Rattle.kssd_machine.specs.Collecting.{HasTargets, AreFew}

-- the copies made so far are those of a closed block's pages, they stand in the block copied into, and that isn't full
pub record HasCopies (r : Reclaim) (v : Values) (image : Image) : Type 0 where
  pub collects : Collects r v image
  pub targets : HasTargets r v
  pub few : AreFew r v
  pub closed : IsClosed v (block_of r)
  pub block : HasBlock v

-- how many more operations copying may take
abbrev pub copies_left : Reclaim → Values → ℕ
copies_left r v = (32 - next_of r) + (if has_target v then 0 else 1)

-- pages are being copied, so many operations later: since the beginning every page has its mark, and what marks and blocks that are filled keep is kept
pub record IsCopying (first : Reclaim) (old : Values) (before : Flash) (done : ℕ) (r : Reclaim) (v : Values) (now : Flash) : Type 0 where
  pub copies : HasCopies r v now.image
  pub stands : StandsIn v now
  pub device : device_of v ≡ device_of old
  pub marks : SameMarks old v
  pub filled : (q : ℕ) → is_filled old q ≡ true → is_filled v q ≡ true
  pub keeps : KeepsPages old before.image now.image
  pub works : Works before now done (2 * done)
  pub exact : now.ops ≡ ops_more before done
  pub fewer : done + copies_left r v ≤ copies_left first old
  pub none : has_target v ≡ false → free_count v ≡ free_count old
