-- A small device that tests write and mount; none of its values has a page.
use Rattle.std.specs.Prelude.{◌≡◌, ◌≤◌, ◌+◌, ◌*◌, ◌^◌, ℕ, [], length}
use Rattle.kv_nand.specs.Flash.{Flash}
use Rattle.kssd_image.specs.Stages.{shown_in}
use Rattle.kssd_image.specs.Whole.{pages_named, IsWhole, age_in}
use Rattle.kssd_index.specs.declared.index.Index.{Index}
use Rattle.kssd_index.specs.Standing.{IsIndex, index_age}

-- a mount takes it, and its numbers are low after so many steps
pub record IsTaken (flash : Flash) (steps : ℕ) : Type 0 where
  pub least : 256 ≤ flash.blocks
  pub most : flash.blocks ≤ 2048
  pub whole : IsWhole flash.blocks flash.image
  pub age_is : age_in flash.image ≤ 2 ^ 22 * (steps + 1)

-- an index stands in it, of at most five keys a step
pub record IsSmall (index : Index) (flash : Flash) (steps : ℕ) : Type 0 where
  pub taken : IsTaken flash steps
  pub stands : IsIndex index flash.blocks flash.image
  pub keys : length (shown_in flash.image) ≤ 5 * steps
  pub pages : pages_named (shown_in flash.image) ≡ []
  pub age_is : index_age index ≤ 2 ^ 22 * (steps + 1)
