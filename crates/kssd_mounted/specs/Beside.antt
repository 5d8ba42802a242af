-- What stays of an index where only the blocks of values change.
use Rattle.std.specs.Prelude.{◌≡◌, ◌/◌, ℕ}
use Rattle.kv_nand.specs.Flash.{Image}
use Rattle.kssd_model.specs.declared.anchor.Anchor.{Anchor}
use Rattle.kssd_model.specs.Anchors.{newest_in}
use Rattle.kssd_image.specs.Stages.{shown_in}
use Rattle.kssd_image.specs.Whole.{IsIndexOf, age_in}
use Rattle.kssd_values.specs.Places.{IsValueBlock}
use Rattle.kssd_index.specs.declared.index.Index.{Index}
use Rattle.kssd_index.specs.Standing.{IsIndex}
use Rattle.kssd_root.specs.Mapping.{HasIndex}

-- the pages outside the blocks of values are the same
abbrev pub OnlyValues : ℕ → Image → Image → Type 0
OnlyValues blocks old new = (page : ℕ) → (IsValueBlock blocks (page / 32) → ⊥) → new page ≡ old page

-- where only the blocks of values change, the newest anchor, its index, what it shows and its age stay, and an index in memory still stands
pub record IndexesStayBesideValues : Type 0 where
  pub newest : (blocks : ℕ) (old new : Image) → OnlyValues blocks old new → newest_in new ≡ newest_in old
  pub index_of : (blocks : ℕ) (old new : Image) (anchor : Anchor) → OnlyValues blocks old new → IsIndexOf blocks old anchor → IsIndexOf blocks new anchor
  pub has : (blocks : ℕ) (old new : Image) → OnlyValues blocks old new → HasIndex blocks old → HasIndex blocks new
  pub shown : (blocks : ℕ) (old new : Image) → OnlyValues blocks old new → HasIndex blocks old → shown_in new ≡ shown_in old
  pub age_is : (blocks : ℕ) (old new : Image) → OnlyValues blocks old new → HasIndex blocks old → age_in new ≡ age_in old
  pub stands : (index : Index) (blocks : ℕ) (old new : Image) → OnlyValues blocks old new → IsIndex index blocks old → IsIndex index blocks new
