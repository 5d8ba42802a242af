-- The map of an image from keys to their newest entries, and what calls leave of it.
use Rattle.std.specs.Prelude.{◌≡◌, ◌⊎◌, ◌≤◌, ◌/◌, ℕ, true, List, is_some}
use Rattle.kv_nand.specs.Flash.{Image}
use Rattle.kssd_layout.specs.Numbers.{first_value_block_in}
use Rattle.kssd_entry.specs.declared.entry.Entry.{Entry}
use Rattle.kssd_model.specs.Anchors.{newest_in}
use Rattle.kssd_model.specs.Rising.{merged}
use Rattle.kssd_image.specs.Stages.{the_anchor, without_marks, shown_in}
use Rattle.kssd_image.specs.Whole.{IsIndexOf}

-- there is an anchor, and what the newest names is what a mount demands, values and the limit on numbers apart
pub record HasIndex (blocks : ℕ) (image : Image) : Type 0 where
  pub found : is_some (newest_in image) ≡ true
  pub index : IsIndexOf blocks image (the_anchor image)

-- the visible entries with these put over them, of which deletion marks remove those of their keys
abbrev pub with_entries : List Entry → List Entry → List Entry
with_entries shown entries = without_marks (merged entries shown)

-- the pages in blocks of values are the same
abbrev pub SameValues : ℕ → Image → Image → Type 0
SameValues blocks old new = (q : ℕ) → first_value_block_in blocks ≤ q / 32 → new q ≡ old q

-- an image has an index with the same visible entries, and the same pages of values
pub record IsKept (blocks : ℕ) (old new : Image) : Type 0 where
  pub index : HasIndex blocks new
  pub shown : shown_in new ≡ shown_in old
  pub values : SameValues blocks old new

-- an image has an index with the visible entries as before or with these over them, and the same pages of values
pub record IsBeforeOrAfter (blocks : ℕ) (old : Image) (entries : List Entry) (new : Image) : Type 0 where
  pub index : HasIndex blocks new
  pub shown : (shown_in new ≡ shown_in old) ⊎ (shown_in new ≡ with_entries (shown_in old) entries)
  pub values : SameValues blocks old new
