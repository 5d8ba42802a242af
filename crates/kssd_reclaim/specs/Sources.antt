-- The copies of the pages of a block.
use Rattle.std.specs.Prelude.{◌≡◌, ◌<◌, ◌≤◌, ◌/◌, ◌%◌, ℕ, Bool, true, false, List, length, get_or}
use Rattle.kssd_entry.specs.declared.entry.Entry.{Entry}
use Rattle.kssd_entry.specs.declared.entry.Entry.TheVariants.{At}
use Rattle.kssd_values.specs.declared.mark.Mark.{Mark}
use Rattle.kssd_values.specs.declared.mark.Mark.TheVariants.{Pending, Visible, Dead}
use Rattle.kssd_reclaim.specs.declared.copies.CopyOf.{CopyOf}

-- copies of pages of this block by rising sources, all below the next page
pub record AreSources (block next : ℕ) (copies : List CopyOf) : Type 0 where
  pub within : next ≤ 32
  pub block_is : (i : ℕ) (d : CopyOf) → i < length copies → (get_or copies i d).source / 32 ≡ block
  pub below : (i : ℕ) (d : CopyOf) → i < length copies → (get_or copies i d).source % 32 < next
  pub rising : (i j : ℕ) (d : CopyOf) → i < j → j < length copies → (get_or copies i d).source < (get_or copies j d).source

-- whether a visible entry names the page
abbrev pub is_visible : Mark → Bool
is_visible Pending = false
is_visible Visible = true
is_visible Dead = false

-- the entry that names the copy in place of the source
abbrev pub move_of : CopyOf → Entry
move_of copy = At copy.key copy.target copy.length
