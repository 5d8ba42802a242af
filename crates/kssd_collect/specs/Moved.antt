-- Marks that go from pages to their copies.
use Rattle.std.specs.Prelude.{◌≡◌, ◌<◌, ◌==◌, ℕ, true, List, length, get_or, filter, if◌then◌else◌}
use Rattle.std.specs.List.{list_any}
use Rattle.kv_nand.specs.Flash.{Image}
use Rattle.kssd_values.specs.declared.mark.Mark.{Mark}
use Rattle.kssd_values.specs.declared.mark.Mark.TheVariants.{Dead}
use Rattle.kssd_values.specs.declared.values.Values.{Values}
use Rattle.kssd_values.specs.Blocks.{mark_at, is_live_at, is_target_page, IsClosed}
use Rattle.kssd_reclaim.specs.declared.copies.CopyOf.{CopyOf}
use Rattle.kssd_reclaim.specs.declared.reclaim.Reclaim.{Reclaim}
use Rattle.kssd_reclaim.specs.Reclaim.{block_of, copies_of}
use Rattle.kssd_machine.specs.Marked.{is_pending}

-- the copies stand one after the other in the block copied into, and the block that they are of is closed
pub record CopiesStand (r : Reclaim) (v : Values) : Type 0 where
  pub closed : IsClosed v (block_of r)
  pub filled : (i : ℕ) (d : CopyOf) → i < length (copies_of r) → is_target_page v (get_or (copies_of r) i d).target ≡ true
  pub rising : (i j : ℕ) (d : CopyOf) → i < j → j < length (copies_of r) → (get_or (copies_of r) i d).target < (get_or (copies_of r) j d).target

-- the copies of pending pages
abbrev pub pending_copies : Reclaim → Values → List CopyOf
pending_copies r v = filter (λ copy. is_pending (mark_at v copy.source)) (copies_of r)

-- the marks after these copies got this one, and their sources died
abbrev pub moved_mark : List CopyOf → Mark → (ℕ → Mark) → ℕ → Mark
moved_mark copies mark before page = if list_any (λ copy. copy.target == page) copies then mark else (if list_any (λ copy. copy.source == page) copies then Dead else before page)

-- the copies of pending pages are dead
abbrev pub AreCopiesDead : Reclaim → Values → Type 0
AreCopiesDead r v = (i : ℕ) (d : CopyOf) → i < length (copies_of r) → is_pending (mark_at v (get_or (copies_of r) i d).source) ≡ true → mark_at v (get_or (copies_of r) i d).target ≡ Dead

-- the copies of visible and pending pages hold what these hold
abbrev pub HoldTheSame : Reclaim → Values → Image → Type 0
HoldTheSame r v image = (i : ℕ) (d : CopyOf) → i < length (copies_of r) → is_live_at v (get_or (copies_of r) i d).source ≡ true → image (get_or (copies_of r) i d).target ≡ image (get_or (copies_of r) i d).source
