-- A collection under way.
use Rattle.std.specs.Prelude.{◌≡◌, ◌<◌, ◌≤◌, ◌/◌, ◌%◌, ◌==◌, ℕ, true, false, List, length, get_or, map, filter}
use Rattle.std.specs.List.{list_any}
use Rattle.kv_nand.specs.Flash.{Image}
use Rattle.kssd_entry.specs.declared.entry.Entry.{Entry}
use Rattle.kssd_values.specs.declared.values.Values.{Values}
use Rattle.kssd_values.specs.Blocks.{mark_at, is_live_at, is_target_page}
use Rattle.kssd_values.specs.Pages.{key_in, size_in}
use Rattle.kssd_reclaim.specs.declared.copies.CopyOf.{CopyOf}
use Rattle.kssd_reclaim.specs.declared.reclaim.Reclaim.{Reclaim}
use Rattle.kssd_reclaim.specs.Sources.{is_visible, move_of}

-- the block that is collected
abbrev pub block_of : Reclaim → ℕ
block_of r = r.block

-- from which page within the block on sources are looked for
abbrev pub next_of : Reclaim → ℕ
next_of r = r.next

-- the copies made
abbrev pub copies_of : Reclaim → List CopyOf
copies_of r = r.copies

-- a page of the block that may still be copied
pub record IsAhead (r : Reclaim) (page : ℕ) : Type 0 where
  pub block_is : page / 32 ≡ block_of r
  pub from : next_of r ≤ page % 32

-- no page that is visible or pending is left to be copied
abbrev pub AllCopied : Reclaim → Values → Type 0
AllCopied r v = (page : ℕ) → IsAhead r page → is_live_at v page ≡ false

-- the next page to be copied: the first that is visible or pending
pub record IsNext (r : Reclaim) (v : Values) (page : ℕ) : Type 0 where
  pub ahead : IsAhead r page
  pub live : is_live_at v page ≡ true
  pub first : (other : ℕ) → IsAhead r other → other < page → is_live_at v other ≡ false

-- a copy is below the next page of the block copied into; while its source is visible or pending, it holds what the source holds, and names the source's key and length
pub record IsCopy (v : Values) (image : Image) (copy : CopyOf) : Type 0 where
  pub filled : is_target_page v copy.target ≡ true
  pub page : is_live_at v copy.source ≡ true → image copy.target ≡ image copy.source
  pub key : is_live_at v copy.source ≡ true → copy.key ≡ key_in (image copy.source)
  pub size : is_live_at v copy.source ≡ true → copy.length ≡ size_in (image copy.source)

-- each copy is one, and each visible or pending page below the next has one
pub record Collects (r : Reclaim) (v : Values) (image : Image) : Type 0 where
  pub each : (i : ℕ) (d : CopyOf) → i < length (copies_of r) → IsCopy v image (get_or (copies_of r) i d)
  pub complete : (page : ℕ) → page / 32 ≡ block_of r → page % 32 < next_of r → is_live_at v page ≡ true → list_any (λ copy. copy.source == page) (copies_of r) ≡ true

-- the entries that name the copies of visible pages
abbrev pub moves_of : Reclaim → Values → List Entry
moves_of r v = map move_of (filter (λ copy. is_visible (mark_at v copy.source)) (copies_of r))
