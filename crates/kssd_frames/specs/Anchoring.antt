-- What operations on the anchors' blocks leave.
use Rattle.std.specs.Prelude.{◌≡◌, ◌≤◌, ℕ, Some}
use Rattle.kv_nand.specs.Flash.{Image}
use Rattle.kssd_model.specs.declared.anchor.Anchor.{Anchor}
use Rattle.kssd_model.specs.declared.anchor.Found.{Found}
use Rattle.kssd_model.specs.Anchors.{newest_in}
use Rattle.kssd_image.specs.Stages.{the_anchor, shown_by, shown_in}
use Rattle.kssd_image.specs.AnchorForm.{HasLowNumbers}
use Rattle.kssd_image.specs.Whole.{IsIndexOf, IsWhole, Sound, age_by, age_in}
use Rattle.kssd_frames.specs.Same.{StaysBy, KeepsObjects, Stays}

-- only pages of the anchors' blocks may differ
abbrev pub ChangesAnchors : Image → Image → Type 0
ChangesAnchors old new = (page : ℕ) → 64 ≤ page → new page ≡ old page

-- this anchor is the newest now, with the objects as before
pub record IsTakenOver (blocks : ℕ) (old new : Image) (anchor : Anchor) : Type 0 where
  pub anchor_is : the_anchor new ≡ anchor
  pub stays : StaysBy blocks old new anchor
  pub keeps : KeepsObjects blocks old new
  pub age_is : age_in new ≡ age_by old anchor

-- where the newest anchor is as it was, all is; where another is the newest, whose index stood before and shows the same, the objects are
pub record AnchorsTakeOver : Type 0 where
  pub old_newest : (blocks : ℕ) (old new : Image) → IsWhole blocks old → ChangesAnchors old new → newest_in new ≡ newest_in old → Stays blocks old new (age_in old)
  pub given : (blocks : ℕ) (old new : Image) (found : Found) → IsWhole blocks old → ChangesAnchors old new → newest_in new ≡ Some found → IsIndexOf blocks old found.anchor → shown_by old found.anchor ≡ shown_in old → IsTakenOver blocks old new found.anchor

-- a sound image stays sound where its newest anchor does, and where one with low numbers takes over; and what stays twice stays
pub record SoundStays : Type 0 where
  pub same : (blocks : ℕ) (old new : Image) (age : ℕ) → Stays blocks old new age → Sound blocks old → Sound blocks new
  pub given : (blocks : ℕ) (old new : Image) (anchor : Anchor) → IsTakenOver blocks old new anchor → HasLowNumbers anchor → Sound blocks new
  pub twice : (blocks : ℕ) (old between new : Image) (first last : ℕ) → Stays blocks old between first → Stays blocks between new last → Stays blocks old new last
