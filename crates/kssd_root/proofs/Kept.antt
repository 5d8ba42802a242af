-- What exits keep of an image.
use Rattle.std.proofs.Common.{◌≡◌, ◌∙◌, ℕ, sym, ap, subst, arith}
use Rattle.kv_nand.specs.Flash.{Image}
use Rattle.kssd_model.specs.declared.anchor.Anchor.{Anchor}
use Rattle.kssd_image.specs.Stages.{shown_by}
use Rattle.kssd_image.specs.Whole.{IsIndexOf}
use Rattle.kssd_anchor.specs.Places.{SameBehind}
use Rattle.kssd_frames.specs.Same.{as_counted, StaysBy}
use Rattle.kssd_frames.proofs.SameImages.{index_stays}
use Rattle.kssd_frames.proofs.SparePages.{runs_outside}
use Rattle.kssd_root.specs.Standing.{IsAnchored}
use Rattle.kssd_root.specs.Mapping.{SameValues, IsKept}
use Rattle.kssd_root.proofs.Anchored.{shown_is, has_index}

pub kept_by : (page : ℕ) (anchor : Anchor) (blocks : ℕ) (old new : Image) → IsAnchored page anchor blocks old → IsAnchored page anchor blocks new → shown_by new anchor ≡ shown_by old anchor → SameValues blocks old new → IsKept blocks old new
kept_by page anchor blocks old new h now shown values = record {
  index = has_index page anchor blocks new now;
  shown = shown_is page anchor new now.newest ∙ shown ∙ sym (shown_is page anchor old h.newest);
  values = values;
}

pub kept_as : (page place : ℕ) (anchor next : Anchor) (blocks : ℕ) (old new : Image) → IsAnchored page anchor blocks old → IsAnchored place next blocks new → shown_by new next ≡ shown_by old anchor → SameValues blocks old new → IsKept blocks old new
kept_as page place anchor next blocks old new h now shown values = record {
  index = has_index place next blocks new now;
  shown = shown_is place next new now.newest ∙ shown ∙ sym (shown_is page anchor old h.newest);
  values = values;
}

pub kept_then : (blocks : ℕ) (old mid new : Image) → IsKept blocks old mid → IsKept blocks mid new → IsKept blocks old new
kept_then blocks old mid new first more = record {
  index = more.index;
  shown = more.shown ∙ first.shown;
  values = λ q le. more.values q le ∙ first.values q le;
}

pub kept_on : (blocks other : ℕ) (old mid new : Image) → other ≡ blocks → IsKept blocks old mid → IsKept other mid new → IsKept blocks old new
kept_on blocks other old mid new same first more = kept_then blocks old mid new first (subst (λ (n : ℕ). IsKept n mid new) same more)

-- ---- the anchors' blocks alone differ

pub behind_stays : (blocks : ℕ) (old new : Image) (anchor : Anchor) → IsIndexOf blocks old anchor → SameBehind old new → StaysBy blocks old new anchor
behind_stays blocks old new anchor index same = index_stays blocks old new anchor index (record {
  ring = λ page low high. ap as_counted (same page low);
  runs = runs_outside blocks old new anchor index.form (λ page le. ap as_counted (same page (omega arith)));
})
