-- What the stages of an image are where its newest anchor is known.
use Rattle.std.proofs.Common.{◌≡◌, ℕ, Some, refl, sym, ap, subst, inl}
use Rattle.std.specs.Prelude.{is_some}
use Rattle.kv_nand.specs.Flash.{Image}
use Rattle.kssd_entry.specs.declared.entry.Entry.{Entry}
use Rattle.std.specs.Prelude.{List}
use Rattle.kssd_model.specs.declared.anchor.Anchor.{Anchor}
use Rattle.kssd_model.specs.Anchors.{newest_in}
use Rattle.kssd_image.specs.Stages.{anchor_of, the_anchor, shown_by, shown_in}
use Rattle.kssd_image.specs.Whole.{IsIndexOf, age_by, age_of, age_in}
use Rattle.kssd_root.specs.Standing.{IsAnchored}
use Rattle.kssd_root.specs.Mapping.{HasIndex, IsKept, IsBeforeOrAfter}

pub anchor_is : (page : ℕ) (anchor : Anchor) (image : Image) → newest_in image ≡ Some (record { page = page; anchor = anchor }) → the_anchor image ≡ anchor
unfolding the_anchor
anchor_is page anchor image e = ap anchor_of e

pub shown_is : (page : ℕ) (anchor : Anchor) (image : Image) → newest_in image ≡ Some (record { page = page; anchor = anchor }) → shown_in image ≡ shown_by image anchor
unfolding shown_in
shown_is page anchor image e = ap (shown_by image) (anchor_is page anchor image e)

pub age_is : (page : ℕ) (anchor : Anchor) (image : Image) → newest_in image ≡ Some (record { page = page; anchor = anchor }) → age_in image ≡ age_by image anchor
unfolding age_in
age_is page anchor image e = ap (age_of image) e

pub has_index : (page : ℕ) (anchor : Anchor) (blocks : ℕ) (image : Image) → IsAnchored page anchor blocks image → HasIndex blocks image
has_index page anchor blocks image h = record {
  found = ap is_some h.newest;
  index = subst (IsIndexOf blocks image) (sym (anchor_is page anchor image h.newest)) h.index;
}

pub kept_still : (page : ℕ) (anchor : Anchor) (blocks : ℕ) (image : Image) → IsAnchored page anchor blocks image → IsKept blocks image image
kept_still page anchor blocks image h = record {
  index = has_index page anchor blocks image h;
  shown = refl;
  values = λ q le. refl;
}

pub before_still : (page : ℕ) (anchor : Anchor) (blocks : ℕ) (image : Image) (entries : List Entry) → IsAnchored page anchor blocks image → IsBeforeOrAfter blocks image entries image
before_still page anchor blocks image entries h = record {
  index = has_index page anchor blocks image h;
  shown = inl refl;
  values = λ q le. refl;
}
