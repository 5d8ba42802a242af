-- What operations leave on pages that nothing names, and on the anchors' blocks.
use Rattle.std.proofs.Common.{◌≡◌, ◌∙◌, ℕ, ◌-◌, ◌/◌, ◌<◌, ◌≤◌, true, max, List, Some, sym, ap, subst, arith, inl, inr}
use Rattle.std.specs.Prelude.{is_some}
use Rattle.std.specs.List.{All, list_all}
use Rattle.kv_nand.specs.Flash.{Image, LeftByProgram, LeftByErase}
use Rattle.kssd_layout.specs.Numbers.{region_in}
use Rattle.kssd_layout.specs.declared.region.Region.TheVariants.{Anchor, Log, Run, Value}
use Rattle.kssd_entry.specs.declared.entry.Entry.{Entry}
use Rattle.kssd_model.specs.declared.anchor.Anchor as model
use Rattle.kssd_model.specs.declared.anchor.Found.{Found}
use Rattle.kssd_model.specs.Anchors.{newest_in}
use Rattle.kssd_image.specs.Stages.{anchor_of, the_anchor, shown_by, shown_in}
use Rattle.kssd_image.specs.AnchorForm.{IsAnchorForm, HasLowNumbers, anchor_age, blocks_of}
use Rattle.kssd_image.specs.Whole.{pages_named, has_its_value, IsIndexOf, AreValuesWhole, IsWhole, Sound, age_of, age_in}
use Rattle.kssd_frames.specs.Same.{as_counted, IsSameAt, IsSameIndex, AreSameValues, Stays}
use Rattle.kssd_frames.specs.Spare.{IsSpareRunBlock, IsSpareValuePage, IsSpare, ChangesSparePages}
use Rattle.kssd_frames.specs.Anchoring.{ChangesAnchors, IsTakenOver}
use Rattle.kssd_frames.proofs.SameImages.{IsSameRun, newest_in_alike, index_stays, image_stays, objects_follow, whole_from}
use Rattle.kssd_frames.proofs.Places.{region_of_anchors, region_of_log, region_of_values, run_is_behind, IsNamedRunPage, run_pages_named, IsNamedValuePage, value_pages_named}

-- ---- pages that nothing names

-- a page whose region is another's isn't spare
not_spare : (blocks : ℕ) (image : Image) (page : ℕ) → (region_in blocks (page / 32) ≡ Run → ⊥) → (region_in blocks (page / 32) ≡ Value → ⊥) → IsSpare blocks image page → ⊥
not_spare blocks image page run value spare = elim spare [ inl s ↦ run s.0 | inr s ↦ value s.0 ]

anchors_arent : (blocks : ℕ) (image : Image) (page : ℕ) → page < 64 → IsSpare blocks image page → ⊥
anchors_arent blocks image page lt =
    let r = region_of_anchors blocks (page / 32) (omega arith) in
    not_spare blocks image page (λ e. absurd (let f : Anchor ≡ Run = sym r ∙ e in cc)) (λ e. absurd (let f : Anchor ≡ Value = sym r ∙ e in cc))

logs_arent : (blocks : ℕ) (image : Image) (page : ℕ) → 64 ≤ page → page < 640 → IsSpare blocks image page → ⊥
logs_arent blocks image page low high =
    let r = region_of_log blocks (page / 32) (omega arith) (omega arith) in
    not_spare blocks image page (λ e. absurd (let f : Log ≡ Run = sym r ∙ e in cc)) (λ e. absurd (let f : Log ≡ Value = sym r ∙ e in cc))

runs_arent : (blocks : ℕ) (image : Image) (page : ℕ) → IsNamedRunPage blocks (blocks_of (the_anchor image).runs) page → IsSpare blocks image page → ⊥
runs_arent blocks image page n spare = elim spare [
  | inl s ↦ s.1 n.named
  | inr s ↦ absurd (let f : Run ≡ Value = sym n.region ∙ s.0 in cc)
]

values_arent : (blocks : ℕ) (image : Image) (page : ℕ) → IsNamedValuePage blocks (pages_named (shown_in image)) page → IsSpare blocks image page → ⊥
values_arent blocks image page n spare = elim spare [
  | inl s ↦ absurd (let f : Value ≡ Run = sym (region_of_values blocks (page / 32) n.behind) ∙ s.0 in cc)
  | inr s ↦ s.1 n.named
]

pub spare_pages_stay : (blocks : ℕ) (old new : Image) → IsWhole blocks old → ChangesSparePages blocks old new → Stays blocks old new (age_in old)
spare_pages_stay blocks old new whole same =
    let runs = run_pages_named blocks (the_anchor old).runs whole.index.form.runs in
    let values = value_pages_named blocks old (shown_in old) whole.values.pages in
    image_stays blocks old new whole
    (newest_in_alike old new (λ page lt. same page (anchors_arent blocks old page lt)))
    (record { ring = λ page low high. same page (logs_arent blocks old page low high); runs = λ k d lt i less. same _ (runs_arent blocks old _ (runs k d lt i less)) })
    (λ k d lt. same _ (values_arent blocks old _ (values k d lt)))

pub program_stays : (blocks : ℕ) (old new : Image) (page : ℕ) (bytes : List ℕ) → IsWhole blocks old → LeftByProgram old page bytes new → IsSpare blocks old page → Stays blocks old new (age_in old)
program_stays blocks old new page bytes whole left spare =
    spare_pages_stay blocks old new whole (λ q not. ap as_counted (left.elsewhere q (λ e. not (subst (IsSpare blocks old) (sym e) spare))))

pub erase_stays : (blocks : ℕ) (old new : Image) (block : ℕ) → IsWhole blocks old → LeftByErase old block new → ((page : ℕ) → page / 32 ≡ block → IsSpare blocks old page) → Stays blocks old new (age_in old)
erase_stays blocks old new block whole left spare =
    spare_pages_stay blocks old new whole (λ q not. ap as_counted (left.elsewhere q (λ e. not (spare q e))))

pub run_blocks_stay : (blocks : ℕ) (old new : Image) → IsWhole blocks old → ((page : ℕ) → (IsSpareRunBlock blocks old (page / 32) → ⊥) → new page ≡ old page) → Stays blocks old new (age_in old)
run_blocks_stay blocks old new whole same = spare_pages_stay blocks old new whole (λ q not. ap as_counted (same q (λ s. not (inl s))))

pub value_pages_stay : (blocks : ℕ) (old new : Image) → IsWhole blocks old → ((page : ℕ) → (IsSpareValuePage blocks old page → ⊥) → new page ≡ old page) → Stays blocks old new (age_in old)
value_pages_stay blocks old new whole same = spare_pages_stay blocks old new whole (λ q not. ap as_counted (same q (λ s. not (inr s))))

-- ---- anchors

-- the pages of runs lie behind the ring
pub runs_outside : (blocks : ℕ) (old new : Image) (anchor : model.Anchor) → IsAnchorForm blocks anchor → ((page : ℕ) → 640 ≤ page → IsSameAt old new page) → All (IsSameRun old new) anchor.runs
runs_outside blocks old new anchor form same k d lt i less = same _ (behind _ (run_pages_named blocks anchor.runs form.runs k d lt i less))
  where
    behind : (page : ℕ) → IsNamedRunPage blocks (blocks_of anchor.runs) page → 640 ≤ page
    behind page n = let low = run_is_behind blocks (page / 32) n.region in omega arith

-- and those of values
pub values_outside : (blocks : ℕ) (old new : Image) (entries : List Entry) → list_all (has_its_value blocks old) entries ≡ true → ((page : ℕ) → 640 ≤ page → IsSameAt old new page) → AreSameValues old new entries
values_outside blocks old new entries whole same k d lt = same _ (behind _ (value_pages_named blocks old entries whole k d lt))
  where
    behind : (page : ℕ) → IsNamedValuePage blocks (pages_named entries) page → 640 ≤ page
    behind page n = omega (arith, n.behind)

-- no page of the index lies in the anchors' blocks
index_is_behind : (blocks : ℕ) (old new : Image) (anchor : model.Anchor) → IsAnchorForm blocks anchor → ChangesAnchors old new → IsSameIndex old new anchor
index_is_behind blocks old new anchor form same = record { ring = λ page low high. ap as_counted (same page low); runs = runs_outside blocks old new anchor form (λ page le. ap as_counted (same page (omega arith))) }

-- and none of a value
values_are_behind : (blocks : ℕ) (old new : Image) → AreValuesWhole blocks old (shown_in old) → ChangesAnchors old new → AreSameValues old new (shown_in old)
values_are_behind blocks old new whole same = values_outside blocks old new (shown_in old) whole.pages (λ page le. ap as_counted (same page (omega arith)))

pub old_anchor_stays : (blocks : ℕ) (old new : Image) → IsWhole blocks old → ChangesAnchors old new → newest_in new ≡ newest_in old → Stays blocks old new (age_in old)
old_anchor_stays blocks old new whole same newest =
    image_stays blocks old new whole newest (index_is_behind blocks old new (the_anchor old) whole.index.form same) (values_are_behind blocks old new whole.values same)

pub given_anchor : (blocks : ℕ) (old new : Image) (found : Found) → IsWhole blocks old → ChangesAnchors old new → newest_in new ≡ Some found → IsIndexOf blocks old found.anchor → shown_by old found.anchor ≡ shown_in old → IsTakenOver blocks old new found.anchor
unfolding the_anchor shown_in age_in
given_anchor blocks old new found whole same newest index shows =
    let anchor : the_anchor new ≡ found.anchor = ap anchor_of newest in
    let stays = index_stays blocks old new found.anchor index (index_is_behind blocks old new found.anchor index.form same) in
    let values = values_are_behind blocks old new whole.values same in
    let shown : shown_in new ≡ shown_in old = ap (shown_by new) anchor ∙ stays.shown ∙ shows in
    record {
      anchor_is = anchor;
      stays = stays;
      keeps = record {
        shown = shown;
        objects = objects_follow old new shown values;
        whole = whole_from blocks old new (ap is_some newest) (subst (IsIndexOf blocks new) (sym anchor) stays.index) shown values whole.values;
      };
      age_is = ap (age_of new) newest ∙ (λ i. max (anchor_age found.anchor) ((stays.log i).next - 1));
    }

-- ---- soundness

pub sound_stays : (blocks : ℕ) (old new : Image) (age : ℕ) → Stays blocks old new age → Sound blocks old → Sound blocks new
unfolding the_anchor
sound_stays blocks old new age stays sound = record { whole = stays.keeps.whole; numbers = subst (λ o. HasLowNumbers (anchor_of o)) (sym stays.newest) sound.numbers }

pub sound_given : (blocks : ℕ) (old new : Image) (anchor : model.Anchor) → IsTakenOver blocks old new anchor → HasLowNumbers anchor → Sound blocks new
sound_given blocks old new anchor taken low = record { whole = taken.keeps.whole; numbers = subst HasLowNumbers (sym taken.anchor_is) low }

pub stays_twice : (blocks : ℕ) (old between new : Image) (first last : ℕ) → Stays blocks old between first → Stays blocks between new last → Stays blocks old new last
stays_twice blocks old between new first last h g = record {
  newest = g.newest ∙ h.newest;
  merged = g.merged ∙ h.merged;
  keeps = record { shown = g.keeps.shown ∙ h.keeps.shown; objects = g.keeps.objects ∙ h.keeps.objects; whole = g.keeps.whole };
  age_is = g.age_is;
}
