-- What stays of an index where only the blocks of values change.
use Rattle.std.proofs.Common.{◌≡◌, ◌∙◌, ℕ, true, false, ◌-◌, ◌/◌, ◌<◌, ◌≤◌, max, length, get_or, Option, Some, None, sym, ap, subst, refl, arith, inl, inr}
use Rattle.std.specs.Prelude.{is_some}
use Rattle.std.specs.List.{All}
use Rattle.std.proofs.lemmas.Bool.{cases_lt}
use Rattle.kv_nand.specs.Flash.{Flash, Image}
use Rattle.kssd_layout.specs.Numbers.{region_in, first_value_block_in}
use Rattle.kssd_layout.specs.declared.region.Region.TheVariants.{Run, Value}
use Rattle.kssd_model.specs.declared.anchor.Anchor as model
use Rattle.kssd_model.specs.declared.anchor.Found.{Found}
use Rattle.kssd_model.specs.Anchors.{newest_in}
use Rattle.kssd_model.specs.Groups.{Walk}
use Rattle.kssd_model.proofs.NewestLaws.{newest_same}
use Rattle.kssd_image.specs.AnchorForm.{IsAnchorForm, anchor_age}
use Rattle.kssd_image.specs.Stages.{the_anchor, anchor_of, shown_by, shown_in}
use Rattle.kssd_image.specs.Whole.{IsIndexOf, IsWhole, pages_named, age_in, age_by, age_of}
use Rattle.kssd_frames.specs.Same.{as_counted, StaysBy}
use Rattle.kssd_frames.proofs.Places.{region_of_values, run_page_place}
use Rattle.kssd_frames.proofs.SameImages.{IsSameRun, index_stays}
use Rattle.kssd_index.specs.declared.index.Index.{Index}
use Rattle.kssd_index.specs.Standing.{IsIndex}
use Rattle.kssd_root.specs.Mapping.{HasIndex}
use Rattle.kssd_index.proofs.Beside.{index_beside}
use Rattle.kssd_values.specs.Blocks.{device_of}
use Rattle.kssd_values.specs.Pages.{Fills}
use Rattle.kssd_machine.specs.Names.{are_rising, are_valued}
use Rattle.kssd_machine.specs.Marked.{AreMarked, HasBlock}
use Rattle.kssd_mounted.specs.declared.mounted.Mounted.{Mounted}
use Rattle.kssd_mounted.specs.Standing.{Stands}
use Rattle.kssd_mounted.specs.Collections.{CollectsIn, BearsCollection}
use Rattle.kssd_mounted.specs.Beside.{OnlyValues}
use Rattle.kssd_mounted.proofs.Bearing.{collection_stays}

-- ---- pages that stay

low_same : (blocks : ℕ) (old new : Image) (page : ℕ) → OnlyValues blocks old new → page / 32 < first_value_block_in blocks → new page ≡ old page
low_same blocks old new page only low = only page (λ value. absurd (omega (arith, value.first)))

ring_same : (blocks : ℕ) (old new : Image) (page : ℕ) → OnlyValues blocks old new → page < 640 → new page ≡ old page
ring_same blocks old new page only low = low_same blocks old new page only (omega arith)

run_is_before : (blocks block : ℕ) → region_in blocks block ≡ Run → block < first_value_block_in blocks
run_is_before blocks block is = elim (cases_lt block (first_value_block_in blocks)) [
  | inl low ↦ low
  | inr high ↦ absurd (let e : Run ≡ Value = sym is ∙ region_of_values blocks block (omega arith) in cc)
]

runs_same : (blocks : ℕ) (old new : Image) (anchor : model.Anchor) → OnlyValues blocks old new → IsAnchorForm blocks anchor → All (IsSameRun old new) anchor.runs
runs_same blocks old new anchor only form = λ k d lt i within.
    let place = run_page_place blocks (get_or anchor.runs k d) i (form.runs k d lt) within in
    ap as_counted (low_same blocks old new _ only (run_is_before blocks _ place.1))

-- ---- the newest anchor and its index

pub newest_stays : (blocks : ℕ) (old new : Image) → OnlyValues blocks old new → newest_in new ≡ newest_in old
newest_stays blocks old new only = newest_same old new 64 (λ page lt. ring_same blocks old new page only (omega arith))

same_index : (blocks : ℕ) (old new : Image) (anchor : model.Anchor) → OnlyValues blocks old new → IsIndexOf blocks old anchor → StaysBy blocks old new anchor
same_index blocks old new anchor only index =
    index_stays blocks old new anchor index (record { ring = λ page low high. ap as_counted (ring_same blocks old new page only high); runs = runs_same blocks old new anchor only index.form })

pub index_of_stays : (blocks : ℕ) (old new : Image) (anchor : model.Anchor) → OnlyValues blocks old new → IsIndexOf blocks old anchor → IsIndexOf blocks new anchor
index_of_stays blocks old new anchor only index = (same_index blocks old new anchor only index).index

anchor_stays : (blocks : ℕ) (old new : Image) → OnlyValues blocks old new → the_anchor new ≡ the_anchor old
unfolding the_anchor
anchor_stays blocks old new only = ap anchor_of (newest_stays blocks old new only)

pub has_index_stays : (blocks : ℕ) (old new : Image) → OnlyValues blocks old new → HasIndex blocks old → HasIndex blocks new
has_index_stays blocks old new only has = record {
  found = ap is_some (newest_stays blocks old new only) ∙ has.found;
  index = subst (IsIndexOf blocks new) (sym (anchor_stays blocks old new only)) (index_of_stays blocks old new (the_anchor old) only has.index);
}

pub shown_stays : (blocks : ℕ) (old new : Image) → OnlyValues blocks old new → HasIndex blocks old → shown_in new ≡ shown_in old
unfolding shown_in
shown_stays blocks old new only has = ap (shown_by new) (anchor_stays blocks old new only) ∙ (same_index blocks old new (the_anchor old) only has.index).shown

age_by_stays : (blocks : ℕ) (old new : Image) (anchor : model.Anchor) → OnlyValues blocks old new → IsIndexOf blocks old anchor → age_by new anchor ≡ age_by old anchor
age_by_stays blocks old new anchor only index = ap (λ (w : Walk). max (anchor_age anchor) (w.next - 1)) (same_index blocks old new anchor only index).log

age_of_same : (blocks : ℕ) (old new : Image) (o : Option Found) → ((f : Found) → o ≡ Some f → age_by new f.anchor ≡ age_by old f.anchor) → age_of new o ≡ age_of old o
age_of_same blocks old new None same = refl
age_of_same blocks old new (Some f) same = same f refl

pub age_stays : (blocks : ℕ) (old new : Image) → OnlyValues blocks old new → HasIndex blocks old → age_in new ≡ age_in old
unfolding age_in the_anchor
age_stays blocks old new only has =
    ap (age_of new) (newest_stays blocks old new only) ∙ age_of_same blocks old new (newest_in old) (λ f is. age_by_stays blocks old new f.anchor only (subst (λ o. IsIndexOf blocks old (anchor_of o)) is has.index))

-- ---- an index in memory

pub index_stands : (index : Index) (blocks : ℕ) (old new : Image) → OnlyValues blocks old new → IsIndex index blocks old → IsIndex index blocks new
index_stands index blocks old new only stands =
    index_beside index blocks old new (λ page low. low_same blocks old new page only low) stands

-- ---- the device

pub has_index : (m : Mounted) (flash : Flash) → Stands m flash → HasIndex flash.blocks flash.image
has_index m flash stands = record { found = stands.whole.found; index = stands.whole.index }

-- a device whose index is as before stands again beside other values, marks and changes, over a flash that has changed in blocks of values only
pub stands_beside : (old new : Mounted) (before after : Flash) → Stands old before → OnlyValues before.blocks before.image after.image → after.powered ≡ true → after.blocks ≡ before.blocks → IsWhole after.blocks after.image
    → new.index ≡ old.index → new.keys ≡ old.keys → new.pages ≡ old.pages → device_of new.values ≡ device_of old.values → Fills new.values after.image → new.collection ≡ old.collection → BearsCollection old.values new.values before.image after.image → HasBlock new.values
    → length new.changes ≡ 4 → are_rising new.changes ≡ true → are_valued after.blocks after.image new.changes ≡ true → AreMarked new.values (shown_in before.image) new.changes → Stands new after
stands_beside old new before after stands only powered blocks whole index keys pages device fills under_way bears block four rising valued marked =
    let shown = shown_stays before.blocks before.image after.image only (has_index old before stands) in
    record {
      powered = powered;
      least = subst (λ n. 256 ≤ n) (sym blocks) stands.least;
      most = subst (λ n. n ≤ 2048) (sym blocks) stands.most;
      whole = whole;
      index = subst (λ n. IsIndex new.index n after.image) (sym blocks) (subst (λ i. IsIndex i before.blocks after.image) (sym index) (index_stands old.index before.blocks before.image after.image only stands.index));
      device = device ∙ stands.device ∙ sym blocks;
      fills = fills;
      collecting = subst (λ c. CollectsIn c new.values after.image) (sym under_way) (collection_stays old.collection old.values new.values before.image after.image stands.collecting bears);
      four = four;
      rising = rising;
      valued = valued;
      marked = subst (λ es. AreMarked new.values es new.changes) (sym shown) marked;
      block = block;
      keys = keys ∙ stands.keys ∙ ap length (sym shown);
      pages = pages ∙ stands.pages ∙ ap (λ es. length (pages_named es)) (sym shown);
    }
