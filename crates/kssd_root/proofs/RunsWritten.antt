-- What runs in free blocks leave of an index.
use Rattle.std.proofs.Common.{true, ◌≡◌, ◌≢◌, ◌∙◌, ℕ, ◌-◌, ◌/◌, max, List, [], get_or, refl, sym, ap, arith, eq-eqb, inl, inr, false}
use Rattle.std.specs.Prelude.{nat_eq}
use Rattle.std.specs.List.{All, Contains, list_any}
use Rattle.std.proofs.lemmas.Bool.{cases_Bool, false≢true}
use Rattle.std.proofs.lemmas.List.Elements.{All-from_get_or}
use Rattle.std.proofs.lemmas.List.Folds.{list_any_at}
use Rattle.kv_nand.specs.Flash.{Image}
use Rattle.kssd_layout.specs.Numbers.{region_in}
use Rattle.kssd_layout.specs.declared.region.Region.{Region}
use Rattle.kssd_layout.specs.declared.region.Region.TheVariants as regions
use Rattle.kssd_entry.specs.declared.entry.Entry.{Entry}
use Rattle.kssd_model.specs.declared.anchor.Anchor.{Anchor}
use Rattle.kssd_model.specs.Rising.{merged}
use Rattle.kssd_model.specs.RunPages.{run_page, AreRunBlocks}
use Rattle.kssd_model.specs.Groups.{Walk, groups_from}
use Rattle.kssd_image.specs.Stages.{runs_map, without_marks, merged_by, shown_by, log_map, entries_of}
use Rattle.kssd_image.specs.AnchorForm.{blocks_of, anchor_age}
use Rattle.kssd_image.specs.Whole.{log_of, age_by, age_in}
use Rattle.kssd_levels.specs.declared.levels.Levels.{Levels}
use Rattle.kssd_levels.specs.Levels.{levels_map, named_blocks}
use Rattle.kssd_frames.specs.Same.{as_counted, StaysBy}
use Rattle.kssd_frames.proofs.SameImages.{newest_in_alike, index_stays}
use Rattle.kssd_frames.proofs.Places.{run_pages_named, region_of_anchors, region_of_log, region_of_values}
use Rattle.kssd_root.specs.Standing.{IsAnchored, AreRuns, table_of}
use Rattle.kssd_root.specs.Mapping.{SameValues, IsKept}
use Rattle.kssd_root.specs.Following.{KeepsNamed}
use Rattle.kssd_root.proofs.Anchored.{age_is}
use Rattle.kssd_root.proofs.Kept.{kept_by}
use Rattle.kssd_root.proofs.Runs.{in_region}

-- a page outside the blocks for runs stays
pub other_stays : (blocks : ℕ) (named : List ℕ) (old new : Image) (q : ℕ) (region : Region) → KeepsNamed blocks named old new → region_in blocks (q / 32) ≡ region → region ≢ regions.Run → new q ≡ old q
other_stays blocks named old new q region keeps is ne = keeps q (λ run. absurd (ne (sym is ∙ run)))

pub contained : (xs : List ℕ) (x : ℕ) → Contains xs x → list_any (nat_eq x) xs ≡ true
contained xs x h = list_any_at (nat_eq x) xs h.0 x h.1 (eq-eqb x (get_or xs h.0 x) (sym h.2))

pub record IsAfterRun (page : ℕ) (anchor : Anchor) (blocks : ℕ) (old new : Image) : Type 0 where
  pub anchored : IsAnchored page anchor blocks new
  pub stays : StaysBy blocks old new anchor
  pub values : SameValues blocks old new
  pub age_is : age_by new anchor ≡ age_by old anchor

pub after_run : (page : ℕ) (anchor : Anchor) (levels : Levels) (blocks : ℕ) (old new : Image) → IsAnchored page anchor blocks old → AreRuns levels anchor blocks old → KeepsNamed blocks (named_blocks levels) old new → IsAfterRun page anchor blocks old new
after_run page anchor levels blocks old new h runs keeps =
    let named : named_blocks levels ≡ blocks_of anchor.runs = ap blocks_of runs.named in
    let stays = index_stays blocks old new anchor h.index (record {
      ring = λ q low high. ap as_counted (other_stays blocks (named_blocks levels) old new q regions.Log keeps (region_of_log blocks (q / 32) (omega arith) (omega arith)) (λ e. cc));
      runs = λ k d lt i less.
          let at = run_pages_named blocks anchor.runs h.index.form.runs k d lt i less in
          ap as_counted (keeps _ (λ run. ap (list_any (nat_eq (run_page (Rattle.std.specs.Prelude.slice_index_or anchor.runs k d).blocks i / 32))) named ∙ contained (blocks_of anchor.runs) _ at.named));
    }) in
    record {
      anchored = record {
        newest = newest_in_alike old new (λ q lt. ap as_counted (other_stays blocks (named_blocks levels) old new q regions.Anchor keeps (region_of_anchors blocks (q / 32) (omega arith)) (λ e. cc))) ∙ h.newest;
        index = stays.index;
      };
      stays = stays;
      values = λ q le. other_stays blocks (named_blocks levels) old new q regions.Value keeps (region_of_values blocks (q / 32) le) (λ e. cc);
      age_is = ap (λ (w : Walk). max (anchor_age anchor) (w.next - 1)) stays.log;
    }

-- what is merged are the visible entries
pub merged_def : (image : Image) (anchor : Anchor) → shown_by image anchor ≡ without_marks (merged (table_of image anchor) (runs_map image anchor.runs))
unfolding shown_by merged_by
merged_def image anchor = refl

pub shown_of : (anchor : Anchor) (levels : Levels) (blocks : ℕ) (image : Image) (log : List Entry) → AreRuns levels anchor blocks image → log ≡ table_of image anchor → without_marks (merged log (levels_map levels image)) ≡ shown_by image anchor
shown_of anchor levels blocks image log runs is = (λ i. without_marks (merged (is i) (runs_map image (runs.named i)))) ∙ sym (merged_def image anchor)

-- the same pages of a log have the same table
pub table_same : (old new : Image) (anchor : Anchor) → log_of new anchor ≡ log_of old anchor → table_of new anchor ≡ table_of old anchor
unfolding log_map
table_same old new anchor e = ap (λ (w : Walk). merged (entries_of (groups_from [] w.pages)) []) e

pub run_kept : (page : ℕ) (anchor : Anchor) (blocks : ℕ) (old new : Image) → IsAnchored page anchor blocks old → IsAfterRun page anchor blocks old new → IsKept blocks old new
run_kept page anchor blocks old new h after = kept_by page anchor blocks old new h after.anchored after.stays.shown after.values

pub run_aged : (page : ℕ) (anchor : Anchor) (blocks : ℕ) (old new : Image) → IsAfterRun page anchor blocks old new → age_in new ≡ age_by old anchor
run_aged page anchor blocks old new after = age_is page anchor new after.anchored.newest ∙ after.age_is

-- ---- the blocks of a job

pub regions_all : (device : ℕ) (blocks : List ℕ) → AreRunBlocks device blocks → All (λ block. region_in device block ≡ regions.Run) blocks
regions_all device blocks h = All-from_get_or (λ block. region_in device block ≡ regions.Run) blocks 0 h.region

pub keeps_named : (device : ℕ) (blocks named : List ℕ) (old new : Image) → AreRunBlocks device blocks → ((block : ℕ) → list_any (nat_eq block) blocks ≡ true → list_any (nat_eq block) named ≡ false) → ((q : ℕ) → list_any (nat_eq (q / 32)) blocks ≡ false → new q ≡ old q) → KeepsNamed device named old new
keeps_named device blocks named old new are apart beside q is_named = elim (cases_Bool (list_any (nat_eq (q / 32)) blocks)) [
  | inl t ↦ absurd (false≢true (sym (apart (q / 32) t) ∙ is_named (in_region device (q / 32) blocks (regions_all device blocks are) t)))
  | inr f ↦ beside q f
]
