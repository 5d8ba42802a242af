-- What stays of an index where pages of values alone differ.
use Rattle.std.proofs.Common.{◌≡◌, ◌∙◌, ℕ, ◌-◌, ◌/◌, ◌<◌, ◌≤◌, max, List, Option, length, sym, ap, subst, arith, inl, inr}
use Rattle.std.proofs.lemmas.Bool.{cases_lt}
use Rattle.kv_nand.specs.Flash.{Image}
use Rattle.kssd_layout.specs.Numbers.{region_in, first_value_block_in}
use Rattle.kssd_layout.specs.declared.region.Region.TheVariants as regions
use Rattle.kssd_entry.specs.declared.entry.Entry.{Entry}
use Rattle.kssd_model.specs.declared.anchor.Anchor.{Anchor}
use Rattle.kssd_model.specs.Rising.{merged}
use Rattle.kssd_model.specs.Groups.{Walk}
use Rattle.kssd_image.specs.Stages.{runs_map, without_marks}
use Rattle.kssd_image.specs.Whole.{log_of}
use Rattle.kssd_levels.specs.Levels.{levels_map}
use Rattle.std.specs.List.{All}
use Rattle.kssd_image.specs.AnchorForm.{IsAnchorForm, anchor_age, blocks_of as runs_blocks}
use Rattle.kssd_frames.specs.Same.{as_counted, StaysBy}
use Rattle.kssd_frames.proofs.Places.{region_of_values, run_pages_named}
use Rattle.kssd_frames.proofs.SameImages.{IsSameRun, newest_in_alike, runs_alike, index_stays}
use Rattle.kssd_log.specs.Ring.{IsRingPage}
use Rattle.kssd_merge.specs.Same.{AreSameIn}
use Rattle.kssd_compact.specs.declared.job.Job.{Job}
use Rattle.kssd_index.specs.declared.index.Index.{Index}
use Rattle.kssd_index.specs.Standing.{IsIndex, StandsOver, later_of, older_entries}
use Rattle.kssd_root.specs.Mapping.{IsKept, IsBeforeOrAfter}
use Rattle.kssd_root.proofs.Anchored.{kept_still, before_still}
use Rattle.kssd_root.proofs.Splitting.{later_log, later_whole}
use Rattle.kssd_index.proofs.Later.{at_same, within_same, ring_page}
use Rattle.kssd_root.proofs.Runs.{named_is_run, runs_stand}
use Rattle.kssd_root.proofs.RunsWritten.{table_same, contained}
use Rattle.kssd_index.proofs.UnderWay.{over_beside}

run_is_before : (blocks block : ℕ) → region_in blocks block ≡ regions.Run → block < first_value_block_in blocks
run_is_before blocks block is = elim (cases_lt block (first_value_block_in blocks)) [
  | inl low ↦ low
  | inr high ↦ absurd (let e : regions.Run ≡ regions.Value = sym is ∙ region_of_values blocks block (omega arith) in cc)
]

-- an index stands, with a job that does, wherever the pages of anchors and of the log are as they are, and those of its runs
pub index_by : (index : Index) (job : Option Job) (blocks : ℕ) (old new : Image) → ((q : ℕ) → q < 640 → new q ≡ old q) → AreSameIn (runs_blocks index.root.anchor.runs) old new → StandsOver job index.older index.root blocks new → IsIndex index blocks old → IsIndex (record index { job = job }) blocks new
index_by index job blocks old new low named over h = record {
  root = record {
    device = h.root.device;
    anchored = record { newest = newest_in_alike old new (λ q lt. ap as_counted (low q (omega arith))) ∙ h.root.anchored.newest; index = same.index };
    runs = runs_stand index.root.levels index.root.anchor blocks old new named h.root.runs;
  };
  split = record {
    low = h.split.low;
    high = h.split.high;
    next = ap (λ (w : Walk). w.next) later_same ∙ h.split.next ∙ sym (ap (λ (w : Walk). w.next) same.log);
    whole = later_whole later old new h.split.low h.split.high ring h.split.whole;
    all = table_same old new index.root.anchor same.log ∙ h.split.all ∙ ap (λ (es : List Entry). merged es (older_entries index.older)) (sym (table_same old new later later_same));
    rising = h.split.rising;
    keys = omega (arith, ap (λ (es : List Entry). length (without_marks (merged (older_entries index.older) es))) levels, h.split.keys);
  };
  log = at_same index.ring later later old new later_same place.low place.high ring h.log;
  long = within_same index.ring index.root.anchor index.root.anchor old new same.log h.long;
  left = h.left;
  table = h.table ∙ sym (table_same old new later later_same);
  few = h.few;
  older_few = h.older_few;
  numbers = subst (λ (w : Walk). max (anchor_age index.root.anchor) (w.next - 1) ≤ index.age) (sym same.log) h.numbers;
  job = over;
}
  where
    form : IsAnchorForm blocks index.root.anchor
    form = h.root.anchored.index.form

    later : Anchor
    later = later_of index

    place : IsRingPage index.ring.page
    place = ring_page index blocks old h

    ring : (q : ℕ) → 64 ≤ q → q < 640 → new q ≡ old q
    ring q from to = low q to

    later_same : log_of new later ≡ log_of old later
    later_same = later_log later old new h.split.low h.split.high ring

    runs : All (IsSameRun old new) index.root.anchor.runs
    runs k d lt i less = ap as_counted (named _ (contained (runs_blocks index.root.anchor.runs) _ (run_pages_named blocks index.root.anchor.runs form.runs k d lt i less).named))

    same : StaysBy blocks old new index.root.anchor
    same = index_stays blocks old new index.root.anchor h.root.anchored.index (record { ring = λ q from to. ap as_counted (low q to); runs = runs })

    levels : levels_map index.root.levels new ≡ levels_map index.root.levels old
    levels = ap (runs_map new) h.root.runs.named ∙ runs_alike old new index.root.anchor.runs runs ∙ ap (runs_map old) (sym h.root.runs.named)

-- an index stands wherever the pages before the blocks of values are as they are
pub index_beside : (index : Index) (blocks : ℕ) (old new : Image) → ((q : ℕ) → q / 32 < first_value_block_in blocks → new q ≡ old q) → IsIndex index blocks old → IsIndex index blocks new
index_beside index blocks old new before h =
    index_by index index.job blocks old new (λ q lt. before q (omega arith)) (λ q named. behind q (named_is_run blocks (q / 32) index.root.anchor.runs h.root.anchored.index.form.runs named)) (over_beside index.job index.older index.root blocks old new behind h.root h.job) h
  where
    behind : (q : ℕ) → region_in blocks (q / 32) ≡ regions.Run → new q ≡ old q
    behind q run = before q (run_is_before blocks (q / 32) run)

-- nothing was done
pub index_kept_still : (index : Index) (blocks : ℕ) (image : Image) → IsIndex index blocks image → IsKept blocks image image
index_kept_still index blocks image h = kept_still index.root.page index.root.anchor blocks image h.root.anchored

pub index_before_still : (index : Index) (blocks : ℕ) (image : Image) (entries : List Entry) → IsIndex index blocks image → IsBeforeOrAfter blocks image entries image
index_before_still index blocks image entries h = before_still index.root.page index.root.anchor blocks image entries h.root.anchored
