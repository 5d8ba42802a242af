-- The later part of a log, beside a table of its earlier part.
use Rattle.std.proofs.Common.{◌≡◌, ◌∙◌, ℕ, zero, suc, ◌+◌, ◌*◌, ◌/◌, ◌<◌, ◌≤◌, List, refl, sym, ap, subst, arith}
use Rattle.kv_nand.specs.Flash.{Image}
use Rattle.kssd_layout.specs.declared.region.Region.TheVariants as regions
use Rattle.kssd_entry.specs.declared.entry.Entry.{Entry}
use Rattle.kssd_model.specs.declared.anchor.Anchor.{Anchor}
use Rattle.kssd_model.specs.Rising.{merged}
use Rattle.kssd_model.specs.Groups.{Walk, LogPage, LogSeen, Ends, Holds, Broken, seen, stop, with_first, next_place, walk, log_in}
use Rattle.kssd_model.proofs.GroupsWalks.{log_in_same}
use Rattle.kssd_image.specs.Stages.{without_marks, shown_by}
use Rattle.kssd_image.specs.Whole.{log_of, IsLogWhole}
use Rattle.kssd_levels.specs.declared.kind.JobKind.TheVariants.{Flush}
use Rattle.kssd_levels.specs.Levels.{named_blocks, levels_map, infos_of}
use Rattle.kssd_frames.proofs.Lookups.{merge_three}
use Rattle.kssd_frames.proofs.ShownLaws.{runs_rise}
use Rattle.kssd_frames.proofs.SameImages.{log_ends_in_ring}
use Rattle.kssd_frames.proofs.Places.{region_of_log}
use Rattle.kssd_root.specs.declared.root.Root.{Root}
use Rattle.kssd_root.specs.Standing.{IsRoot, table_of}
use Rattle.kssd_root.specs.Following.{KeepsNamed, MayBegin, IsSplit}
use Rattle.kssd_root.proofs.RunsWritten.{other_stays, shown_of, table_same}
use Rattle.kssd_root.proofs.Moving.{IsNameable, shown_over}

-- ---- the pages of the ring stay

pub ring_stays : (blocks : ℕ) (named : List ℕ) (old new : Image) → KeepsNamed blocks named old new → (q : ℕ) → 64 ≤ q → q < 640 → new q ≡ old q
ring_stays blocks named old new keeps q low high = other_stays blocks named old new q regions.Log keeps (region_of_log blocks (q / 32) (omega arith) (omega arith)) (λ e. cc)

pub later_log : (later : Anchor) (old new : Image) → 2 ≤ later.log_block → later.log_block ≤ 19 → ((q : ℕ) → 64 ≤ q → q < 640 → new q ≡ old q) → log_of new later ≡ log_of old later
later_log later old new low high same = log_in_same old new (32 * later.log_block) later.log_seq same (omega arith) (omega arith)

pub later_whole : (later : Anchor) (old new : Image) → 2 ≤ later.log_block → later.log_block ≤ 19 → ((q : ℕ) → 64 ≤ q → q < 640 → new q ≡ old q) → IsLogWhole old (log_of old later) → IsLogWhole new (log_of new later)
later_whole later old new low high same h =
    let log = log_of old later in
    let ends = log_ends_in_ring old (32 * later.log_block) later.log_seq (omega arith) (omega arith) in
    subst (IsLogWhole new) (sym (later_log later old new low high same)) (record {
      allowed = h.allowed;
      ends = ap (seen log.end log.next) (same log.end ends.0 ends.1) ∙ h.ends;
    })

-- ---- numbers

walks_on : (most : ℕ) (image : Image) (page number : ℕ) → number ≤ (walk most image page number).next
unfolding walk
walks_on zero image page number = omega arith
walks_on (suc most) image page number = by (seen page number (image page)) (λ x. walks_on most image (next_place page x) (number + 1))
  where
    by : (s : LogSeen) → ((x : LogPage) → number + 1 ≤ (walk most image (next_place page x) (number + 1)).next)
        → number ≤ (elim s as (λ _. Walk) [ Ends ↦ stop page number | Broken ↦ stop page number | Holds x ↦ with_first x (walk most image (next_place page x) (number + 1)) ]).next
    by Ends rest = omega arith
    by Broken rest = omega arith
    by (Holds x) rest = omega (arith, rest x)

-- a log ends behind the number that it begins with
pub begins_before : (image : Image) (page number : ℕ) → number ≤ (log_in image page number).next
unfolding log_in
begins_before image page number = walks_on _ image page number

-- ---- what is visible

pub split_shown : (table : List Entry) (later : Anchor) (root : Root) (blocks : ℕ) (image : Image) → IsRoot root blocks image → IsSplit table later root blocks image
    → without_marks (merged (table_of image later) (merged table (levels_map root.levels image))) ≡ shown_by image root.anchor
split_shown table later root blocks image h split =
    let levels = levels_map root.levels image in
    ap without_marks (sym (merge_three (table_of image later) table levels split.rising (runs_rise image (infos_of root.levels))) ∙ ap (λ (es : List Entry). merged es levels) (sym split.all))
    ∙ shown_of root.anchor root.levels blocks image (table_of image root.anchor) h.runs refl

-- ---- the later part is named

pub later_begins : (table : List Entry) (later : Anchor) (root : Root) (blocks : ℕ) (old : Image) (run : Root) (now : Image) → IsRoot root blocks old → IsSplit table later root blocks old → KeepsNamed blocks (named_blocks root.levels) old now
    → IsNameable Flush table root blocks old run now → MayBegin later.log_block later.log_seq run.levels run.anchor now
later_begins table later root blocks old run now h split keeps n =
    let same = ring_stays blocks (named_blocks root.levels) old now keeps in
    let log = later_log later old now split.low split.high same in
    let next : (log_of now later).next ≡ (log_of old root.anchor).next = ap (λ (w : Walk). w.next) log ∙ split.next in
    record {
      low = split.low;
      high = split.high;
      number = omega (arith, begins_before old (32 * later.log_block) later.log_seq, split.next, n.age_is);
      next = omega (arith, next, n.age_is);
      whole = later_whole later old now split.low split.high same split.whole;
      shown = ap (λ (es : List Entry). without_marks (merged es (levels_map run.levels now))) (table_same old now later log)
          ∙ shown_over Flush table (table_of old later) root blocks old run now n (split_shown table later root blocks old h split);
    }
