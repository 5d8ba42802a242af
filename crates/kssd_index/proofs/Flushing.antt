-- The older table is written as a run.
use Rattle.std.proofs.Common.{false, ◌≡◌, ◌∙◌, ℕ, ◌+◌, ◌*◌, ◌<◌, ◌≤◌, ◌^◌, List, [], length, Option, None, Some, is_some, refl, sym, ap, subst, arith}
use Rattle.kv_nand.specs.Flash.{Image, Flash, IsSound}
use Rattle.kv_nand.specs.declared.fault.FlashFault.{FlashFault}
use Rattle.kv_nand.specs.Working.{Works, Stops}
use Rattle.kssd_entry.specs.declared.entry.Entry.{Entry}
use Rattle.kssd_model.specs.declared.anchor.Anchor.{Anchor}
use Rattle.kssd_model.specs.Rising.{merged}
use Rattle.kssd_model.specs.Groups.{Walk, log_in, groups_from}
use Rattle.kssd_image.specs.Stages.{entries_of, log_map}
use Rattle.kssd_image.specs.Whole.{log_of, age_by}
use Rattle.kssd_levels.specs.declared.kind.JobKind.TheVariants.{Flush, Zero, One}
use Rattle.kssd_levels.specs.Levels.{levels_map}
use Rattle.kssd_root.specs.declared.root.Root.{Root}
use Rattle.kssd_root.specs.Standing.{IsRoot, table_of}
use Rattle.kssd_root.specs.Following.{with_log, IsSplit, ShowAlike, SameLog}
use Rattle.kssd_root.proofs.Moving.{log_same, table_still}
use Rattle.kssd_root.proofs.RunsWritten.{table_same}
use Rattle.kssd_root.specs.Costs.{merge_cost}
use Rattle.kssd_root.proofs.Steps.{works_on, stops_on}
use Rattle.kssd_root.proofs.Splitting.{later_log, later_whole}
use Rattle.kssd_index.specs.declared.index.Older.{Older}
use Rattle.kssd_index.specs.declared.index.Index.{Index}
use Rattle.kssd_index.specs.Standing.{IsIndex}
use Rattle.kssd_index.specs.Costs.{flush_cost}
use Rattle.kssd_index.proofs.Later.{within_of, at_same, ring_page, unsplit}

pub same_index : (index : Index) (older : Option Older) → index.older ≡ older → index ≡ record index { older = older }
same_index index older e = λ i. record index { older = e i }

-- merges keep the split
pub split_after : (table : List Entry) (block seq : ℕ) (root next : Root) (blocks : ℕ) (old mid : Image) → IsRoot root blocks old → IsSplit table (with_log root.anchor block seq) root blocks old → SameLog root.anchor old next.anchor mid
    → ShowAlike (levels_map root.levels old) (levels_map next.levels mid) → IsSplit table (with_log next.anchor block seq) next blocks mid
split_after table block seq root next blocks old mid h split log alike =
    let before = with_log root.anchor block seq in
    let same = later_log before old mid split.low split.high log.ring in
    record {
      low = split.low;
      high = split.high;
      next = ap (λ (w : Walk). w.next) same ∙ split.next ∙ sym (ap (λ (w : Walk). w.next) (log_same root.page root.anchor next.anchor blocks old mid h.anchored log));
      whole = later_whole before old mid split.low split.high log.ring split.whole;
      all = table_still root.page root.anchor next.anchor blocks old mid h.anchored log ∙ split.all ∙ ap (λ (es : List Entry). merged es table) (sym (table_same old mid before same));
      rising = split.rising;
      keys = omega (arith, ap (λ (es : List Entry). length es) (alike table), split.keys);
    }

pub table_alike : (a b : Anchor) (old new : Image) → log_of new b ≡ log_of old a → table_of new b ≡ table_of old a
unfolding log_map
table_alike a b old new e = ap (λ (w : Walk). merged (entries_of (groups_from [] w.pages)) []) e

-- the later part is the whole log of the new anchor
pub flushed : (index : Index) (older : Older) (first : Anchor) (root : Root) (age blocks : ℕ) (old mid new : Image) → IsIndex (record index { older = Some older }) blocks old
    → SameLog index.root.anchor old first mid → SameLog (with_log first older.log_block older.log_seq) mid root.anchor new → IsRoot root blocks new → age_by new root.anchor ≤ age
    → IsIndex (record { root = root; table = index.table; older = None; ring = index.ring; age = age; job = None }) blocks new
flushed index older first root age blocks old mid new h merges names root_is aged =
    let later = with_log index.root.anchor older.log_block older.log_seq in
    let ring : (q : ℕ) → 64 ≤ q → q < 640 → new q ≡ old q = λ q low high. names.ring q low high ∙ merges.ring q low high in
    let same : log_of new root.anchor ≡ log_of old later = (λ i. log_in new (32 * names.block i) (names.seq i)) ∙ later_log later old new h.split.low h.split.high ring in
    let place = ring_page (record index { older = Some older }) blocks old h in
    let log = at_same index.ring later root.anchor old new same place.low place.high ring h.log in
    record {
      root = root_is;
      split = unsplit root blocks new root_is;
      log = log;
      long = within_of index.ring root.anchor new log;
      left = h.left;
      table = h.table ∙ sym (table_alike later root.anchor old new same);
      few = h.few;
      older_few = omega arith;
      numbers = aged;
      job = tt;
    }

-- merges that were done, and a flush that stops
pub flush_stops : (o : Option Older) (older : Older) (a b c : Flash) (fault : FlashFault) → o ≡ Some older → IsSound c → Works a b (merge_cost One a.blocks + merge_cost Zero a.blocks) (2 ^ 64) → Stops b fault c (merge_cost Flush b.blocks) (2 ^ 64) → Stops a fault c (flush_cost o a.blocks) (2 ^ 64)
flush_stops o older a b c fault is sound works stops =
    subst (λ (x : Option Older). Stops a fault c (flush_cost x a.blocks) (2 ^ 64)) (sym is)
    (stops_on a b c fault (merge_cost One a.blocks + merge_cost Zero a.blocks) (merge_cost Flush b.blocks) (flush_cost (Some older) a.blocks) (2 ^ 64) (2 ^ 64) sound (omega arith) works stops)

-- merges that were done, and a flush behind them
pub flush_works : (o : Option Older) (older : Older) (a b c : Flash) → o ≡ Some older → IsSound c → Works a b (merge_cost One a.blocks + merge_cost Zero a.blocks) (2 ^ 64) → Works b c (merge_cost Flush b.blocks) (2 ^ 64) → Works a c (flush_cost o a.blocks) (2 ^ 64)
flush_works o older a b c is sound works more =
    subst (λ (x : Option Older). Works a c (flush_cost x a.blocks) (2 ^ 64)) (sym is)
    (works_on a b c (merge_cost One a.blocks + merge_cost Zero a.blocks) (merge_cost Flush b.blocks) (flush_cost (Some older) a.blocks) (2 ^ 64) (2 ^ 64) sound (omega arith) works more)

-- without an older table none is written
pub none_cost : (o : Option Older) (blocks : ℕ) → is_some o ≡ false → flush_cost o blocks ≡ 0
none_cost None blocks none = refl
none_cost (Some older) blocks none = absurd cc
