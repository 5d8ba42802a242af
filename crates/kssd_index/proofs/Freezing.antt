-- The table is frozen, and a new log begins beside the long one.
use Rattle.std.proofs.Common.{◌≡◌, ◌∙◌, ℕ, ◌+◌, ◌*◌, ◌/◌, ◌<◌, ◌≤◌, ◌^◌, List, [], length, None, Some, sym, ap, subst, arith}
use Rattle.kv_nand.specs.Flash.{Image, MayProgram}
use Rattle.kssd_entry.specs.declared.entry.Entry.{Entry}
use Rattle.kssd_model.specs.Rising.{merged}
use Rattle.kssd_model.specs.Groups.{HasLog, turn_count, next_block}
use Rattle.kssd_model.specs.GroupsLaws.{HasBytes}
use Rattle.kssd_image.specs.Stages.{without_marks}
use Rattle.kssd_image.specs.Whole.{log_of}
use Rattle.kssd_log.specs.declared.place.Place.{Place}
use Rattle.kssd_log.specs.Ring.{begun}
use Rattle.kssd_log.specs.Append.{HasGroups, Carries, KeepsGroups, StaysOutside}
use Rattle.kssd_frames.specs.Logging.{groups_by}
use Rattle.kssd_root.specs.Standing.{table_of}
use Rattle.kssd_root.specs.Following.{with_log}
use Rattle.kssd_root.proofs.Anchored.{age_is}
use Rattle.kssd_root.proofs.Kept.{kept_by}
use Rattle.kssd_root.proofs.Logs.{IsLogNow, log_now, table_is, same_table, KeepsBy, ring_keeps, ring_values}
use Rattle.kssd_root.proofs.Moving.{table_keys}
use Rattle.kssd_root.proofs.Naming.{IsKeptAt}
use Rattle.kssd_root.proofs.Runs.{runs_stand, pages_outside}
use Rattle.kssd_index.specs.declared.index.Older.{Older}
use Rattle.kssd_index.specs.declared.index.Index.{Index}
use Rattle.kssd_index.specs.Standing.{IsIndex}
use Rattle.kssd_index.proofs.Later.{log_here, within_log, at_log, keys_with, table_rising, anchor_page, levels_outside}
use Rattle.kssd_index.proofs.UnderWay.{over_beside, over_frozen, ring_beside}

-- ---- before the turn

-- an index without an older table
pub record IsWhole (index : Index) (blocks : ℕ) (image : Image) : Type 0 where
  pub stands : IsIndex (record index { older = None }) blocks image
  pub has : HasBytes image
  pub low : index.age + 2 ^ 19 ≤ 2 ^ 63

log_before : (index : Index) (blocks : ℕ) (image : Image) → IsWhole index blocks image
    → HasLog image (32 * index.root.anchor.log_block) index.root.anchor.log_seq (groups_by image index.root.anchor) [] (turn_count (log_of image index.root.anchor).pages) index.ring.page index.ring.seq
log_before index blocks image h = log_here index.ring index.root.anchor image h.has h.stands.long h.stands.root.anchored.index.log

few_keys : (index : Index) (blocks : ℕ) (image : Image) → IsWhole index blocks image → length (merged [] (table_of image index.root.anchor)) ≤ 2048
few_keys index blocks image h = omega (arith, ap (λ (es : List Entry). length es) h.stands.table, h.stands.few)

-- ---- the groups are as before

keeps : (index : Index) (blocks : ℕ) (old new : Image) (turns end next : ℕ) → IsWhole index blocks old → StaysOutside old new
    → HasLog new (32 * index.root.anchor.log_block) index.root.anchor.log_seq (groups_by old index.root.anchor) [] turns end next → turns ≤ 8 → next ≤ index.ring.seq + 1
    → KeepsBy index.root.page index.root.anchor blocks old new next
keeps index blocks old new turns end next h outside log few last =
    let anchor = index.root.anchor in
    ring_keeps index.root.page anchor blocks old new [] next h.stands.root.anchored outside
    (log_now anchor new (groups_by old anchor) [] turns end next log (omega (arith, few)) (omega (arith, last, h.stands.long.number, h.stands.numbers, h.low))
    (keys_with (groups_by old anchor) (table_of old anchor) [] 2048 (same_table old anchor) (few_keys index blocks old h)))

kept : (index : Index) (blocks : ℕ) (old new : Image) (next : ℕ) → IsWhole index blocks old → StaysOutside old new → next ≤ index.ring.seq + 1 → KeepsBy index.root.page index.root.anchor blocks old new next → IsKeptAt blocks old new (index.age + 1)
kept index blocks old new next h outside last k = record {
  kept = kept_by index.root.page index.root.anchor blocks old new h.stands.root.anchored k.anchored k.shown (ring_values blocks old new outside);
  aged = omega (arith, age_is index.root.page index.root.anchor new k.anchored.newest, k.age_is, last, h.stands.long.number, h.stands.numbers);
}

-- a turn that fails
pub turn_failed : (index : Index) (blocks : ℕ) (old new : Image) → IsWhole index blocks old → ((rest : List Entry) → KeepsGroups 1 0 old index.ring rest new) → StaysOutside old new → IsKeptAt blocks old new (index.age + 1)
turn_failed index blocks old new h keeps_groups outside =
    let anchor = index.root.anchor in
    let few : turn_count (log_of old anchor).pages ≤ 7 = omega (arith, h.stands.log.blocks, h.stands.left) in
    let g : HasGroups new (32 * anchor.log_block) anchor.log_seq (groups_by old anchor) [] (turn_count (log_of old anchor).pages + 1) (index.ring.seq + 0 + 1) =
    keeps_groups [] (32 * anchor.log_block) anchor.log_seq (turn_count (log_of old anchor).pages) (groups_by old anchor) (anchor_page (record index { older = None }) blocks old h.stands) (omega (arith, few)) (log_before index blocks old h) in
    let last : g.next ≤ index.ring.seq + 1 = omega (arith, g.next_fits) in
    kept index blocks old new g.next h outside last (keeps index blocks old new g.turns g.end g.next h outside g.log (omega (arith, g.few_turns, few)) last)

-- ---- behind the turn

pub record IsTurned (index : Index) (after : Place) (blocks : ℕ) (old new : Image) : Type 0 where
  pub before : IsWhole index blocks old
  pub at : after ≡ begun (next_block (index.ring.page / 32)) (index.ring.seq + 1)
  pub free : MayProgram new after.page
  pub empty : HasLog new after.page after.seq [] [] 0 after.page after.seq
  pub carries : (rest : List Entry) → Carries 1 old index.ring rest new after rest
  pub outside : StaysOutside old new

turns_few : (index : Index) (blocks : ℕ) (image : Image) → IsWhole index blocks image → turn_count (log_of image index.root.anchor).pages ≤ 7
turns_few index blocks image h = omega (arith, h.stands.log.blocks, h.stands.left)

log_behind : (index : Index) (after : Place) (blocks : ℕ) (old new : Image) → IsTurned index after blocks old new
    → HasLog new (32 * index.root.anchor.log_block) index.root.anchor.log_seq (groups_by old index.root.anchor) [] (turn_count (log_of old index.root.anchor).pages + 1) after.page after.seq
log_behind index after blocks old new t =
    let anchor = index.root.anchor in
    t.carries [] (32 * anchor.log_block) anchor.log_seq (turn_count (log_of old anchor).pages) (groups_by old anchor) (anchor_page (record index { older = None }) blocks old t.before.stands) (omega (arith, turns_few index blocks old t.before)) (log_before index blocks old t.before)

last_behind : (index : Index) (after : Place) (blocks : ℕ) (old new : Image) → IsTurned index after blocks old new → after.seq ≤ index.ring.seq + 1
last_behind index after blocks old new t = omega (arith, ap (λ (p : Place). p.seq) t.at)

keeps_behind : (index : Index) (after : Place) (blocks : ℕ) (old new : Image) → IsTurned index after blocks old new → KeepsBy index.root.page index.root.anchor blocks old new after.seq
keeps_behind index after blocks old new t =
    keeps index blocks old new _ after.page after.seq t.before t.outside (log_behind index after blocks old new t) (omega (arith, turns_few index blocks old t.before)) (last_behind index after blocks old new t)

pub turned_kept : (index : Index) (after : Place) (blocks : ℕ) (old new : Image) → IsTurned index after blocks old new → IsKeptAt blocks old new (index.age + 1)
turned_kept index after blocks old new t = kept index blocks old new after.seq t.before t.outside (last_behind index after blocks old new t) (keeps_behind index after blocks old new t)

-- what is frozen
pub record IsFrozen (index : Index) (older : Older) (after : Place) : Type 0 where
  pub table : older.table ≡ index.table
  pub block : older.log_block ≡ after.page / 32
  pub seq : older.log_seq ≡ after.seq
  pub low : 2 ≤ older.log_block
  pub high : older.log_block ≤ 19

-- the new log has nothing
later_behind : (index : Index) (older : Older) (after : Place) (blocks : ℕ) (old new : Image) → IsTurned index after blocks old new → IsFrozen index older after → HasLog new (32 * older.log_block) older.log_seq [] [] 0 after.page after.seq
later_behind index older after blocks old new t f =
    let page : after.page ≡ 32 * older.log_block = omega (arith, f.block, ap (λ (p : Place). p.page) t.at) in
    subst (λ (p : ℕ × ℕ). HasLog new p.0 p.1 [] [] 0 after.page after.seq) (λ i. (page i, sym f.seq i)) t.empty

pub stands_frozen : (index : Index) (older : Older) (table : List Entry) (after : Place) (age blocks : ℕ) (old new : Image) → IsTurned index after blocks old new → IsFrozen index older after → table ≡ [] → age ≡ index.age + 1
    → IsIndex (record { root = index.root; table = table; older = Some older; ring = after; age = age; job = index.job }) blocks new
stands_frozen index older table after age blocks old new t f none aged =
    let h = t.before.stands in
    let anchor = index.root.anchor in
    let later = with_log anchor older.log_block older.log_seq in
    let k = keeps_behind index after blocks old new t in
    let last = last_behind index after blocks old new t in
    let eight : after.blocks ≡ 8 = ap (λ (p : Place). p.blocks) t.at in
    let fits : after.seq < 2 ^ 64 = omega (arith, last, h.long.number, h.numbers, t.before.low) in
    let later_log = later_behind index older after blocks old new t f in
    let now : IsLogNow later new [] [] after.seq = log_now later new [] [] 0 after.page after.seq later_log (omega arith) fits (omega arith) in
    let nothing : table_of new later ≡ [] = table_is later new [] [] after.seq now in
    let log = at_log after later new [] 0 later_log fits (omega (arith, eight)) t.free in
    let long = within_log after anchor new (groups_by old anchor) _ (log_behind index after blocks old new t) fits (omega (arith, eight)) (omega (arith, turns_few index blocks old t.before, eight)) in
    record {
      root = record {
        device = h.root.device;
        anchored = k.anchored;
        runs = runs_stand index.root.levels anchor blocks old new (pages_outside blocks old new anchor h.root.anchored.index.form t.outside) h.root.runs;
      };
      split = record {
        low = f.low;
        high = f.high;
        next = log.number ∙ sym long.number;
        whole = now.whole;
        all = k.table ∙ sym h.table ∙ sym f.table ∙ ap (λ (es : List Entry). merged es older.table) (sym nothing);
        rising = ap Rattle.kssd_model.specs.Rising.is_rising f.table ∙ table_rising (record index { older = None }) blocks old h;
        keys = omega (arith, ap (λ (es : List Entry). length (without_marks (merged older.table es))) (levels_outside index.root blocks old new h.root t.outside), table_keys index.root blocks old older.table h.root (f.table ∙ h.table));
      };
      log = log;
      long = long;
      left = omega (arith, eight);
      table = none ∙ sym nothing;
      few = omega (arith, ap (λ (es : List Entry). length es) none);
      older_few = omega (arith, ap (λ (es : List Entry). length es) f.table, h.few);
      numbers = omega (arith, k.age_is, last, h.long.number, h.numbers, aged);
      job = over_beside index.job (Some older) index.root blocks old new (ring_beside blocks old new t.outside) h.root (over_frozen index.job older index.root blocks old h.job);
    }
