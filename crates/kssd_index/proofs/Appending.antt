-- What a group leaves of an index, whole or torn.
use Rattle.std.proofs.Common.{true, ◌≡◌, ◌∙◌, ℕ, ◌+◌, ◌-◌, ◌*◌, ◌/◌, ◌%◌, ◌<◌, ◌≤◌, ◌^◌, max, List, [], ◌∷◌, ◌++◌, length, sym, ap, subst, arith, inl, inr}
use Rattle.std.proofs.lemmas.Bool.{and_parts, leb-true}
use Rattle.kv_nand.specs.Flash.{Image, Flash}
use Rattle.kssd_layout.specs.Numbers.{max_keys_in, max_pages_in}
use Rattle.kssd_entry.specs.declared.entry.Entry.{Entry}
use Rattle.kssd_model.specs.Rising.{is_rising, merged}
use Rattle.kssd_model.specs.Groups.{HasLog, turn_count}
use Rattle.kssd_model.specs.GroupsLaws.{HasBytes}
use Rattle.kssd_image.specs.Stages.{shown_in, without_marks}
use Rattle.kssd_image.specs.Whole.{IsLogWhole, log_of, pages_named, age_in}
use Rattle.kssd_log.specs.declared.place.Place.{Place}
use Rattle.kssd_log.specs.Ring.{IsBehind, room_of, turns_for}
use Rattle.kssd_log.specs.Append as ring
use Rattle.kssd_log.specs.Append.{IsLogPlace, IsTorn, MayAppend, StaysOutside, pages_of}
use Rattle.kssd_frames.specs.Logging.{groups_by}
use Rattle.kssd_frames.proofs.Lookups.{merge_more, merge_three}
use Rattle.kssd_frames.proofs.ShownLaws.{log_rises}
use Rattle.kssd_index.specs.declared.index.Index.{Index}
use Rattle.kssd_root.specs.Standing.{EndsAt, table_of}
use Rattle.kssd_index.specs.Standing.{IsIndex, EndsWithin, later_of, older_entries}
use Rattle.kssd_root.specs.Mapping.{with_entries, IsBeforeOrAfter}
use Rattle.kssd_index.specs.Costs.{has_place_in}
use Rattle.kssd_index.proofs.UnderWay.{over_beside, ring_beside}
use Rattle.kssd_root.proofs.Anchored.{shown_is, age_is, has_index}
use Rattle.kssd_root.proofs.Counting.{merged_few, merged_grows}
use Rattle.kssd_root.proofs.Runs.{runs_stand, pages_outside}
use Rattle.kssd_root.proofs.Logs.{log_now, KeepsBy, GrowsBy, ring_keeps, ring_grows, ring_values, same_table}
use Rattle.kssd_index.proofs.Later.{within_of, log_here, within_log, at_log, keys_with, grown_at, grown_now, table_grows, whole_table, table_rising, anchor_page, later_page, levels_outside}

-- ---- the log before

pub index_log : (index : Index) (blocks : ℕ) (image : Image) → HasBytes image → IsIndex index blocks image
    → HasLog image (32 * index.root.anchor.log_block) index.root.anchor.log_seq (groups_by image index.root.anchor) [] (turn_count (log_of image index.root.anchor).pages) index.ring.page index.ring.seq
index_log index blocks image has h = log_here index.ring index.root.anchor image has h.long h.root.anchored.index.log

-- ---- numbers

-- what a group with place needs
pub record IsPlaced (index : Index) (blocks : ℕ) (image : Image) (entries : List Entry) : Type 0 where
  pub stands : IsIndex index blocks image
  pub few : length entries ≤ 640
  pub rising : is_rising entries ≡ true
  pub place : has_place_in index entries ≡ true
  pub keys : length (with_entries (shown_in image) entries) ≤ max_keys_in blocks
  pub pages : length (pages_named (with_entries (shown_in image) entries)) ≤ max_pages_in blocks
  pub low : index.age + 2 ^ 20 ≤ 2 ^ 63

pub record HasNumbers (index : Index) (image : Image) (entries : List Entry) : Type 0 where
  pub room : pages_of entries ≤ room_of index.ring
  pub turns : turn_count (log_of image index.root.anchor).pages + turns_for index.ring (pages_of entries) ≤ 15
  pub later : turn_count (log_of image (later_of index)).pages + turns_for index.ring (pages_of entries) ≤ 7
  pub left : turns_for index.ring (pages_of entries) + 1 ≤ index.ring.blocks
  pub table : length (merged entries index.table) ≤ 1024
  pub keys : length (merged entries (table_of image index.root.anchor)) ≤ 2048
  pub seq : index.ring.seq ≤ index.age + 1
  pub most : pages_of entries + turns_for index.ring (pages_of entries) ≤ 256

turns_left : (page pages blocks : ℕ) → pages ≤ 31 * blocks - page % 32 → 1 ≤ blocks → (page % 32 + pages - 1) / 31 + 1 ≤ blocks
turns_left page pages blocks room some = omega arith

pages_left : (page pages blocks turns : ℕ) → pages ≤ 31 * blocks - page % 32 → blocks ≤ 8 → turns + 1 ≤ blocks → pages + turns ≤ 256
pages_left page pages blocks turns room eight some = omega arith

pub has_numbers : (index : Index) (blocks : ℕ) (image : Image) (entries : List Entry) → IsPlaced index blocks image entries → HasNumbers index image entries
has_numbers index blocks image entries h =
    let both = and_parts _ _ h.place in
    let table = leb-true (length (merged entries index.table)) 1024 both.0 in
    let room = leb-true (pages_of entries) (room_of index.ring) both.1 in
    let left = turns_left index.ring.page (pages_of entries) index.ring.blocks room h.stands.left in
    let older = older_entries index.older in
    let all : merged entries (table_of image index.root.anchor) ≡ merged (merged entries index.table) older =
    ap (merged entries) (sym (whole_table index blocks image h.stands)) ∙ sym (merge_three entries index.table older (table_rising index blocks image h.stands) h.stands.split.rising) in
    record {
      room = room;
      turns = omega (arith, left, h.stands.long.blocks);
      later = omega (arith, left, h.stands.log.blocks);
      left = left;
      table = table;
      keys = omega (arith, ap (λ (es : List Entry). length es) all, merged_few (merged entries index.table) older, table, h.stands.older_few);
      seq = omega (arith, h.stands.numbers, h.stands.long.number);
      most = pages_left index.ring.page (pages_of entries) index.ring.blocks (turns_for index.ring (pages_of entries)) room (omega (arith, h.stands.log.blocks)) left;
    }

pub number_low : (index : Index) (blocks : ℕ) (image : Image) → IsIndex index blocks image → index.age + 2 ^ 20 ≤ 2 ^ 63 → index.ring.seq < 2 ^ 63
number_low index blocks image h low = omega (arith, h.numbers, h.long.number)

-- ---- the group is there

pub record Grown (index : Index) (blocks : ℕ) (old : Image) (entries : List Entry) (new : Image) (next : ℕ) : Type 0 where
  pub grows : GrowsBy index.root.page index.root.anchor blocks old entries new next
  pub shown : shown_in new ≡ with_entries (shown_in old) entries

grown : (index : Index) (blocks : ℕ) (old : Image) (entries : List Entry) (new : Image) (turns end next : ℕ) → IsPlaced index blocks old entries → StaysOutside old new
    → HasLog new (32 * index.root.anchor.log_block) index.root.anchor.log_seq (groups_by old index.root.anchor ++ entries ∷ []) [] turns end next → turns ≤ 15 → next < 2 ^ 64
    → Grown index blocks old entries new next
grown index blocks old entries new turns end next h outside log few fits =
    let n = has_numbers index blocks old entries h in
    let anchor = index.root.anchor in
    let now = grown_now anchor old new entries turns end next log few fits n.keys in
    let was = shown_is index.root.page anchor old h.stands.root.anchored.newest in
    let grows = ring_grows index.root.page anchor blocks old entries new [] next h.stands.root.anchored outside now
    (subst (λ (es : List Entry). length (with_entries es entries) ≤ max_keys_in blocks) was h.keys)
    (subst (λ (es : List Entry). length (pages_named (with_entries es entries)) ≤ max_pages_in blocks) was h.pages) in
    record {
      grows = grows;
      shown = shown_is index.root.page anchor new grows.anchored.newest ∙ grows.shown ∙ ap (λ (es : List Entry). with_entries es entries) (sym was);
    }

pub appended_log : (index : Index) (blocks : ℕ) (old new : Image) (entries : List Entry) (after : Place) → HasBytes old → IsPlaced index blocks old entries
    → ring.Appends (turns_for index.ring (pages_of entries)) old index.ring entries new after
    → HasLog new (32 * index.root.anchor.log_block) index.root.anchor.log_seq (groups_by old index.root.anchor ++ entries ∷ []) [] (turn_count (log_of old index.root.anchor).pages + turns_for index.ring (pages_of entries)) after.page after.seq
appended_log index blocks old new entries after has h appends =
    let n = has_numbers index blocks old entries h in
    grown_at index.ring after index.root.anchor old new entries (turns_for index.ring (pages_of entries)) has h.stands.long h.stands.root.anchored.index.log (anchor_page index blocks old h.stands) n.turns appends

pub appended : (index : Index) (blocks : ℕ) (old new : Image) (entries : List Entry) (after : Place) → HasBytes old → IsPlaced index blocks old entries
    → ring.Appends (turns_for index.ring (pages_of entries)) old index.ring entries new after → StaysOutside old new → IsBehind index.ring (pages_of entries) (turns_for index.ring (pages_of entries)) after
    → Grown index blocks old entries new after.seq
appended index blocks old new entries after has h appends outside behind =
    let n = has_numbers index blocks old entries h in
    grown index blocks old entries new _ after.page after.seq h outside (appended_log index blocks old new entries after has h appends) (omega (arith, n.turns)) (omega (arith, behind.number, n.seq, n.most, h.low))

-- both logs behind the group
pub record EndBehind (index : Index) (blocks : ℕ) (old : Image) (entries : List Entry) (after : Place) (new : Image) : Type 0 where
  pub log : EndsAt after (later_of index) new
  pub long : EndsWithin after index.root.anchor new
  pub left : 1 ≤ after.blocks
  pub table : table_of new (later_of index) ≡ merged entries (table_of old (later_of index))
  pub whole : IsLogWhole new (log_of new (later_of index))

pub ends_behind : (index : Index) (blocks : ℕ) (old : Image) (new : Flash) (entries : List Entry) (after : Place) → HasBytes old → IsPlaced index blocks old entries
    → ring.Appends (turns_for index.ring (pages_of entries)) old index.ring entries new.image after → IsBehind index.ring (pages_of entries) (turns_for index.ring (pages_of entries)) after → IsLogPlace new after
    → EndBehind index blocks old entries after new.image
ends_behind index blocks old new entries after has h appends behind place =
    let n = has_numbers index blocks old entries h in
    let later = later_of index in
    let moved = turns_for index.ring (pages_of entries) in
    let fits : after.seq < 2 ^ 64 = omega (arith, behind.number, n.seq, n.most, h.low) in
    let log = appended_log index blocks old new.image entries after has h appends in
    let later_turns : turn_count (log_of old later).pages + moved ≤ 15 = omega (arith, n.later) in
    let later_log = grown_at index.ring after later old new.image entries moved has (within_of index.ring later old h.stands.log) h.stands.split.whole (later_page index blocks old h.stands) later_turns appends in
    let few : length (merged entries (table_of old later)) ≤ 2048 = omega (arith, ap (λ (es : List Entry). length (merged entries es)) h.stands.table, n.table) in
    let now = grown_now later old new.image entries _ after.page after.seq later_log later_turns fits few in
    record {
      log = at_log after later new.image (groups_by old later ++ entries ∷ []) _ later_log fits (omega (arith, behind.blocks, h.stands.log.blocks)) place.free;
      long = within_log after index.root.anchor new.image (groups_by old index.root.anchor ++ entries ∷ []) _ log fits (omega (arith, behind.blocks, h.stands.long.least)) (omega (arith, behind.blocks, h.stands.long.blocks));
      left = omega (arith, behind.blocks, n.left);
      table = table_grows later old new.image entries after.seq now;
      whole = now.whole;
    }

-- ---- the group is there or not

first_less : (first others entries older : List Entry) → first ++ others ≡ entries → length (merged first older) ≤ length (merged entries older)
first_less first others entries older all =
    omega (arith, merged_grows others (merged first older), ap (λ (es : List Entry). length es) (merge_more first others older), ap (λ (es : List Entry). length (merged es older)) all)

torn : (index : Index) (blocks : ℕ) (old : Image) (entries : List Entry) (new : Image) → IsPlaced index blocks old entries → StaysOutside old new
    → (t : IsTorn new (32 * index.root.anchor.log_block) index.root.anchor.log_seq (groups_by old index.root.anchor) entries (turn_count (log_of old index.root.anchor).pages + turns_for index.ring (pages_of entries)) (index.ring.seq + pages_of entries + turns_for index.ring (pages_of entries)))
    → KeepsBy index.root.page index.root.anchor blocks old new t.has.next
torn index blocks old entries new h outside t =
    let n = has_numbers index blocks old entries h in
    ring_keeps index.root.page index.root.anchor blocks old new t.first t.has.next h.stands.root.anchored outside
    (log_now index.root.anchor new (groups_by old index.root.anchor) t.first t.has.turns t.has.end t.has.next t.has.log (omega (arith, t.has.few_turns, n.turns)) (omega (arith, t.has.next_fits, n.seq, n.most, h.low))
    (keys_with (groups_by old index.root.anchor) (table_of old index.root.anchor) t.first 2048 (same_table old index.root.anchor)
    (omega (arith, n.keys, first_less t.first t.others entries (table_of old index.root.anchor) t.all))))

-- what a fault leaves
pub record IsLeft (blocks : ℕ) (old : Image) (entries : List Entry) (new : Image) (age : ℕ) : Type 0 where
  pub kept : IsBeforeOrAfter blocks old entries new
  pub aged : age_in new ≤ age

pub left_grown : (index : Index) (blocks : ℕ) (old : Image) (entries : List Entry) (new : Image) (next : ℕ) → IsPlaced index blocks old entries → StaysOutside old new → Grown index blocks old entries new next → next ≤ index.ring.seq + pages_of entries + turns_for index.ring (pages_of entries)
    → IsLeft blocks old entries new (index.age + 256)
left_grown index blocks old entries new next h outside g few =
    let n = has_numbers index blocks old entries h in
    record {
      kept = record {
        index = has_index index.root.page index.root.anchor blocks new g.grows.anchored;
        shown = inr g.shown;
        values = ring_values blocks old new outside;
      };
      aged = omega (arith, age_is index.root.page index.root.anchor new g.grows.anchored.newest, g.grows.age_is, h.stands.numbers, few, n.seq, n.most);
    }

left_torn : (index : Index) (blocks : ℕ) (old : Image) (entries : List Entry) (new : Image) (next : ℕ) → IsPlaced index blocks old entries → StaysOutside old new → KeepsBy index.root.page index.root.anchor blocks old new next → next ≤ index.ring.seq + pages_of entries + turns_for index.ring (pages_of entries)
    → IsLeft blocks old entries new (index.age + 256)
left_torn index blocks old entries new next h outside k few =
    let n = has_numbers index blocks old entries h in
    record {
      kept = record {
        index = has_index index.root.page index.root.anchor blocks new k.anchored;
        shown = inl (shown_is index.root.page index.root.anchor new k.anchored.newest ∙ k.shown ∙ sym (shown_is index.root.page index.root.anchor old h.stands.root.anchored.newest));
        values = ring_values blocks old new outside;
      };
      aged = omega (arith, age_is index.root.page index.root.anchor new k.anchored.newest, k.age_is, h.stands.numbers, few, n.seq, n.most);
    }

pub may_append : (index : Index) (blocks : ℕ) (old new : Image) (entries : List Entry) → HasBytes old → IsPlaced index blocks old entries
    → MayAppend (turns_for index.ring (pages_of entries)) (pages_of entries) old index.ring entries new → StaysOutside old new
    → IsLeft blocks old entries new (index.age + 256)
may_append index blocks old new entries has h may outside =
    let n = has_numbers index blocks old entries h in
    elim (may (32 * index.root.anchor.log_block) index.root.anchor.log_seq (turn_count (log_of old index.root.anchor).pages) (groups_by old index.root.anchor) (anchor_page index blocks old h.stands) (omega (arith, n.turns)) (index_log index blocks old has h.stands)) [
      | inl t ↦ left_torn index blocks old entries new t.has.next h outside (torn index blocks old entries new h outside t) t.has.next_fits
      | inr g ↦ left_grown index blocks old entries new g.next h outside (grown index blocks old entries new g.turns g.end g.next h outside g.log (omega (arith, g.few_turns, n.turns)) (omega (arith, g.next_fits, n.seq, n.most, h.low))) g.next_fits
    ]

pub left_appended : (index : Index) (blocks : ℕ) (old new : Image) (entries : List Entry) (after : Place) → HasBytes old → IsPlaced index blocks old entries
    → ring.Appends (turns_for index.ring (pages_of entries)) old index.ring entries new after → StaysOutside old new → IsBehind index.ring (pages_of entries) (turns_for index.ring (pages_of entries)) after
    → IsLeft blocks old entries new (index.age + 256)
left_appended index blocks old new entries after has h appends outside behind =
    left_grown index blocks old entries new after.seq h outside (appended index blocks old new entries after has h appends outside behind) (omega (arith, behind.number))

-- ---- the standing fact behind the group

pub stands_behind : (index : Index) (old new : Flash) (entries : List Entry) (after : Place) (table : List Entry) (age : ℕ) → HasBytes old.image → IsPlaced index old.blocks old.image entries
    → ring.Appends (turns_for index.ring (pages_of entries)) old.image index.ring entries new.image after → StaysOutside old.image new.image
    → IsBehind index.ring (pages_of entries) (turns_for index.ring (pages_of entries)) after → IsLogPlace new after
    → new.blocks ≡ old.blocks → table ≡ merged entries index.table → age ≡ max index.age (after.seq - 1)
    → IsIndex (record { root = index.root; table = table; older = index.older; ring = after; age = age; job = index.job }) new.blocks new.image
stands_behind index old new entries after table age has h appends outside behind place same is aged =
    let g = appended index old.blocks old.image new.image entries after has h appends outside behind in
    let n = has_numbers index old.blocks old.image entries h in
    let e = ends_behind index old.blocks old.image new entries after has h appends behind place in
    let later = later_of index in
    let older = older_entries index.older in
    let split = h.stands.split in
    let next : Index = record { root = index.root; table = table; older = index.older; ring = after; age = age; job = index.job } in
    let rises = log_rises old.image (32 * later.log_block) later.log_seq in
    subst (λ (b : ℕ). IsIndex next b new.image) (sym same) (record {
      root = record {
        device = h.stands.root.device;
        anchored = g.grows.anchored;
        runs = runs_stand index.root.levels index.root.anchor old.blocks old.image new.image (pages_outside old.blocks old.image new.image index.root.anchor h.stands.root.anchored.index.form outside) h.stands.root.runs;
      };
      split = record {
        low = split.low;
        high = split.high;
        next = e.log.number ∙ sym e.long.number;
        whole = e.whole;
        all = g.grows.table ∙ ap (merged entries) split.all ∙ sym (merge_three entries (table_of old.image later) older rises split.rising) ∙ ap (λ (es : List Entry). merged es older) (sym e.table);
        rising = split.rising;
        keys = omega (arith, ap (λ (es : List Entry). length (without_marks (merged older es))) (levels_outside index.root old.blocks old.image new.image h.stands.root outside), split.keys);
      };
      log = e.log;
      long = e.long;
      left = e.left;
      table = is ∙ ap (merged entries) h.stands.table ∙ sym e.table;
      few = omega (arith, ap (λ (es : List Entry). length es) is, n.table);
      older_few = h.stands.older_few;
      numbers = omega (arith, g.grows.age_is, h.stands.numbers, aged);
      job = over_beside index.job index.older index.root old.blocks old.image new.image (ring_beside old.blocks old.image new.image outside) h.stands.root h.stands.job;
    })

pub aged_behind : (index : Index) (blocks : ℕ) (old new : Image) (entries : List Entry) (after : Place) (age : ℕ) → HasBytes old → IsPlaced index blocks old entries
    → ring.Appends (turns_for index.ring (pages_of entries)) old index.ring entries new after → StaysOutside old new → IsBehind index.ring (pages_of entries) (turns_for index.ring (pages_of entries)) after
    → age ≡ max index.age (after.seq - 1) → age_in new ≤ age
aged_behind index blocks old new entries after age has h appends outside behind aged =
    let g = appended index blocks old new entries after has h appends outside behind in
    omega (arith, age_is index.root.page index.root.anchor new g.grows.anchored.newest, g.grows.age_is, h.stands.numbers, aged)
