-- Where logs end: the whole one, and its later part.
use Rattle.std.proofs.Common.{true, ◌≡◌, ◌∙◌, ℕ, ◌+◌, ◌*◌, ◌<◌, ◌≤◌, ◌^◌, List, [], ◌∷◌, ◌++◌, length, refl, sym, ap, subst, arith, append-nil}
use Rattle.kv_nand.specs.Flash.{Image, MayProgram}
use Rattle.kssd_entry.specs.declared.entry.Entry.{Entry}
use Rattle.kssd_model.specs.declared.anchor.Anchor.{Anchor}
use Rattle.kssd_model.specs.declared.runs.RunInfo.{RunInfo}
use Rattle.kssd_model.specs.Rising.{is_rising, merged}
use Rattle.kssd_model.specs.Groups.{Walk, HasLog, seen, Ends, rest_from, turn_count, key_set}
use Rattle.kssd_model.specs.GroupsLaws.{HasBytes}
use Rattle.kssd_model.proofs.GroupsWalks.{log_in_is, log_from_walk}
use Rattle.kssd_image.specs.Stages.{entries_of, runs_map}
use Rattle.kssd_image.specs.Whole.{IsLogWhole, log_of, keys_from_level}
use Rattle.kssd_levels.specs.Levels.{infos_of, levels_map}
use Rattle.kssd_log.specs.declared.place.Place.{Place}
use Rattle.kssd_log.specs.Ring.{IsRingPage}
use Rattle.kssd_log.specs.Append as ring
use Rattle.kssd_log.specs.Append.{StaysOutside}
use Rattle.kssd_frames.specs.Logging.{groups_by}
use Rattle.kssd_frames.proofs.Lookups.{merge_more, merge_alone}
use Rattle.kssd_frames.proofs.ShownLaws.{log_rises}
use Rattle.kssd_frames.proofs.SameImages.{runs_alike, log_ends_in_ring}
use Rattle.kssd_frames.proofs.Groups.{keys_are_entries}
use Rattle.kssd_root.specs.declared.root.Root.{Root}
use Rattle.kssd_root.specs.Standing.{IsRoot, EndsAt, table_of}
use Rattle.kssd_root.specs.Following.{IsSplit, keys_from}
use Rattle.kssd_root.proofs.Layers.{keys_from_0}
use Rattle.kssd_root.proofs.Logs.{IsLogNow, log_now, table_is, same_table, entries_of_more, ring_runs}
use Rattle.kssd_index.specs.declared.index.Index.{Index}
use Rattle.kssd_index.specs.Standing.{EndsWithin, IsIndex, later_of, older_entries}

-- ---- a log that ends at a place

pub within_of : (place : Place) (anchor : Anchor) (image : Image) → EndsAt place anchor image → EndsWithin place anchor image
within_of place anchor image h = record { page = h.page; number = h.number; whole = h.whole; least = omega (arith, h.blocks); blocks = omega (arith, h.blocks) }

pub log_here : (place : Place) (anchor : Anchor) (image : Image) → HasBytes image → EndsWithin place anchor image → IsLogWhole image (log_of image anchor)
    → HasLog image (32 * anchor.log_block) anchor.log_seq (groups_by image anchor) [] (turn_count (log_of image anchor).pages) place.page place.seq
log_here place anchor image has ends whole =
    log_from_walk image (32 * anchor.log_block) anchor.log_seq place.page place.seq [] has ends.page ends.number
    (subst (λ (p : ℕ × ℕ). seen p.0 p.1 (image p.0) ≡ Ends) (λ i. (ends.page i, ends.number i)) whole.ends)
    ends.whole

pub within_log : (place : Place) (anchor : Anchor) (image : Image) (groups : List (List Entry)) (turns : ℕ) → HasLog image (32 * anchor.log_block) anchor.log_seq groups [] turns place.page place.seq → place.seq < 2 ^ 64 → 8 ≤ turns + place.blocks → turns + place.blocks ≤ 16 → EndsWithin place anchor image
within_log place anchor image groups turns log fits some few =
    let is = log_in_is image (32 * anchor.log_block) anchor.log_seq groups [] turns place.page place.seq log fits in
    record {
      page = ap (λ (w : Walk). w.end) is;
      number = ap (λ (w : Walk). w.next) is;
      whole = ap (λ (w : Walk). rest_from [] w.pages) is ∙ log.rest_is;
      least = omega (arith, ap (λ (w : Walk). turn_count w.pages) is, log.turns_are, some);
      blocks = omega (arith, ap (λ (w : Walk). turn_count w.pages) is, log.turns_are, few);
    }

pub at_log : (place : Place) (anchor : Anchor) (image : Image) (groups : List (List Entry)) (turns : ℕ) → HasLog image (32 * anchor.log_block) anchor.log_seq groups [] turns place.page place.seq → place.seq < 2 ^ 64 → turns + place.blocks ≡ 8 → MayProgram image place.page → EndsAt place anchor image
at_log place anchor image groups turns log fits eight free =
    let is = log_in_is image (32 * anchor.log_block) anchor.log_seq groups [] turns place.page place.seq log fits in
    record {
      page = ap (λ (w : Walk). w.end) is;
      number = ap (λ (w : Walk). w.next) is;
      whole = ap (λ (w : Walk). rest_from [] w.pages) is ∙ log.rest_is;
      blocks = omega (arith, ap (λ (w : Walk). turn_count w.pages) is, log.turns_are, eight);
      free = free;
    }

-- ---- the same log

pub within_same : (place : Place) (a b : Anchor) (old new : Image) → log_of new b ≡ log_of old a → EndsWithin place a old → EndsWithin place b new
within_same place a b old new is h = record {
  page = ap (λ (w : Walk). w.end) is ∙ h.page;
  number = ap (λ (w : Walk). w.next) is ∙ h.number;
  whole = ap (λ (w : Walk). rest_from [] w.pages) is ∙ h.whole;
  least = omega (arith, ap (λ (w : Walk). turn_count w.pages) is, h.least);
  blocks = omega (arith, ap (λ (w : Walk). turn_count w.pages) is, h.blocks);
}

pub free_same : (page : ℕ) (old new : Image) → 64 ≤ page → page < 640 → ((q : ℕ) → 64 ≤ q → q < 640 → new q ≡ old q) → MayProgram old page → MayProgram new page
free_same page old new low high same h = record {
  here = same page low high ∙ h.here;
  earlier = λ q here first e. h.earlier q here first (sym (same q (omega arith) (omega arith)) ∙ e);
  later = λ q here after. same q (omega arith) (omega arith) ∙ h.later q here after;
}

pub at_same : (place : Place) (a b : Anchor) (old new : Image) → log_of new b ≡ log_of old a → 64 ≤ place.page → place.page < 640 → ((q : ℕ) → 64 ≤ q → q < 640 → new q ≡ old q) → EndsAt place a old → EndsAt place b new
at_same place a b old new is low high same h = record {
  page = ap (λ (w : Walk). w.end) is ∙ h.page;
  number = ap (λ (w : Walk). w.next) is ∙ h.number;
  whole = ap (λ (w : Walk). rest_from [] w.pages) is ∙ h.whole;
  blocks = omega (arith, ap (λ (w : Walk). turn_count w.pages) is, h.blocks);
  free = free_same place.page old new low high same h.free;
}

-- ---- keys

pub keys_with : (groups : List (List Entry)) (table rest : List Entry) (most : ℕ) → table ≡ merged (entries_of groups) [] → length (merged rest table) ≤ most → length (key_set [] (entries_of groups ++ rest)) ≤ most
keys_with groups table rest most is few =
    omega (arith, keys_are_entries (entries_of groups ++ rest), ap (λ (es : List Entry). length es) (merge_more (entries_of groups) rest []), ap (λ (es : List Entry). length (merged rest es)) is)

-- ---- a group more

pub grown_at : (place after : Place) (anchor : Anchor) (old new : Image) (entries : List Entry) (moved : ℕ) → HasBytes old → EndsWithin place anchor old → IsLogWhole old (log_of old anchor) → IsRingPage (32 * anchor.log_block)
    → turn_count (log_of old anchor).pages + moved ≤ 15 → ring.Appends moved old place entries new after
    → HasLog new (32 * anchor.log_block) anchor.log_seq (groups_by old anchor ++ entries ∷ []) [] (turn_count (log_of old anchor).pages + moved) after.page after.seq
grown_at place after anchor old new entries moved has ends whole page few appends =
    appends (32 * anchor.log_block) anchor.log_seq (turn_count (log_of old anchor).pages) (groups_by old anchor) page (omega (arith, few)) (log_here place anchor old has ends whole)

more_entries : (groups : List (List Entry)) (entries : List Entry) → entries_of (groups ++ entries ∷ []) ++ [] ≡ entries_of groups ++ entries
more_entries groups entries = append-nil (entries_of (groups ++ entries ∷ [])) ∙ entries_of_more groups entries

pub grown_now : (anchor : Anchor) (old new : Image) (entries : List Entry) (turns end next : ℕ) → HasLog new (32 * anchor.log_block) anchor.log_seq (groups_by old anchor ++ entries ∷ []) [] turns end next → turns ≤ 15 → next < 2 ^ 64
    → length (merged entries (table_of old anchor)) ≤ 2048 → IsLogNow anchor new (groups_by old anchor ++ entries ∷ []) [] next
grown_now anchor old new entries turns end next log few fits keys =
    log_now anchor new (groups_by old anchor ++ entries ∷ []) [] turns end next log few fits
    (subst (λ (es : List Entry). length (key_set [] es) ≤ 2048) (sym (more_entries (groups_by old anchor) entries)) (keys_with (groups_by old anchor) (table_of old anchor) entries 2048 (same_table old anchor) keys))

pub table_grows : (anchor : Anchor) (old new : Image) (entries : List Entry) (next : ℕ) → IsLogNow anchor new (groups_by old anchor ++ entries ∷ []) [] next → table_of new anchor ≡ merged entries (table_of old anchor)
table_grows anchor old new entries next now =
    table_is anchor new (groups_by old anchor ++ entries ∷ []) [] next now
    ∙ ap (λ (es : List Entry). merged es []) (entries_of_more (groups_by old anchor) entries)
    ∙ merge_more (entries_of (groups_by old anchor)) entries []
    ∙ ap (merged entries) (sym (same_table old anchor))

-- ---- what an index knows

-- the two tables have what the log has
pub whole_table : (index : Index) (blocks : ℕ) (image : Image) → IsIndex index blocks image → merged index.table (older_entries index.older) ≡ table_of image index.root.anchor
whole_table index blocks image h = ap (λ (es : List Entry). merged es (older_entries index.older)) h.table ∙ sym h.split.all

pub table_rising : (index : Index) (blocks : ℕ) (image : Image) → IsIndex index blocks image → is_rising index.table ≡ true
table_rising index blocks image h = ap is_rising h.table ∙ log_rises image (32 * (later_of index).log_block) (later_of index).log_seq

pub ring_page : (index : Index) (blocks : ℕ) (image : Image) → IsIndex index blocks image → IsRingPage index.ring.page
ring_page index blocks image h =
    let form = h.root.anchored.index.form in
    let p = log_ends_in_ring image (32 * index.root.anchor.log_block) index.root.anchor.log_seq (omega (arith, form.log_low)) (omega (arith, form.log_high)) in
    record { low = omega (arith, p.0, h.long.page); high = omega (arith, p.1, h.long.page) }

pub anchor_page : (index : Index) (blocks : ℕ) (image : Image) → IsIndex index blocks image → IsRingPage (32 * index.root.anchor.log_block)
anchor_page index blocks image h = let form = h.root.anchored.index.form in record { low = omega (arith, form.log_low); high = omega (arith, form.log_high) }

pub later_page : (index : Index) (blocks : ℕ) (image : Image) → IsIndex index blocks image → IsRingPage (32 * (later_of index).log_block)
later_page index blocks image h = let split = h.split in record { low = omega (arith, split.low); high = omega (arith, split.high) }

pub levels_outside : (root : Root) (blocks : ℕ) (old new : Image) → IsRoot root blocks old → StaysOutside old new → levels_map root.levels new ≡ levels_map root.levels old
levels_outside root blocks old new h outside =
    ap (runs_map new) h.runs.named ∙ runs_alike old new root.anchor.runs (ring_runs blocks old new root.anchor h.anchored.index.form outside) ∙ ap (runs_map old) (sym h.runs.named)

-- ---- a log that isn't split

pub unsplit : (root : Root) (blocks : ℕ) (image : Image) → IsRoot root blocks image → IsSplit [] root.anchor root blocks image
unsplit root blocks image h =
    let named : keys_from image (infos_of root.levels) 0 ≡ keys_from_level image root.anchor 0 = ap (λ (infos : List RunInfo). keys_from image infos 0) h.runs.named in
    record {
      low = h.anchored.index.form.log_low;
      high = h.anchored.index.form.log_high;
      next = refl;
      whole = h.anchored.index.log;
      all = sym (merge_alone (table_of image root.anchor) (log_rises image (32 * root.anchor.log_block) root.anchor.log_seq));
      rising = refl;
      keys = omega (arith, keys_from_0 image root.levels, named, h.anchored.index.room.levels);
    }
