-- What a change of the ring leaves of an index.
use Rattle.std.proofs.Common.{◌≡◌, ◌∙◌, ℕ, ◌-◌, ◌*◌, ◌<◌, ◌≤◌, ◌^◌, max, List, [], ◌∷◌, ◌++◌, length, refl, sym, ap, subst, arith, inl, inr, append-nil}
use Rattle.std.specs.List.{All}
use Rattle.std.proofs.lemmas.List.Concat.{flat_map-append}
use Rattle.kv_nand.specs.Flash.{Image, Flash, IsPageState, IsSound}
use Rattle.kssd_layout.specs.Numbers.{max_keys_in, max_pages_in}
use Rattle.kssd_entry.specs.declared.entry.Entry.{Entry}
use Rattle.kssd_model.specs.declared.anchor.Anchor.{Anchor}
use Rattle.kssd_model.specs.Anchors.{newest_in}
use Rattle.kssd_model.specs.Rising.{merged}
use Rattle.kssd_model.specs.Groups.{Walk, HasLog, log_in, key_set}
use Rattle.kssd_model.specs.GroupsLaws.{HasBytes}
use Rattle.kssd_model.proofs.GroupsWalks.{log_in_is, groups_in_log}
use Rattle.kssd_image.specs.Stages.{entries_of, log_map, runs_map, without_marks, merged_by, shown_by}
use Rattle.kssd_image.specs.AnchorForm.{IsAnchorForm, anchor_age}
use Rattle.kssd_image.specs.Whole.{IsLogWhole, pages_named, age_by}
use Rattle.kssd_log.specs.Append.{StaysOutside}
use Rattle.kssd_frames.specs.Same.{as_counted}
use Rattle.kssd_frames.specs.Logging.{groups_by}
use Rattle.kssd_frames.proofs.Lookups.{merge_more, merge_three, marks_below}
use Rattle.kssd_frames.proofs.ShownLaws.{runs_rise, log_rises, merged_rises}
use Rattle.kssd_frames.proofs.SameImages.{IsSameRun, newest_in_alike, runs_alike, index_from}
use Rattle.kssd_frames.proofs.SparePages.{runs_outside}
use Rattle.kssd_frames.proofs.Groups.{log_is_whole}
use Rattle.kssd_root.specs.Standing.{IsAnchored, table_of}
use Rattle.kssd_root.specs.Mapping.{with_entries, SameValues}

pub has_bytes : (flash : Flash) → IsSound flash → HasBytes flash.image
has_bytes flash sound q bytes e = subst IsPageState e (sound.pages q)

-- ---- what lies outside the ring

pub ring_newest : (old new : Image) → StaysOutside old new → newest_in new ≡ newest_in old
ring_newest old new outside = newest_in_alike old new (λ page lt. ap as_counted (outside page (inl lt)))

pub ring_runs : (blocks : ℕ) (old new : Image) (anchor : Anchor) → IsAnchorForm blocks anchor → StaysOutside old new → All (IsSameRun old new) anchor.runs
ring_runs blocks old new anchor form outside = runs_outside blocks old new anchor form (λ page le. ap as_counted (outside page (inr le)))

pub ring_values : (blocks : ℕ) (old new : Image) → StaysOutside old new → SameValues blocks old new
ring_values blocks old new outside q le = outside q (inr (omega arith))

-- ---- a log that is known

-- a log from an anchor's place on, which a mount takes
pub record IsLogNow (anchor : Anchor) (image : Image) (groups : List (List Entry)) (rest : List Entry) (next : ℕ) : Type 0 where
  pub turns : ℕ
  pub end : ℕ
  pub log : HasLog image (32 * anchor.log_block) anchor.log_seq groups rest turns end next
  pub fits : next < 2 ^ 64
  pub whole : IsLogWhole image (log_in image (32 * anchor.log_block) anchor.log_seq)

pub log_now : (anchor : Anchor) (image : Image) (groups : List (List Entry)) (rest : List Entry) (turns end next : ℕ) → HasLog image (32 * anchor.log_block) anchor.log_seq groups rest turns end next → turns ≤ 15 → next < 2 ^ 64 → length (key_set [] (entries_of groups ++ rest)) ≤ 2048 → IsLogNow anchor image groups rest next
log_now anchor image groups rest turns end next log few fits keys = record {
  turns = turns;
  end = end;
  log = log;
  fits = fits;
  whole = log_is_whole image (32 * anchor.log_block) anchor.log_seq groups rest turns end next log few fits keys;
}

pub table_is : (anchor : Anchor) (image : Image) (groups : List (List Entry)) (rest : List Entry) (next : ℕ) → IsLogNow anchor image groups rest next → table_of image anchor ≡ merged (entries_of groups) []
unfolding log_map
table_is anchor image groups rest next h = ap (λ (gs : List (List Entry)). merged (entries_of gs) []) (groups_in_log image (32 * anchor.log_block) anchor.log_seq groups rest h.turns h.end next h.log h.fits)

pub merged_is : (blocks : ℕ) (anchor : Anchor) (old new : Image) → IsAnchorForm blocks anchor → StaysOutside old new → merged_by new anchor ≡ merged (table_of new anchor) (runs_map old anchor.runs)
unfolding merged_by
merged_is blocks anchor old new form outside = ap (merged (table_of new anchor)) (runs_alike old new anchor.runs (ring_runs blocks old new anchor form outside))

pub same_table : (image : Image) (anchor : Anchor) → table_of image anchor ≡ merged (entries_of (groups_by image anchor)) []
unfolding log_map
same_table image anchor = refl

merged_was : (image : Image) (anchor : Anchor) → merged_by image anchor ≡ merged (table_of image anchor) (runs_map image anchor.runs)
unfolding merged_by
merged_was image anchor = refl

shown_was : (image : Image) (anchor : Anchor) → shown_by image anchor ≡ without_marks (merged_by image anchor)
unfolding shown_by
shown_was image anchor = refl

pub age_now : (anchor : Anchor) (image : Image) (groups : List (List Entry)) (rest : List Entry) (next : ℕ) → IsLogNow anchor image groups rest next → age_by image anchor ≡ max (anchor_age anchor) (next - 1)
age_now anchor image groups rest next h = ap (λ (w : Walk). max (anchor_age anchor) (w.next - 1)) (log_in_is image (32 * anchor.log_block) anchor.log_seq groups rest h.turns h.end next h.log h.fits)

-- ---- the groups as before

pub record KeepsBy (page : ℕ) (anchor : Anchor) (blocks : ℕ) (old new : Image) (next : ℕ) : Type 0 where
  pub anchored : IsAnchored page anchor blocks new
  pub merged_same : merged_by new anchor ≡ merged_by old anchor
  pub shown : shown_by new anchor ≡ shown_by old anchor
  pub table : table_of new anchor ≡ table_of old anchor
  pub age_is : age_by new anchor ≡ max (anchor_age anchor) (next - 1)

pub ring_keeps : (page : ℕ) (anchor : Anchor) (blocks : ℕ) (old new : Image) (rest : List Entry) (next : ℕ) → IsAnchored page anchor blocks old → StaysOutside old new → IsLogNow anchor new (groups_by old anchor) rest next → KeepsBy page anchor blocks old new next
ring_keeps page anchor blocks old new rest next h outside now =
    let table : table_of new anchor ≡ table_of old anchor = table_is anchor new (groups_by old anchor) rest next now ∙ sym (same_table old anchor) in
    let all : merged_by new anchor ≡ merged_by old anchor =
    merged_is blocks anchor old new h.index.form outside
    ∙ ap (λ (es : List Entry). merged es (runs_map old anchor.runs)) table
    ∙ sym (merged_was old anchor) in
    let shown : shown_by new anchor ≡ shown_by old anchor = shown_was new anchor ∙ ap without_marks all ∙ sym (shown_was old anchor) in
    record {
      anchored = record {
        newest = ring_newest old new outside ∙ h.newest;
        index = index_from blocks old new anchor h.index (ring_runs blocks old new anchor h.index.form outside)
            now.whole
            (omega (arith, ap (λ (es : List Entry). length es) shown, h.index.room.keys))
            (omega (arith, ap (λ (es : List Entry). length (pages_named es)) shown, h.index.room.pages));
      };
      merged_same = all;
      shown = shown;
      table = table;
      age_is = age_now anchor new (groups_by old anchor) rest next now;
    }

-- ---- one group more

pub entries_of_more : (groups : List (List Entry)) (entries : List Entry) → entries_of (groups ++ entries ∷ []) ≡ entries_of groups ++ entries
entries_of_more groups entries = flat_map-append (λ (g : List Entry). g) groups (entries ∷ []) ∙ ap (λ (es : List Entry). entries_of groups ++ es) (append-nil entries)

pub record GrowsBy (page : ℕ) (anchor : Anchor) (blocks : ℕ) (old : Image) (entries : List Entry) (new : Image) (next : ℕ) : Type 0 where
  pub anchored : IsAnchored page anchor blocks new
  pub table : table_of new anchor ≡ merged entries (table_of old anchor)
  pub shown : shown_by new anchor ≡ with_entries (shown_by old anchor) entries
  pub age_is : age_by new anchor ≡ max (anchor_age anchor) (next - 1)

pub ring_grows : (page : ℕ) (anchor : Anchor) (blocks : ℕ) (old : Image) (entries : List Entry) (new : Image) (rest : List Entry) (next : ℕ) → IsAnchored page anchor blocks old → StaysOutside old new
    → IsLogNow anchor new (groups_by old anchor ++ entries ∷ []) rest next
    → length (with_entries (shown_by old anchor) entries) ≤ max_keys_in blocks → length (pages_named (with_entries (shown_by old anchor) entries)) ≤ max_pages_in blocks
    → GrowsBy page anchor blocks old entries new next
ring_grows page anchor blocks old entries new rest next h outside now keys pages =
    let groups = groups_by old anchor ++ entries ∷ [] in
    let runs = runs_map old anchor.runs in
    let table : table_of new anchor ≡ merged entries (table_of old anchor) =
    table_is anchor new groups rest next now
    ∙ ap (λ (es : List Entry). merged es []) (entries_of_more (groups_by old anchor) entries)
    ∙ merge_more (entries_of (groups_by old anchor)) entries []
    ∙ ap (merged entries) (sym (same_table old anchor)) in
    let all : merged_by new anchor ≡ merged entries (merged_by old anchor) =
    merged_is blocks anchor old new h.index.form outside
    ∙ ap (λ (es : List Entry). merged es runs) table
    ∙ merge_three entries (table_of old anchor) runs (log_rises old (32 * anchor.log_block) anchor.log_seq) (runs_rise old anchor.runs)
    ∙ ap (merged entries) (sym (merged_was old anchor)) in
    let shown : shown_by new anchor ≡ with_entries (shown_by old anchor) entries =
    shown_was new anchor ∙ ap without_marks all
    ∙ sym (marks_below entries (merged_by old anchor) (merged_rises old anchor))
    ∙ ap (λ (es : List Entry). without_marks (merged entries es)) (sym (shown_was old anchor)) in
    record {
      anchored = record {
        newest = ring_newest old new outside ∙ h.newest;
        index = index_from blocks old new anchor h.index (ring_runs blocks old new anchor h.index.form outside)
            now.whole
            (omega (arith, ap (λ (es : List Entry). length es) shown, keys))
            (omega (arith, ap (λ (es : List Entry). length (pages_named es)) shown, pages));
      };
      table = table;
      shown = shown;
      age_is = age_now anchor new groups rest next now;
    }
