-- How a root moves on to the next anchor.
use Rattle.std.proofs.Common.{true, length, ◌≡◌, ◌∙◌, ◌⊎◌, ℕ, ◌+◌, ◌*◌, ◌/◌, ◌<◌, ◌≤◌, ◌^◌, List, [], refl, sym, ap, subst, arith, inl, inr}
use Rattle.std.specs.List.{All}
use Rattle.kv_nand.specs.Flash.{Image}
use Rattle.kssd_layout.specs.Numbers.{max_keys_in}
use Rattle.kssd_layout.specs.declared.region.Region.TheVariants as regions
use Rattle.kssd_entry.specs.declared.entry.Entry.{Entry}
use Rattle.kssd_model.specs.declared.anchor.Anchor.{Anchor}
use Rattle.kssd_model.specs.declared.runs.RunInfo.{RunInfo}
use Rattle.kssd_model.specs.Rising.{is_rising, merged}
use Rattle.kssd_model.specs.RunPages.{IsGoodRun}
use Rattle.kssd_model.specs.Groups.{Walk, seen, log_in, groups_from}
use Rattle.kssd_image.specs.Stages.{entries_of, without_marks, shown_by, log_map}
use Rattle.kssd_image.specs.AnchorForm.{IsRunForm, run_numbers}
use Rattle.kssd_image.specs.Whole.{log_of, IsLogWhole, age_by, age_in}
use Rattle.kssd_levels.specs.declared.kind.JobKind.{JobKind}
use Rattle.kssd_levels.specs.declared.kind.JobKind.TheVariants.{Zero, One}
use Rattle.kssd_levels.specs.declared.levels.Levels.{Levels}
use Rattle.kssd_levels.specs.Levels.{named_blocks, levels_map, infos_of, StandLevels}
use Rattle.kssd_levels.proofs.Staying.{levels_stay}
use Rattle.kssd_log.specs.declared.place.Place.{Place}
use Rattle.kssd_log.specs.Ring.{begun}
use Rattle.kssd_anchor.specs.Places.{SameBehind}
use Rattle.kssd_frames.specs.Same.{as_counted}
use Rattle.kssd_frames.proofs.SameImages.{log_alike}
use Rattle.kssd_frames.proofs.Places.{region_of_log}
use Rattle.kssd_frames.proofs.ShownLaws.{log_rises}
use Rattle.kssd_root.specs.declared.root.Root.{Root}
use Rattle.kssd_root.specs.Standing.{IsAnchored, IsRoot, EndsAt, table_of}
use Rattle.kssd_root.specs.Mapping.{IsKept}
use Rattle.kssd_root.specs.Following.{KeepsNamed, MayFollow, MayBegin, with_table, ShowAlike, SameLog, IsCleanBlock, keys_from}
use Rattle.kssd_root.proofs.Anchored.{age_is}
use Rattle.kssd_root.proofs.Beginning.{clean_log, clean_table, clean_ends, anchor_age_is}
use Rattle.kssd_root.proofs.Naming.{same_runs}
use Rattle.kssd_root.proofs.RunsWritten.{IsAfterRun, after_run, other_stays, run_kept, run_aged, shown_of, table_same}

-- ---- the age of a root

pub root_age : (root : Root) (blocks : ℕ) (image : Image) → IsRoot root blocks image → age_in image ≡ age_by image root.anchor
root_age root blocks image h = age_is root.page root.anchor image h.anchored.newest

-- ---- a root may be named again

pub follows_itself : (root : Root) (blocks : ℕ) (image : Image) → IsRoot root blocks image → MayFollow root.levels root.anchor blocks image
follows_itself root blocks image h =
    let named = h.runs.named in
    let index = h.anchored.index in
    record {
      stand = h.runs.stand;
      good = subst (All (IsGoodRun image)) (sym named) index.runs;
      numbers = subst (λ (infos : List RunInfo). All (λ n. n < root.anchor.next_run + 1) (run_numbers infos)) (sym named) (λ i d lt. let low = index.form.numbers_low i d lt in omega (arith, low));
      all = subst (λ (infos : List RunInfo). keys_from image infos 0 ≤ max_keys_in blocks) (sym named) index.room.levels;
      upper = subst (λ (infos : List RunInfo). keys_from image infos 1 ≤ max_keys_in blocks) (sym named) index.room.upper;
      base = subst (λ (infos : List RunInfo). keys_from image infos 2 ≤ max_keys_in blocks) (sym named) index.room.base;
    }

-- ---- the log of the next anchor

-- the same log
pub begins_same : (page : ℕ) (anchor : Anchor) (levels : Levels) (blocks : ℕ) (image : Image) → IsAnchored page anchor blocks image → without_marks (merged (table_of image anchor) (levels_map levels image)) ≡ shown_by image anchor → MayBegin anchor.log_block anchor.log_seq levels anchor image
begins_same page anchor levels blocks image h shown = record {
  low = h.index.form.log_low;
  high = h.index.form.log_high;
  number = omega (arith, anchor_age_is blocks anchor h.index.form);
  next = omega arith;
  whole = h.index.log;
  shown = shown;
}

empty_whole : (image : Image) (block number : ℕ) → IsCleanBlock block image → number < 2 ^ 64 → IsLogWhole image (log_in image (32 * block) number)
empty_whole image block number clean low =
    subst (λ (w : Walk). IsLogWhole image w) (sym (clean_log image block number clean low)) (record {
      allowed = record { blocks = tt; keys = omega arith };
      ends = ap (seen (32 * block) number) (clean (32 * block) (omega arith));
    })

-- a log that begins in a block whose pages are Erased
pub begins_clean : (anchor : Anchor) (levels : Levels) (block seq : ℕ) (image : Image) → IsCleanBlock block image → 2 ≤ block → block ≤ 19 → seq < 2 ^ 63 → seq ≤ age_by image anchor + 1 → without_marks (levels_map levels image) ≡ shown_by image anchor → MayBegin block seq levels anchor image
begins_clean anchor levels block seq image clean low high fits number shown = record {
  low = low;
  high = high;
  number = number;
  next = omega (arith, ap (λ (w : Walk). w.next) (clean_log image block seq clean (omega arith)), number);
  whole = empty_whole image block seq clean (omega arith);
  shown = ap (λ (es : List Entry). without_marks (merged es (levels_map levels image))) (clean_table image (record anchor { log_block = block; log_seq = seq }) clean (omega arith)) ∙ shown;
}

pub clean_behind : (block : ℕ) (old new : Image) → 2 ≤ block → IsCleanBlock block old → SameBehind old new → IsCleanBlock block new
clean_behind block old new low clean behind q at = behind q (omega (arith, at)) ∙ clean q at

pub clean_beside : (blocks block : ℕ) (named : List ℕ) (old new : Image) → 2 ≤ block → block ≤ 19 → IsCleanBlock block old → KeepsNamed blocks named old new → IsCleanBlock block new
clean_beside blocks block named old new low high clean keeps q at = other_stays blocks named old new q regions.Log keeps (region_of_log blocks (q / 32) (omega (arith, at)) (omega (arith, at))) (λ e. cc) ∙ clean q at

pub record IsEmptyLog (block seq : ℕ) (anchor : Anchor) (image : Image) : Type 0 where
  pub log : EndsAt (begun block seq) anchor image
  pub table : table_of image anchor ≡ []

pub empty_log : (block seq : ℕ) (anchor : Anchor) (image : Image) → IsCleanBlock block image → seq < 2 ^ 63 → anchor.log_block ≡ block → anchor.log_seq ≡ seq → IsEmptyLog block seq anchor image
empty_log block seq anchor image clean fits at number =
    let here : IsCleanBlock anchor.log_block image = subst (λ (b : ℕ). IsCleanBlock b image) (sym at) clean in
    let low : anchor.log_seq < 2 ^ 64 = omega (arith, number) in
    record {
      log = subst (λ (p : Place). EndsAt p anchor image) (λ i. begun (at i) (number i)) (clean_ends image anchor here low);
      table = clean_table image anchor here low;
    }

pub block_is : (ring : Place) (block seq found : ℕ) → found ≡ ring.page / 32 → ring ≡ begun block seq → found ≡ block
block_is ring block seq found e is = omega (arith, e, ap (λ (p : Place). p.page) is)

-- ---- a run was written and installed

pub record IsRun (kind : JobKind) (table : List Entry) (root : Root) (blocks : ℕ) (old : Image) (run : Root) (now : Image) : Type 0 where
  pub root_is : IsRoot root blocks old
  pub same : run ≡ record root { levels = run.levels }
  pub follow : MayFollow run.levels root.anchor blocks now
  pub over : ShowAlike (with_table kind table (levels_map root.levels old)) (levels_map run.levels now)
  pub named : KeepsNamed blocks (named_blocks root.levels) old now

pub run_after : (root : Root) (blocks : ℕ) (old now : Image) → IsRoot root blocks old → KeepsNamed blocks (named_blocks root.levels) old now → IsAfterRun root.page root.anchor blocks old now
run_after root blocks old now h named = after_run root.page root.anchor root.levels blocks old now h.anchored h.runs named

pub run_keeps : (root : Root) (blocks : ℕ) (old now : Image) → IsRoot root blocks old → KeepsNamed blocks (named_blocks root.levels) old now → IsKept blocks old now
run_keeps root blocks old now h named = run_kept root.page root.anchor blocks old now h.anchored (run_after root blocks old now h named)

pub run_age : (root : Root) (blocks : ℕ) (old now : Image) → IsRoot root blocks old → KeepsNamed blocks (named_blocks root.levels) old now → age_in now ≡ age_by old root.anchor
run_age root blocks old now h named = run_aged root.page root.anchor blocks old now (run_after root blocks old now h named)

-- what naming it asks for
pub record IsNameable (kind : JobKind) (table : List Entry) (root : Root) (blocks : ℕ) (old : Image) (run : Root) (now : Image) : Type 0 where
  pub device : run.layout.blocks ≡ blocks
  pub anchored : IsAnchored run.page run.anchor blocks now
  pub follow : MayFollow run.levels run.anchor blocks now
  pub over : ShowAlike (with_table kind table (levels_map root.levels old)) (levels_map run.levels now)
  pub shown_same : shown_by now run.anchor ≡ shown_by old root.anchor
  pub table_same : table_of now run.anchor ≡ table_of old root.anchor
  pub anchor_is : run.anchor ≡ root.anchor
  pub age_is : age_by now run.anchor ≡ age_by old root.anchor

pub nameable : (kind : JobKind) (table : List Entry) (root : Root) (blocks : ℕ) (old : Image) (run : Root) (now : Image) → IsRun kind table root blocks old run now → IsNameable kind table root blocks old run now
nameable kind table root blocks old run now h =
    let after = run_after root blocks old now h.root_is h.named in
    let anchor : run.anchor ≡ root.anchor = ap (λ (r : Root). r.anchor) h.same in
    record {
      device = ap (λ (r : Root). r.layout.blocks) h.same ∙ h.root_is.device;
      anchored = subst (λ (r : Root). IsAnchored r.page r.anchor blocks now) (sym h.same) after.anchored;
      follow = subst (λ (a : Anchor). MayFollow run.levels a blocks now) (sym anchor) h.follow;
      over = h.over;
      shown_same = ap (shown_by now) anchor ∙ after.stays.shown;
      table_same = ap (table_of now) anchor ∙ table_same old now root.anchor after.stays.log;
      anchor_is = anchor;
      age_is = ap (age_by now) anchor ∙ after.age_is;
    }

-- the same is visible through entries that are put over the new levels
pub shown_over : (kind : JobKind) (table newer : List Entry) (root : Root) (blocks : ℕ) (old : Image) (run : Root) (now : Image) → IsNameable kind table root blocks old run now → without_marks (merged newer (with_table kind table (levels_map root.levels old))) ≡ shown_by old root.anchor
    → without_marks (merged newer (levels_map run.levels now)) ≡ shown_by now run.anchor
shown_over kind table newer root blocks old run now h was = h.over newer ∙ was ∙ sym h.shown_same

pub without_table : (kind : JobKind) (table older : List Entry) → (kind ≡ Zero) ⊎ (kind ≡ One) → with_table kind table older ≡ older
without_table kind table older which = elim which [ inl e ↦ ap (λ (k : JobKind). with_table k table older) e | inr e ↦ ap (λ (k : JobKind). with_table k table older) e ]

-- a merge keeps the log
pub merge_begins : (kind : JobKind) (table : List Entry) (root : Root) (blocks : ℕ) (old : Image) (run : Root) (now : Image) → (kind ≡ Zero) ⊎ (kind ≡ One) → IsRoot root blocks old → IsNameable kind table root blocks old run now → MayBegin run.anchor.log_block run.anchor.log_seq run.levels run.anchor now
merge_begins kind table root blocks old run now which was h =
    let log = table_of old root.anchor in
    begins_same run.page run.anchor run.levels blocks now h.anchored
    (ap (λ (es : List Entry). without_marks (merged es (levels_map run.levels now))) h.table_same
    ∙ shown_over kind table log root blocks old run now h (ap (λ (es : List Entry). without_marks (merged log es)) (without_table kind table (levels_map root.levels old) which) ∙ shown_of root.anchor root.levels blocks old log was.runs refl))

pub merge_log : (kind : JobKind) (table : List Entry) (root : Root) (blocks : ℕ) (old : Image) (run : Root) (now : Image) (next : Anchor) (new : Image) → IsRun kind table root blocks old run now → next.log_block ≡ run.anchor.log_block → next.log_seq ≡ run.anchor.log_seq → SameBehind now new → SameLog root.anchor old next new
merge_log kind table root blocks old run now next new h at number behind =
    let anchor : run.anchor ≡ root.anchor = ap (λ (r : Root). r.anchor) h.same in
    record {
      block = at ∙ ap (λ (a : Anchor). a.log_block) anchor;
      seq = number ∙ ap (λ (a : Anchor). a.log_seq) anchor;
      ring = λ q low high. behind q low ∙ other_stays blocks (named_blocks root.levels) old now q regions.Log h.named (region_of_log blocks (q / 32) (omega arith) (omega arith)) (λ e. cc);
    }

-- the map of the levels is the same behind the anchors
levels_behind : (levels : Levels) (next : Root) (blocks device : ℕ) (now new : Image) → StandLevels levels blocks now → IsRoot next device new → next.levels ≡ levels → SameBehind now new → levels_map levels new ≡ levels_map levels now
levels_behind levels next blocks device now new stand h same behind =
    let forms = subst (λ (infos : List RunInfo). All (IsRunForm device) infos) (sym h.runs.named ∙ ap infos_of same) h.anchored.index.form.runs in
    (levels_stay levels blocks now new (same_runs (infos_of levels) device now new forms behind) stand).1

pub merge_over : (kind : JobKind) (table : List Entry) (root : Root) (blocks device : ℕ) (old : Image) (run : Root) (now : Image) (next : Root) (new : Image) → (kind ≡ Zero) ⊎ (kind ≡ One) → IsRun kind table root blocks old run now → IsRoot next device new → next.levels ≡ run.levels → SameBehind now new
    → ShowAlike (levels_map root.levels old) (levels_map next.levels new)
merge_over kind table root blocks device old run now next new which h root_is same behind newer =
    ap (λ (es : List Entry). without_marks (merged newer es)) (ap (λ (l : Levels). levels_map l new) same ∙ levels_behind run.levels next blocks device now new h.follow.stand root_is same behind)
    ∙ h.over newer
    ∙ ap (λ (es : List Entry). without_marks (merged newer es)) (without_table kind table (levels_map root.levels old) which)

pub alike_then : (a b c : List Entry) → ShowAlike a b → ShowAlike b c → ShowAlike a c
alike_then a b c first more newer = more newer ∙ first newer

-- ---- the table of the whole log

pub table_rises : (root : Root) (image : Image) (table : List Entry) → table ≡ table_of image root.anchor → is_rising table ≡ true
table_rises root image table is = ap is_rising is ∙ log_rises image (32 * root.anchor.log_block) root.anchor.log_seq

pub table_keys : (root : Root) (blocks : ℕ) (image : Image) (table : List Entry) → IsRoot root blocks image → table ≡ table_of image root.anchor → length (without_marks (merged table (levels_map root.levels image))) ≤ max_keys_in blocks
table_keys root blocks image table h is = omega (arith, ap (λ (es : List Entry). length es) (shown_of root.anchor root.levels blocks image table h.runs is), h.anchored.index.room.keys)

-- ---- the same log

pub log_still : (anchor : Anchor) (image : Image) → SameLog anchor image anchor image
log_still anchor image = record { block = refl; seq = refl; ring = λ q low high. refl }

pub log_then : (a b c : Anchor) (old mid new : Image) → SameLog a old b mid → SameLog b mid c new → SameLog a old c new
log_then a b c old mid new first more = record {
  block = more.block ∙ first.block;
  seq = more.seq ∙ first.seq;
  ring = λ q low high. more.ring q low high ∙ first.ring q low high;
}

pub log_same : (page : ℕ) (anchor next : Anchor) (blocks : ℕ) (old new : Image) → IsAnchored page anchor blocks old → SameLog anchor old next new → log_of new next ≡ log_of old anchor
log_same page anchor next blocks old new h same =
    (λ i. log_in new (32 * same.block i) (same.seq i))
    ∙ log_alike old new (32 * anchor.log_block) anchor.log_seq (λ q low high. ap as_counted (same.ring q low high)) (omega (arith, h.index.form.log_low)) (omega (arith, h.index.form.log_high))

pub table_still : (page : ℕ) (anchor next : Anchor) (blocks : ℕ) (old new : Image) → IsAnchored page anchor blocks old → SameLog anchor old next new → table_of new next ≡ table_of old anchor
unfolding log_map
table_still page anchor next blocks old new h same = ap (λ (w : Walk). merged (entries_of (groups_from [] w.pages)) []) (log_same page anchor next blocks old new h same)
