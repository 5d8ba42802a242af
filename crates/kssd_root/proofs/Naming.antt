-- The anchor behind the newest names levels and a log.
use Rattle.std.proofs.Common.{true, false, ◌≡◌, ◌∙◌, ℕ, ◌+◌, ◌-◌, ◌*◌, ◌/◌, ◌==◌, ◌<◌, ◌≤◌, ◌^◌, max, Bool, cond, List, [], ◌∷◌, ◌++◌, length, sum_by, Option, Some, refl, sym, ap, subst, arith, inl, inr, length-append}
use Rattle.std.proofs.lemmas.List.{length-map}
use Rattle.std.proofs.lemmas.List.Sums.{sum_by-cons}
use Rattle.std.specs.Option.{IsSomeAnd}
use Rattle.std.specs.List.{All}
use Rattle.std.proofs.lemmas.List.Elements.{All-head, All-tail}
use Rattle.kv_nand.specs.Flash.{Image, Flash}
use Rattle.kssd_layout.specs.declared.layout.Layout.{Layout}
use Rattle.kssd_layout.specs.Numbers.{max_keys_in}
use Rattle.kssd_entry.specs.declared.entry.Entry.{Entry}
use Rattle.kssd_model.specs.declared.anchor.Anchor.{Anchor}
use Rattle.kssd_model.specs.declared.anchor.Found.{Found}
use Rattle.kssd_model.specs.declared.runs.RunInfo.{RunInfo}
use Rattle.kssd_model.specs.AnchorSpelling.{HasSpelling, run_size}
use Rattle.kssd_model.specs.Anchors.{newest_in}
use Rattle.kssd_model.specs.Groups.{Walk}
use Rattle.kssd_image.specs.Stages.{shown_by}
use Rattle.kssd_image.specs.AnchorForm.{IsAnchorForm, IsRunForm, most_entries, blocks_of, run_numbers, anchor_age}
use Rattle.kssd_image.specs.Whole.{pages_named, IsIndexOf, age_by, age_in}
use Rattle.kssd_merge.specs.Same.{AreSameIn}
use Rattle.kssd_run.specs.Run.{run_info}
use Rattle.kssd_levels.specs.declared.levels.Levels.{Levels}
use Rattle.kssd_levels.specs.Levels.{infos_of, device_of, all_runs, MayName, StandLevels}
use Rattle.kssd_levels.proofs.Staying.{levels_stay}
use Rattle.kssd_anchor.specs.Places.{SameBehind, IsOldOrGiven, CanFollow}
use Rattle.kssd_frames.proofs.Places.{run_is_behind}
use Rattle.kssd_root.specs.Standing.{IsAnchored, IsRoot}
use Rattle.kssd_root.specs.Mapping.{SameValues, IsKept}
use Rattle.kssd_root.specs.Following.{following, MayFollow, MayBegin}
use Rattle.kssd_root.proofs.Anchored.{age_is}
use Rattle.kssd_root.proofs.Beginning.{anchor_age_is}
use Rattle.kssd_root.proofs.Kept.{kept_by, kept_as, behind_stays}
use Rattle.kssd_root.proofs.Runs.{named_is_run}
use Rattle.kssd_root.proofs.RunsWritten.{merged_def}

-- ---- how long an anchor is

most_few : (device level : ℕ) → device ≤ 2048 → most_entries device level ≤ 68544
most_few device level most = by (level == 0) (level == 1)
  where
    by : (a b : Bool) → cond a 2048 (cond b 12288 (max_keys_in device)) ≤ 68544
    by true b = omega arith
    by false true = omega arith
    by false false = omega arith

blocks_few : (device : ℕ) (info : RunInfo) → device ≤ 2048 → IsRunForm device info → length info.blocks ≤ 238
blocks_few device info most form = omega (arith, form.block_count, form.pages_most, form.entries_most, most_few device info.level most)

size_few : (device : ℕ) (infos : List RunInfo) → device ≤ 2048 → All (IsRunForm device) infos → sum_by run_size infos ≤ 495 * length infos
size_few device [] most forms = omega arith
size_few device (r ∷ rs) most forms =
    omega (arith, sum_by-cons run_size r rs, blocks_few device r most (All-head (IsRunForm device) r rs forms), size_few device rs most (All-tail (IsRunForm device) r rs forms))

few_runs : (levels : Levels) → length (infos_of levels) ≤ 6
few_runs levels =
    omega (arith, length-map (all_runs levels) run_info, length-append levels.zero (levels.one ++ levels.base), length-append levels.one levels.base, levels.sound.zero_few, levels.sound.one_few, levels.sound.base_few)

low_numbers : (n : ℕ) (infos : List RunInfo) → n ≤ 2 ^ 63 → All (λ number. number < n) (run_numbers infos) → All (λ run. run.number < 2 ^ 63) infos
low_numbers n [] low all = Rattle.std.proofs.lemmas.List.Elements.All-nil (λ run. run.number < 2 ^ 63)
low_numbers n (r ∷ rs) low all =
    let first = All-head (λ number. number < n) r.number (run_numbers rs) all in
    Rattle.std.proofs.lemmas.List.Elements.All-cons (λ run. run.number < 2 ^ 63) r rs (omega (arith, first, low)) (low_numbers n rs low (All-tail (λ number. number < n) r.number (run_numbers rs) all))

-- ---- the anchor before it is written

pub record IsReady (page : ℕ) (anchor next : Anchor) (levels : Levels) (block seq blocks : ℕ) (image : Image) : Type 0 where
  pub anchored : IsAnchored page anchor blocks image
  pub follow : MayFollow levels anchor blocks image
  pub begin : MayBegin block seq levels anchor image
  pub named : MayName (device_of levels) (infos_of levels)
  pub is : next ≡ following anchor (infos_of levels) block seq
  pub low : age_by image anchor + 2 ^ 19 ≤ 2 ^ 63

forms_of : (levels : Levels) (blocks : ℕ) (image : Image) → StandLevels levels blocks image → MayName (device_of levels) (infos_of levels) → All (IsRunForm blocks) (infos_of levels)
forms_of levels blocks image stand named = subst (λ (d : ℕ). All (IsRunForm d) (infos_of levels)) (sym stand.device_is) named.runs

behind_shown : (anchor : Anchor) (levels : Levels) (block seq : ℕ) (image : Image) → MayBegin block seq levels anchor image → shown_by image (following anchor (infos_of levels) block seq) ≡ shown_by image anchor
behind_shown anchor levels block seq image begin = merged_def image (following anchor (infos_of levels) block seq) ∙ begin.shown

behind_form : (page : ℕ) (anchor next : Anchor) (levels : Levels) (block seq blocks : ℕ) (image : Image) → IsReady page anchor next levels block seq blocks image → IsAnchorForm blocks (following anchor (infos_of levels) block seq)
behind_form page anchor next levels block seq blocks image h = record {
  device = h.anchored.index.form.device;
  log_low = h.begin.low;
  log_high = h.begin.high;
  levels = h.named.levels;
  runs = forms_of levels blocks image h.follow.stand h.named;
  blocks_differ = h.named.blocks_differ;
  numbers_differ = h.named.numbers_differ;
  numbers_low = h.follow.numbers;
}

behind_index : (page : ℕ) (anchor next : Anchor) (levels : Levels) (block seq blocks : ℕ) (image : Image) → IsReady page anchor next levels block seq blocks image → IsIndexOf blocks image (following anchor (infos_of levels) block seq)
behind_index page anchor next levels block seq blocks image h =
    let shown = behind_shown anchor levels block seq image h.begin in
    let room = h.anchored.index.room in
    record {
      form = behind_form page anchor next levels block seq blocks image h;
      runs = h.follow.good;
      log = h.begin.whole;
      room = record {
        keys = omega (arith, ap (λ (es : List Entry). length es) shown, room.keys);
        levels = h.follow.all;
        upper = h.follow.upper;
        base = h.follow.base;
        pages = omega (arith, ap (λ (es : List Entry). length (pages_named es)) shown, room.pages);
      };
    }

behind_age : (page : ℕ) (anchor next : Anchor) (levels : Levels) (block seq blocks : ℕ) (image : Image) → IsReady page anchor next levels block seq blocks image → age_by image (following anchor (infos_of levels) block seq) ≤ age_by image anchor + 1
behind_age page anchor next levels block seq blocks image h =
    let form = behind_form page anchor next levels block seq blocks image h in
    omega (arith, anchor_age_is blocks (following anchor (infos_of levels) block seq) form, anchor_age_is blocks anchor h.anchored.index.form, h.begin.number, h.begin.next)

pub ready_index : (page : ℕ) (anchor next : Anchor) (levels : Levels) (block seq blocks : ℕ) (image : Image) → IsReady page anchor next levels block seq blocks image → IsIndexOf blocks image next
ready_index page anchor next levels block seq blocks image h = subst (IsIndexOf blocks image) (sym h.is) (behind_index page anchor next levels block seq blocks image h)

ready_shown : (page : ℕ) (anchor next : Anchor) (levels : Levels) (block seq blocks : ℕ) (image : Image) → IsReady page anchor next levels block seq blocks image → shown_by image next ≡ shown_by image anchor
ready_shown page anchor next levels block seq blocks image h = ap (shown_by image) h.is ∙ behind_shown anchor levels block seq image h.begin

ready_age : (page : ℕ) (anchor next : Anchor) (levels : Levels) (block seq blocks : ℕ) (image : Image) → IsReady page anchor next levels block seq blocks image → age_by image next ≤ age_by image anchor + 1
ready_age page anchor next levels block seq blocks image h = subst (λ (a : Anchor). age_by image a ≤ age_by image anchor + 1) (sym h.is) (behind_age page anchor next levels block seq blocks image h)

pub spelled : (page : ℕ) (anchor next : Anchor) (levels : Levels) (block seq blocks : ℕ) (image : Image) → blocks ≤ 2048 → IsReady page anchor next levels block seq blocks image → HasSpelling next
spelled page anchor next levels block seq blocks image most h =
    let age = anchor_age_is blocks anchor h.anchored.index.form in
    subst HasSpelling (sym h.is) (record {
      number = omega (arith, age, h.low);
      next_run = omega (arith, age, h.low);
      log_seq = omega (arith, h.begin.number, h.low);
      runs = low_numbers (anchor.next_run + 1) (infos_of levels) (omega (arith, age, h.low)) h.follow.numbers;
      room = omega (arith, size_few blocks (infos_of levels) most (forms_of levels blocks image h.follow.stand h.named), few_runs levels);
    })

pub can_follow : (page : ℕ) (anchor next : Anchor) (levels : Levels) (block seq blocks : ℕ) (image : Image) → IsReady page anchor next levels block seq blocks image → CanFollow image (Some page) next
can_follow page anchor next levels block seq blocks image h =
    let number : next.number ≡ anchor.number + 1 = ap (λ (a : Anchor). a.number) h.is in
    subst (λ (o : Option Found). IsSomeAnd o (λ found. (found.page ≡ page) × (found.anchor.number < next.number))) (sym h.anchored.newest) (refl, omega (arith, number))

-- ---- it is written or not

pub record IsKeptAt (blocks : ℕ) (old new : Image) (age : ℕ) : Type 0 where
  pub kept : IsKept blocks old new
  pub aged : age_in new ≤ age

behind_values : (blocks : ℕ) (old new : Image) → SameBehind old new → SameValues blocks old new
behind_values blocks old new behind q le = behind q (omega arith)

unwritten : (page : ℕ) (anchor next : Anchor) (levels : Levels) (block seq blocks : ℕ) (old new : Image) → IsReady page anchor next levels block seq blocks old → newest_in new ≡ newest_in old → SameBehind old new → IsKeptAt blocks old new (age_by old anchor + 1)
unwritten page anchor next levels block seq blocks old new h newest behind =
    let stays = behind_stays blocks old new anchor h.anchored.index behind in
    let is : newest_in new ≡ Some (record { page = page; anchor = anchor }) = newest ∙ h.anchored.newest in
    record {
      kept = kept_by page anchor blocks old new h.anchored (record { newest = is; index = stays.index }) stays.shown (behind_values blocks old new behind);
      aged = omega (arith, age_is page anchor new is, ap (λ (w : Walk). max (anchor_age anchor) (w.next - 1)) stays.log);
    }

pub ready_kept : (page : ℕ) (anchor next : Anchor) (levels : Levels) (block seq blocks : ℕ) (image : Image) → IsReady page anchor next levels block seq blocks image → IsKeptAt blocks image image (age_by image anchor + 1)
ready_kept page anchor next levels block seq blocks image h = unwritten page anchor next levels block seq blocks image image h refl (λ q le. refl)

pub record IsGiven (place : ℕ) (next : Anchor) (levels : Levels) (blocks : ℕ) (old new : Image) (age : ℕ) : Type 0 where
  pub anchored : IsAnchored place next blocks new
  pub stand : StandLevels levels blocks new
  pub kept : IsKept blocks old new
  pub aged : age_in new ≤ age

pub same_runs : (infos : List RunInfo) (blocks : ℕ) (old new : Image) → All (IsRunForm blocks) infos → SameBehind old new → AreSameIn (blocks_of infos) old new
same_runs infos blocks old new forms behind page named =
    let low = run_is_behind blocks (page / 32) (named_is_run blocks (page / 32) infos forms named) in
    behind page (omega (arith, low))

pub given : (page place : ℕ) (anchor next : Anchor) (levels : Levels) (block seq blocks : ℕ) (old new : Image) → IsReady page anchor next levels block seq blocks old → newest_in new ≡ Some (record { page = place; anchor = next }) → SameBehind old new → IsGiven place next levels blocks old new (age_by old anchor + 1)
given page place anchor next levels block seq blocks old new h newest behind =
    let stays = behind_stays blocks old new next (ready_index page anchor next levels block seq blocks old h) behind in
    let now : IsAnchored place next blocks new = record { newest = newest; index = stays.index } in
    record {
      anchored = now;
      stand = (levels_stay levels blocks old new (same_runs (infos_of levels) blocks old new (forms_of levels blocks old h.follow.stand h.named) behind) h.follow.stand).0;
      kept = kept_as page place anchor next blocks old new h.anchored now (stays.shown ∙ ready_shown page anchor next levels block seq blocks old h) (behind_values blocks old new behind);
      aged = omega (arith, age_is place next new newest, ap (λ (w : Walk). max (anchor_age next) (w.next - 1)) stays.log, ready_age page anchor next levels block seq blocks old h);
    }

pub old_or_given : (page : ℕ) (anchor next : Anchor) (levels : Levels) (block seq blocks : ℕ) (old new : Image) → IsReady page anchor next levels block seq blocks old → IsOldOrGiven old next new → SameBehind old new → IsKeptAt blocks old new (age_by old anchor + 1)
old_or_given page anchor next levels block seq blocks old new h which behind = elim which [
  | inl same ↦ unwritten page anchor next levels block seq blocks old new h same behind
  | inr new_is ↦ let n = given page new_is.0 anchor next levels block seq blocks old new h new_is.1 behind in record { kept = n.kept; aged = n.aged }
]

-- the root behind it
pub new_root : (page place : ℕ) (anchor next : Anchor) (levels : Levels) (block seq : ℕ) (layout : Layout) (old : Image) (new : Flash) → IsReady page anchor next levels block seq layout.blocks old → newest_in new.image ≡ Some (record { page = place; anchor = next }) → SameBehind old new.image → new.blocks ≡ layout.blocks
    → IsRoot (record { layout = layout; page = place; anchor = next; levels = levels }) new.blocks new.image
new_root page place anchor next levels block seq layout old new h newest behind same =
    let n = given page place anchor next levels block seq layout.blocks old new.image h newest behind in
    subst (λ (b : ℕ). IsRoot (record { layout = layout; page = place; anchor = next; levels = levels }) b new.image) (sym same) (record {
      device = refl;
      anchored = n.anchored;
      runs = record { named = sym (ap (λ (a : Anchor). a.runs) h.is); stand = n.stand };
    })
