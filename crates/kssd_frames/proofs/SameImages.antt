-- Images that are alike where it counts.
use Rattle.std.proofs.Common.{◌≡◌, ◌∙◌, ℕ, zero, suc, ◌+◌, ◌*◌, ◌/◌, ◌^◌, ◌<◌, ◌≤◌, Bool, true, false, cond, not, ◌&&◌, eqb, leb, max, ◌-◌, List, [], ◌∷◌, ◌++◌, length, map, Option, Some, None, refl, sym, ap, subst, arith}
use Rattle.std.specs.Prelude.{unwrap_or, is_some, filter}
use Rattle.std.specs.List.{All, list_all, list_any}
use Rattle.std.specs.FinMap as objects
use Rattle.std.proofs.lemmas.List.Elements.{All-cons, All-head, All-tail}
use Rattle.kv_nand.specs.Flash.{Image, PageState, Erased, Whole, Cut}
use Rattle.kssd_layout.specs.Numbers.{max_keys_in, max_pages_in}
use Rattle.kssd_entry.specs.declared.entry.Entry.{Entry}
use Rattle.kssd_entry.specs.declared.entry.Entry.TheVariants.{Put, At, Gone}
use Rattle.kssd_model.specs.declared.runs.RunInfo.{RunInfo}
use Rattle.kssd_model.specs.declared.anchor.Anchor.{Anchor}
use Rattle.kssd_model.specs.declared.anchor.Found.{Found}
use Rattle.kssd_model.specs.Anchors.{found_at, better, newest_of, newest_in}
use Rattle.kssd_model.specs.Rising.{is_gone, is_rising, merged}
use Rattle.kssd_model.specs.RunPages.{run_page, run_page_in, page_of_run, page_entries, joined, run_entries, IsGoodRun}
use Rattle.kssd_model.specs.Groups.{LogPage, LogSeen, Ends, Broken, Holds, seen, Walk, stop, with_first, walk, log_in, next_place, groups_from}
use Rattle.kssd_model.proofs.GroupsPaths.{behind}
use Rattle.kssd_image.specs.ValuePages.{first_bytes, has_value}
use Rattle.kssd_image.specs.Stages.{anchor_of, the_anchor, runs_map, entries_of, log_map, without_marks, merged_by, shown_by, shown_in, object_in, objects_in}
use Rattle.kssd_image.specs.AnchorForm.{anchor_age}
use Rattle.kssd_image.specs.Whole.{log_of, IsLogWhole, page_named, pages_named, IsIndexOf, is_value_block, has_its_value, AreValuesWhole, IsWhole, age_of, age_in}
use Rattle.kssd_frames.specs.Same.{as_counted, IsSameAt, IsSameIndex, AreSameValues, StaysBy, Stays}

-- ---- one page

counts_as : {A : Type 0} (f : PageState → A) → f Cut ≡ f Erased → (s : PageState) → f s ≡ f (as_counted s)
counts_as f cut Erased = refl
counts_as f cut (Whole bytes) = refl
counts_as f cut Cut = cut

-- what doesn't tell a page that was cut from one that is Erased
pub through : {A : Type 0} (f : PageState → A) → f Cut ≡ f Erased → (s t : PageState) → as_counted s ≡ as_counted t → f s ≡ f t
through f cut s t same = counts_as f cut s ∙ ap f same ∙ sym (counts_as f cut t)

-- ---- the newest anchor

newest_alike : (old new : Image) (n : ℕ) → ((page : ℕ) → page < n → IsSameAt old new page) → newest_of new n ≡ newest_of old n
unfolding newest_of
newest_alike old new zero same = refl
newest_alike old new (suc n) same =
    let here = through (found_at n) refl (new n) (old n) (same n (omega arith)) in
    let before = newest_alike old new n (λ page lt. same page (omega arith)) in
    λ i. better (before i) (here i)

pub newest_in_alike : (old new : Image) → ((page : ℕ) → page < 64 → IsSameAt old new page) → newest_in new ≡ newest_in old
newest_in_alike old new same = newest_alike old new 64 same

-- ---- the log

step_of : ℕ → ℕ → LogSeen → (ℕ → ℕ → Walk) → Walk
step_of page number s go = elim s [ Ends ↦ stop page number | Broken ↦ stop page number | Holds x ↦ with_first x (go (next_place page x) (number + 1)) ]

walk_alike : (most : ℕ) (old new : Image) (page number : ℕ) → ((q : ℕ) → 64 ≤ q → q < 640 → IsSameAt old new q) → 64 ≤ page → page < 640 → walk most new page number ≡ walk most old page number
unfolding walk step_of
walk_alike zero old new page number same low high = refl
walk_alike (suc most) old new page number same low high =
    ap (λ (s : LogSeen). step_of page number s (walk most new)) (through (seen page number) refl (new page) (old page) (same page low high))
    ∙ by (seen page number (old page)) refl (λ x lo hi. walk_alike most old new (next_place page x) (number + 1) same lo hi)
  where
    by : (s : LogSeen) → seen page number (old page) ≡ s → ((x : LogPage) → 64 ≤ next_place page x → next_place page x < 640 → walk most new (next_place page x) (number + 1) ≡ walk most old (next_place page x) (number + 1))
        → step_of page number s (walk most new) ≡ step_of page number s (walk most old)
    by Ends e rest = refl
    by Broken e rest = refl
    by (Holds x) e rest = let b = behind page number (old page) x e low high in ap (with_first x) (rest x b.0 b.1)

walk_ends_in_ring : (most : ℕ) (image : Image) (page number : ℕ) → 64 ≤ page → page < 640 → (64 ≤ (walk most image page number).end) × ((walk most image page number).end < 640)
unfolding walk step_of
walk_ends_in_ring zero image page number low high = (low, high)
walk_ends_in_ring (suc most) image page number low high = by (seen page number (image page)) refl (λ x. walk_ends_in_ring most image (next_place page x) (number + 1))
  where
    by : (s : LogSeen) → seen page number (image page) ≡ s → ((x : LogPage) → 64 ≤ next_place page x → next_place page x < 640 → (64 ≤ (walk most image (next_place page x) (number + 1)).end) × ((walk most image (next_place page x) (number + 1)).end < 640))
        → (64 ≤ (step_of page number s (walk most image)).end) × ((step_of page number s (walk most image)).end < 640)
    by Ends e rest = (low, high)
    by Broken e rest = (low, high)
    by (Holds x) e rest = let b = behind page number (image page) x e low high in rest x b.0 b.1

pub log_alike : (old new : Image) (page number : ℕ) → ((q : ℕ) → 64 ≤ q → q < 640 → IsSameAt old new q) → 64 ≤ page → page < 640 → log_in new page number ≡ log_in old page number
unfolding log_in
log_alike old new page number same low high = walk_alike (2 ^ 64) old new page number same low high

pub log_ends_in_ring : (image : Image) (page number : ℕ) → 64 ≤ page → page < 640 → (64 ≤ (log_in image page number).end) × ((log_in image page number).end < 640)
unfolding log_in
log_ends_in_ring image page number low high = walk_ends_in_ring (2 ^ 64) image page number low high

log_whole_alike : (old new : Image) (page number : ℕ) → ((q : ℕ) → 64 ≤ q → q < 640 → IsSameAt old new q) → 64 ≤ page → page < 640 → IsLogWhole old (log_in old page number) → IsLogWhole new (log_in new page number)
log_whole_alike old new page number same low high whole =
    let end = log_ends_in_ring old page number low high in
    let log = log_in old page number in
    subst (IsLogWhole new) (sym (log_alike old new page number same low high)) (record {
      allowed = whole.allowed;
      ends = through (seen log.end log.next) refl (new log.end) (old log.end) (same log.end end.0 end.1) ∙ whole.ends;
    })

-- ---- runs

abbrev pub IsSameRun : Image → Image → RunInfo → Type 0
IsSameRun old new run = (i : ℕ) → i < run.pages → IsSameAt old new (run_page run.blocks i)

page_alike : (old new : Image) (run : RunInfo) (i : ℕ) → IsSameRun old new run → i < run.pages → page_of_run new run.number run.blocks i ≡ page_of_run old run.number run.blocks i
page_alike old new run i same lt = through (run_page_in run.number i) refl (new (run_page run.blocks i)) (old (run_page run.blocks i)) (same i lt)

joined_alike : (f g : ℕ → List Entry) (n : ℕ) → ((i : ℕ) → i < n → f i ≡ g i) → joined f n ≡ joined g n
joined_alike f g zero same = refl
joined_alike f g (suc n) same =
    let here = same n (omega arith) in
    let before = joined_alike f g n (λ i lt. same i (omega arith)) in
    λ t. before t ++ here t

first_pages_alike : (old new : Image) (run : RunInfo) (n : ℕ) → IsSameRun old new run → n ≤ run.pages → joined (page_entries new run.number run.blocks) n ≡ joined (page_entries old run.number run.blocks) n
first_pages_alike old new run n same le =
    joined_alike (page_entries new run.number run.blocks) (page_entries old run.number run.blocks) n (λ i lt. ap (λ (o : Option (List Entry)). unwrap_or o []) (page_alike old new run i same (omega arith)))

pub entries_alike : (old new : Image) (run : RunInfo) → IsSameRun old new run → run_entries new run ≡ run_entries old run
entries_alike old new run same = first_pages_alike old new run run.pages same (omega arith)

pub good_alike : (old new : Image) (run : RunInfo) → IsSameRun old new run → IsGoodRun old run → IsGoodRun new run
good_alike old new run same good = record {
  pages = λ i lt.
      let page = page_alike old new run i same lt in
      let front = first_pages_alike old new run (i + 1) same (omega arith) in
      (λ t. is_some (page t) && (is_rising (front t) && not (eqb run.level 2 && list_any is_gone (unwrap_or (page t) [])))) ∙ good.pages i lt;
  count = ap length (entries_alike old new run same) ∙ good.count;
}

pub runs_alike : (old new : Image) (runs : List RunInfo) → All (IsSameRun old new) runs → runs_map new runs ≡ runs_map old runs
runs_alike old new [] all = refl
runs_alike old new (run ∷ runs) all =
    let here = entries_alike old new run (All-head (IsSameRun old new) run runs all) in
    let rest = runs_alike old new runs (All-tail (IsSameRun old new) run runs all) in
    λ i. merged (here i) (rest i)

all_filter : {X : Type 0} (P : X → Type 0) (p : X → Bool) (xs : List X) → All P xs → All P (filter p xs)
all_filter P p [] all = all
all_filter P p (x ∷ xs) all = by (p x) (all_filter P p xs (All-tail P x xs all))
  where
    by : (b : Bool) → All P (filter p xs) → All P (cond b (x ∷ filter p xs) (filter p xs))
    by true rest = All-cons P x (filter p xs) (All-head P x xs all) rest
    by false rest = rest

all_good : (old new : Image) (runs : List RunInfo) → All (IsSameRun old new) runs → All (IsGoodRun old) runs → All (IsGoodRun new) runs
all_good old new runs same good = λ k d lt. good_alike old new _ (same k d lt) (good k d lt)

-- ---- the index

-- an index whose runs are the same, with a whole log and room for what it shows
pub index_from : (blocks : ℕ) (old new : Image) (anchor : Anchor) → IsIndexOf blocks old anchor → All (IsSameRun old new) anchor.runs → IsLogWhole new (log_of new anchor)
    → length (shown_by new anchor) ≤ max_keys_in blocks → length (pages_named (shown_by new anchor)) ≤ max_pages_in blocks → IsIndexOf blocks new anchor
index_from blocks old new anchor index same log keys pages =
    let count = λ (least : ℕ). ap (λ (es : List Entry). length (without_marks es)) (runs_alike old new (filter (λ run. leb least run.level) anchor.runs) (all_filter (IsSameRun old new) (λ run. leb least run.level) anchor.runs same)) in
    record {
      form = index.form;
      runs = all_good old new anchor.runs same index.runs;
      log = log;
      room = record {
        keys = keys;
        levels = omega (arith, count 0, index.room.levels);
        upper = omega (arith, count 1, index.room.upper);
        base = omega (arith, count 2, index.room.base);
        pages = pages;
      };
    }

pub index_stays : (blocks : ℕ) (old new : Image) (anchor : Anchor) → IsIndexOf blocks old anchor → IsSameIndex old new anchor → StaysBy blocks old new anchor
unfolding log_map merged_by shown_by
index_stays blocks old new anchor index same =
    let low : 64 ≤ 32 * anchor.log_block = omega (arith, index.form.log_low) in
    let high : 32 * anchor.log_block < 640 = omega (arith, index.form.log_high) in
    let log = log_alike old new (32 * anchor.log_block) anchor.log_seq same.ring low high in
    let runs = runs_alike old new anchor.runs same.runs in
    let all : merged_by new anchor ≡ merged_by old anchor = λ i. merged (merged (entries_of (groups_from [] (log i).pages)) []) (runs i) in
    let shown : shown_by new anchor ≡ shown_by old anchor = ap without_marks all in
    let whole = log_whole_alike old new (32 * anchor.log_block) anchor.log_seq same.ring low high index.log in
    record {
      log = log;
      merged = all;
      shown = shown;
      index = index_from blocks old new anchor index same.runs whole (omega (arith, ap length shown, index.room.keys)) (omega (arith, ap (λ es. length (pages_named es)) shown, index.room.pages));
    }

-- ---- values

all_rest : (P : ℕ → Type 0) (xs ys : List ℕ) → All P (xs ++ ys) → All P ys
all_rest P [] ys all = all
all_rest P (x ∷ xs) ys all = all_rest P xs ys (All-tail P x (xs ++ ys) all)

pub objects_alike : (old new : Image) (entries : List Entry) → AreSameValues old new entries → map (object_in new) entries ≡ map (object_in old) entries
objects_alike old new [] same = refl
objects_alike old new (e ∷ es) same =
    let here = by e same in
    let rest = objects_alike old new es (all_rest (IsSameAt old new) (page_named e) (pages_named es) same) in
    λ i. here i ∷ rest i
  where
    by : (e : Entry) → All (IsSameAt old new) (page_named e ++ pages_named es) → object_in new e ≡ object_in old e
    by (Put k v) all = refl
    by (Gone k) all = refl
    by (At k page size) all = ap (λ (v : List ℕ). (k, v)) (through (first_bytes size) refl (new page) (old page) (All-head (IsSameAt old new) page (pages_named es) all))

pub values_alike : (blocks : ℕ) (old new : Image) (entries : List Entry) → AreSameValues old new entries → list_all (has_its_value blocks new) entries ≡ list_all (has_its_value blocks old) entries
values_alike blocks old new [] same = refl
values_alike blocks old new (e ∷ es) same =
    let here = by e same in
    let rest = values_alike blocks old new es (all_rest (IsSameAt old new) (page_named e) (pages_named es) same) in
    λ i. here i && rest i
  where
    by : (e : Entry) → All (IsSameAt old new) (page_named e ++ pages_named es) → has_its_value blocks new e ≡ has_its_value blocks old e
    by (Put k v) all = refl
    by (Gone k) all = refl
    by (At k page size) all = ap (λ b. is_value_block blocks (page / 32) && b) (through (has_value k size) refl (new page) (old page) (All-head (IsSameAt old new) page (pages_named es) all))

pub values_stay : (blocks : ℕ) (old new : Image) (entries : List Entry) → AreSameValues old new entries → AreValuesWhole blocks old entries → AreValuesWhole blocks new entries
values_stay blocks old new entries same whole = record { pages = values_alike blocks old new entries same ∙ whole.pages; spare = whole.spare }

-- ---- the image

-- the objects follow from the visible entries and their values
pub objects_follow : (old new : Image) → shown_in new ≡ shown_in old → AreSameValues old new (shown_in old) → objects_in new ≡ objects_in old
unfolding objects_in
objects_follow old new shown same = ap objects.from_sorted (ap (map (object_in new)) shown ∙ objects_alike old new (shown_in old) same)

-- a mount takes an image with these parts
pub whole_from : (blocks : ℕ) (old new : Image) → is_some (newest_in new) ≡ true → IsIndexOf blocks new (the_anchor new) → shown_in new ≡ shown_in old → AreSameValues old new (shown_in old) → AreValuesWhole blocks old (shown_in old) → IsWhole blocks new
whole_from blocks old new found index shown same values =
    record { found = found; index = index; values = subst (AreValuesWhole blocks new) (sym shown) (values_stay blocks old new (shown_in old) same values) }

pub image_stays : (blocks : ℕ) (old new : Image) → IsWhole blocks old → newest_in new ≡ newest_in old → IsSameIndex old new (the_anchor old) → AreSameValues old new (shown_in old) → Stays blocks old new (age_in old)
unfolding the_anchor shown_in age_in
image_stays blocks old new whole newest index values =
    let anchor : the_anchor new ≡ the_anchor old = ap anchor_of newest in
    let stays = index_stays blocks old new (the_anchor old) whole.index index in
    let shown : shown_in new ≡ shown_in old = ap (shown_by new) anchor ∙ stays.shown in
    record {
      newest = newest;
      merged = ap (merged_by new) anchor ∙ stays.merged;
      keeps = record {
        shown = shown;
        objects = objects_follow old new shown values;
        whole = whole_from blocks old new (ap is_some newest ∙ whole.found) (subst (IsIndexOf blocks new) (sym anchor) stays.index) shown values whole.values;
      };
      age_is = ap (age_of new) newest ∙ by stays.log (newest_in old) refl;
    }
  where
    by : log_of new (the_anchor old) ≡ log_of old (the_anchor old) → (o : Option Found) → newest_in old ≡ o → age_of new o ≡ age_of old o
    by log None e = refl
    by log (Some f) e =
        let same = subst (λ a. log_of new a ≡ log_of old a) (ap anchor_of e) log in
        λ i. max (anchor_age f.anchor) ((same i).next - 1)

pub cut_counts_for_nothing : (blocks : ℕ) (old new : Image) → IsWhole blocks old → ((page : ℕ) → IsSameAt old new page) → Stays blocks old new (age_in old)
cut_counts_for_nothing blocks old new whole same =
    image_stays blocks old new whole (newest_in_alike old new (λ page lt. same page)) (record { ring = λ page low high. same page; runs = λ k d lt i less. same _ }) (λ k d lt. same _)
