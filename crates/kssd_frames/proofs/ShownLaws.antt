-- The visible entries of an image and its objects.
use Rattle.std.proofs.Common.{◌≡◌, ◌∙◌, ℕ, zero, suc, ◌+◌, ◌*◌, ◌/◌, ◌^◌, Bool, true, false, cond, not, ◌&&◌, eqb, ltb, List, [], ◌∷◌, ◌++◌, length, map, T, Some, None, Result, Ok, Err, refl, sym, ap, subst, arith, append-nil, append_assoc, length-append}
use Rattle.std.specs.Prelude.{unwrap_or}
use Rattle.std.specs.Option.{option_map}
use Rattle.std.specs.List.{AllByRecursion, IsDistinct, list_all, count_by}
use Rattle.std.specs.Ordering.{is_lt, is_eq, eq_by_cmp, ordering_reverse}
use Rattle.std.specs.FinMap as objects
use Rattle.std.specs.FinMap.Entries.{below_all, is_sorted}
use Rattle.std.proofs.lemmas.Bool.{and_parts, lt-ltb, le-ltb, ne_eqb}
use Rattle.std.proofs.lemmas.Cmp.{nat_list_cmp_total, tied_itself}
use Rattle.std.proofs.lemmas.List.{length-map}
use Rattle.std.proofs.lemmas.List.Sums.{sum_by-cons}
use Rattle.std.specs.declared.cmp.Ordering.{Ordering}
use Rattle.std.specs.declared.cmp.Ordering.TheVariants.{Less, Equal, Greater}
use Rattle.kv_nand.specs.Flash.{Image, PageState, Erased, Whole, Cut}
use Rattle.kv_device.specs.Bytes.{bytes_cmp}
use Rattle.kv_device.specs.Objects.{page_count}
use Rattle.kssd_entry.specs.declared.entry.Entry.{Entry}
use Rattle.kssd_entry.specs.declared.entry.Entry.TheVariants.{Put, At, Gone}
use Rattle.kssd_entry.specs.declared.packer.PageHead.{PageHead}
use Rattle.kssd_entry.specs.declared.fault.PageFault.{PageFault}
use Rattle.kssd_entry.specs.Reading.{page_at}
use Rattle.kssd_entry.specs.Spelling.{key_of, FitsEntry}
use Rattle.kssd_entry.proofs.Spelled.{page_spelled}
use Rattle.kssd_model.specs.declared.runs.RunInfo.{RunInfo}
use Rattle.kssd_model.specs.declared.anchor.Anchor.{Anchor}
use Rattle.kssd_model.specs.GroupsLaws.{HasBytes}
use Rattle.kssd_model.specs.Groups.{LogPage, LogSeen, Ends, Broken, Holds, seen, Walk, stop, with_first, walk, log_in, next_place, groups_in, groups_from, rest_from, logged}
use Rattle.kssd_model.specs.Rising.{is_gone, key_cmp, has_key, is_rising, find_entry, put_entry, merged}
use Rattle.kssd_model.specs.Rising as rising_words
use Rattle.kssd_model.specs.RunPages.{of_run, run_page_in, run_page, page_entries, joined, run_entries}
use Rattle.kssd_model.proofs.RisingEntries.{has_key_is, is_above_all, turned, is_rising-merged}
use Rattle.kssd_model.proofs.GroupsPages.{seen_stands}
use Rattle.kssd_image.specs.ValuePages.{first_bytes, has_value}
use Rattle.kssd_image.specs.Stages.{runs_map, entries_of, log_map, without_marks, merged_by, shown_by, shown_in, value_in, object_in, objects_in, the_anchor}
use Rattle.kssd_image.specs.Whole.{page_named, pages_named, is_value_block, has_its_value, IsWhole}
use Rattle.kssd_image.proofs.ValuePages.{holds_from, one_key}
use Rattle.kssd_frames.proofs.Lookups.{merge_three, rising_unmarked}

-- ---- rising

pub runs_rise : (image : Image) (runs : List RunInfo) → is_rising (runs_map image runs) ≡ true
runs_rise image [] = refl
runs_rise image (run ∷ runs) = is_rising-merged (run_entries image run) (runs_map image runs) (runs_rise image runs)

-- earlier runs over later ones
pub runs_over : (image : Image) (xs ys : List RunInfo) → runs_map image (xs ++ ys) ≡ merged (runs_map image xs) (runs_map image ys)
runs_over image [] ys = refl
runs_over image (run ∷ xs) ys = ap (merged (run_entries image run)) (runs_over image xs ys) ∙ sym (merge_three (run_entries image run) (runs_map image xs) (runs_map image ys) (runs_rise image xs) (runs_rise image ys))

pub log_rises : (image : Image) (page number : ℕ) → is_rising (log_map image page number) ≡ true
unfolding log_map
log_rises image page number = is_rising-merged (entries_of (groups_in image page number)) [] refl

pub merged_rises : (image : Image) (anchor : Anchor) → is_rising (merged_by image anchor) ≡ true
unfolding merged_by
merged_rises image anchor = is_rising-merged (log_map image (32 * anchor.log_block) anchor.log_seq) (runs_map image anchor.runs) (runs_rise image anchor.runs)

pub shown_rises : (image : Image) (anchor : Anchor) → is_rising (shown_by image anchor) ≡ true
unfolding shown_by
shown_rises image anchor = rising_unmarked (merged_by image anchor) (merged_rises image anchor)

pub shown_in_rises : (image : Image) → is_rising (shown_in image) ≡ true
unfolding shown_in
shown_in_rises image = shown_rises image (the_anchor image)

-- ---- objects

-- an entry's key, with something made of the entry
abbrev pub keyed : {X : Type 0} → (Entry → X) → Entry → List ℕ × X
keyed f e = (key_of e, f e)

below_is : {X : Type 0} (f : Entry → X) (key : List ℕ) (es : List Entry) → is_above_all key es ≡ below_all bytes_cmp key (map (keyed f) es)
below_is f key [] = refl
below_is f key (e ∷ es) = ap (λ b. is_lt (key_cmp key (key_of e)) && b) (below_is f key es)

sorted_is : {X : Type 0} (f : Entry → X) (es : List Entry) → is_rising es ≡ is_sorted bytes_cmp (map (keyed f) es)
sorted_is f [] = refl
sorted_is f (e ∷ es) = λ i. below_is f (key_of e) es i && sorted_is f es i

pub sorted : {X : Type 0} (f : Entry → X) (es : List Entry) → is_rising es ≡ true → T (is_sorted bytes_cmp (map (keyed f) es))
sorted f es h = subst T (sym (sym (sorted_is f es) ∙ h)) tt

pub find_is : {X : Type 0} (f : Entry → X) (es : List Entry) (key : List ℕ) → objects.find bytes_cmp key (map (keyed f) es) ≡ option_map f (find_entry es key)
find_is f [] key = refl
find_is {X} f (e ∷ es) key = ap (λ b. cond b (Some (f e)) (objects.find bytes_cmp key (map (keyed f) es))) same ∙ by (has_key key e) (find_is f es key)
  where
    same : eq_by_cmp bytes_cmp key (key_of e) ≡ has_key key e
    same = ties (key_cmp (key_of e) key) refl ∙ sym (has_key_is key e)
      where
        ties : (o : Ordering) → key_cmp (key_of e) key ≡ o → is_eq (key_cmp key (key_of e)) ≡ is_eq (key_cmp (key_of e) key)
        ties o h = ap is_eq (turned (key_of e) key o h) ∙ back o ∙ sym (ap is_eq h)
          where
            back : (o : Ordering) → is_eq (ordering_reverse o) ≡ is_eq o
            back Less = refl
            back Equal = refl
            back Greater = refl

    by : (b : Bool) → objects.find bytes_cmp key (map (keyed f) es) ≡ option_map f (find_entry es key)
        → cond b (Some (f e)) (objects.find bytes_cmp key (map (keyed f) es)) ≡ option_map f (cond b (Some e) (find_entry es key))
    by true rest = refl
    by false rest = rest

pub objects_entries : (image : Image) → objects.entries (objects_in image) ≡ map (object_in image) (shown_in image)
unfolding objects_in
objects_entries image = objects.entries-from_sorted bytes_cmp (map (object_in image) (shown_in image)) (sorted (value_in image) (shown_in image) (shown_in_rises image))

pub objects_get : (image : Image) (key : List ℕ) → objects.get (objects_in image) key ≡ option_map (value_in image) (find_entry (shown_in image) key)
objects_get image key = objects.get-entries (objects_in image) key ∙ ap (objects.find bytes_cmp key) (objects_entries image) ∙ find_is (value_in image) (shown_in image) key

pub objects_len : (image : Image) → objects.len (objects_in image) ≡ length (shown_in image)
objects_len image = objects.len-entries (objects_in image) ∙ ap length (objects_entries image) ∙ length-map (shown_in image) (object_in image)

-- ---- sizes

abbrev FitAll : List Entry → Type 0
FitAll es = AllByRecursion FitsEntry es

fit_append : (xs ys : List Entry) → FitAll xs → FitAll ys → FitAll (xs ++ ys)
fit_append [] ys h g = g
fit_append (x ∷ xs) ys h g = (h.0, fit_append xs ys h.1 g)

-- merging keeps what holds of each entry
all_put : (P : Entry → Type 0) (xs : List Entry) (e : Entry) → AllByRecursion P xs → P e → AllByRecursion P (put_entry xs e)
all_put P [] e h p = (p, tt)
all_put P (x ∷ xs) e h p = by (key_cmp (key_of e) (key_of x)) (all_put P xs e h.1 p)
  where
    by : (o : Ordering) → AllByRecursion P (put_entry xs e) → AllByRecursion P (rising_words.by_order o (e ∷ x ∷ xs) (e ∷ xs) (x ∷ put_entry xs e))
    by Less rest = (p, h)
    by Equal rest = (p, h.1)
    by Greater rest = (h.0, rest)

pub all_merged : (P : Entry → Type 0) (newer older : List Entry) → AllByRecursion P newer → AllByRecursion P older → AllByRecursion P (merged newer older)
all_merged P [] older h g = g
all_merged P (e ∷ newer) older h g = all_merged P newer (put_entry older e) h.1 (all_put P older e g h.0)

pub fit_unmarked : (xs : List Entry) → FitAll xs → FitAll (without_marks xs)
fit_unmarked [] h = tt
fit_unmarked (x ∷ xs) h = by (is_gone x) (fit_unmarked xs h.1)
  where
    by : (b : Bool) → FitAll (without_marks xs) → FitAll (cond (not b) (x ∷ without_marks xs) (without_marks xs))
    by true rest = rest
    by false rest = (h.0, rest)

-- a page of a run
page_fits : (image : Image) (number : ℕ) (blocks : List ℕ) (i : ℕ) → HasBytes image → FitAll (page_entries image number blocks i)
page_fits image number blocks i has = by (image (run_page blocks i)) refl
  where
    given : (b : Bool) (es : List Entry) → FitAll es → FitAll (unwrap_or (cond b (Some es) None) [])
    given true es h = h
    given false es h = tt

    read : (bytes : List ℕ) (r : Result (PageHead × List Entry) PageFault) → image (run_page blocks i) ≡ Whole bytes → page_at 3 bytes ≡ r → FitAll (unwrap_or (of_run number i r) [])
    read bytes (Err fault) e r = tt
    read bytes (Ok x) e r =
        let sound = has (run_page blocks i) bytes e in
        given (eqb x.0.number number && eqb x.0.index i) x.1 (page_spelled 3 bytes x.0 x.1 sound.1 sound.0 r).1.fits

    by : (state : PageState) → image (run_page blocks i) ≡ state → FitAll (unwrap_or (run_page_in number i state) [])
    by Erased e = tt
    by Cut e = tt
    by (Whole bytes) e = read bytes (page_at 3 bytes) e refl

run_fits : (image : Image) (run : RunInfo) (n : ℕ) → HasBytes image → FitAll (joined (page_entries image run.number run.blocks) n)
run_fits image run zero has = tt
run_fits image run (suc n) has = fit_append (joined (page_entries image run.number run.blocks) n) (page_entries image run.number run.blocks n) (run_fits image run n has) (page_fits image run.number run.blocks n has)

pub runs_fit : (image : Image) (runs : List RunInfo) → HasBytes image → FitAll (runs_map image runs)
runs_fit image [] has = tt
runs_fit image (run ∷ runs) has = all_merged FitsEntry (run_entries image run) (runs_map image runs) (run_fits image run run.pages has) (runs_fit image runs has)

-- the pages of a log
walk_fits : (most : ℕ) (image : Image) (page number : ℕ) → HasBytes image → FitAll (logged (walk most image page number).pages)
unfolding walk
walk_fits zero image page number has = tt
walk_fits (suc most) image page number has = by (seen page number (image page)) refl (λ x. walk_fits most image (next_place page x) (number + 1) has)
  where
    by : (s : LogSeen) → seen page number (image page) ≡ s → ((x : LogPage) → FitAll (logged (walk most image (next_place page x) (number + 1)).pages))
        → let w : Walk = elim s [ Ends ↦ stop page number | Broken ↦ stop page number | Holds x ↦ with_first x (walk most image (next_place page x) (number + 1)) ] in FitAll (logged w.pages)
    by Ends e rest = tt
    by Broken e rest = tt
    by (Holds x) e rest = fit_append x.entries (logged (walk most image (next_place page x) (number + 1)).pages) (seen_stands image page number x has e).form.fits (rest x)

-- the whole groups and what is behind them are all entries of the pages
pub all_logged : (pending : List Entry) (xs : List LogPage) → entries_of (groups_from pending xs) ++ rest_from pending xs ≡ pending ++ logged xs
all_logged pending [] = sym (append-nil pending)
all_logged pending (x ∷ xs) = by (eqb x.flags 1) (all_logged [] xs) (all_logged (pending ++ x.entries) xs)
  where
    by : (b : Bool) → entries_of (groups_from [] xs) ++ rest_from [] xs ≡ logged xs → entries_of (groups_from (pending ++ x.entries) xs) ++ rest_from (pending ++ x.entries) xs ≡ (pending ++ x.entries) ++ logged xs
        → entries_of (cond b ((pending ++ x.entries) ∷ groups_from [] xs) (groups_from (pending ++ x.entries) xs)) ++ cond b (rest_from [] xs) (rest_from (pending ++ x.entries) xs) ≡ pending ++ logged (x ∷ xs)
    by true whole open_ =
        append_assoc (pending ++ x.entries) (entries_of (groups_from [] xs)) (rest_from [] xs)
        ∙ ap (λ (es : List Entry). (pending ++ x.entries) ++ es) whole
        ∙ append_assoc pending x.entries (logged xs)
    by false whole open_ = open_ ∙ append_assoc pending x.entries (logged xs)

fit_front : (xs ys : List Entry) → FitAll (xs ++ ys) → FitAll xs
fit_front [] ys h = tt
fit_front (x ∷ xs) ys h = (h.0, fit_front xs ys h.1)

pub log_fits : (image : Image) (page number : ℕ) → HasBytes image → FitAll (log_map image page number)
unfolding log_map log_in
log_fits image page number has =
    let pages = (log_in image page number).pages in
    all_merged FitsEntry (entries_of (groups_from [] pages)) [] (fit_front (entries_of (groups_from [] pages)) (rest_from [] pages) (subst FitAll (sym (all_logged [] pages)) (walk_fits (2 ^ 64) image page number has))) tt

pub merged_fits : (image : Image) (anchor : Anchor) → HasBytes image → FitAll (merged_by image anchor)
unfolding merged_by
merged_fits image anchor has = all_merged FitsEntry (log_map image (32 * anchor.log_block) anchor.log_seq) (runs_map image anchor.runs) (log_fits image (32 * anchor.log_block) anchor.log_seq has) (runs_fit image anchor.runs has)

pub shown_fits : (image : Image) (anchor : Anchor) → HasBytes image → FitAll (shown_by image anchor)
unfolding shown_by
shown_fits image anchor has = fit_unmarked (merged_by image anchor) (merged_fits image anchor has)

-- ---- pages of values

-- an entry of a greater key names no page that this one's value stands in
named_apart : (blocks : ℕ) (image : Image) (key : List ℕ) (page size : ℕ) (es : List Entry) → has_value key size (image page) ≡ true → is_above_all key es ≡ true → list_all (has_its_value blocks image) es ≡ true → AllByRecursion (λ q. eqb page q ≡ false) (pages_named es)
named_apart blocks image key page size [] here above all = tt
named_apart blocks image key page size (e ∷ es) here above all =
    let a = and_parts _ _ above in
    let v = and_parts _ _ all in
    by e (less _ a.0) v.0 (named_apart blocks image key page size es here a.1 v.1)
  where
    less : (o : Ordering) → is_lt o ≡ true → o ≡ Less
    less Less h = refl
    less Equal h = absurd cc
    less Greater h = absurd cc

    by : (e : Entry) → key_cmp key (key_of e) ≡ Less → has_its_value blocks image e ≡ true → AllByRecursion (λ q. eqb page q ≡ false) (pages_named es) → AllByRecursion (λ q. eqb page q ≡ false) (page_named e ++ pages_named es)
    by (Put k v) lt h rest = rest
    by (Gone k) lt h rest = rest
    by (At k q n) lt h rest =
        let there = (and_parts (is_value_block blocks (q / 32)) (has_value k n (image q)) h).1 in (
          ne_eqb page q (λ same.
              let keys = one_key key k size n (image page) here (ap (λ p. has_value k n (image p)) same ∙ there) in
              let lt' : key_cmp key key ≡ Less = ap (key_cmp key) keys.0 ∙ lt in
              let eq : key_cmp key key ≡ Equal = tied_itself nat_list_cmp_total key in
              absurd (let f : Less ≡ Equal = sym lt' ∙ eq in cc)),
          rest,
        )

pub named_once : (blocks : ℕ) (image : Image) (entries : List Entry) → is_rising entries ≡ true → list_all (has_its_value blocks image) entries ≡ true → IsDistinct eqb (pages_named entries)
unfolding IsDistinct
named_once blocks image [] rising all = tt
named_once blocks image (e ∷ es) rising all =
    let r = and_parts _ _ rising in
    let v = and_parts _ _ all in
    by e r.0 v.0 v.1 (named_once blocks image es r.1 v.1)
  where
    by : (e : Entry) → is_above_all (key_of e) es ≡ true → has_its_value blocks image e ≡ true → list_all (has_its_value blocks image) es ≡ true → IsDistinct eqb (pages_named es) → IsDistinct eqb (page_named e ++ pages_named es)
    by (Put k v) above h all rest = rest
    by (Gone k) above h all rest = rest
    by (At k q n) above h all rest = (named_apart blocks image k q n es (and_parts (is_value_block blocks (q / 32)) (has_value k n (image q)) h).1 above all, rest)

-- how many of the values need a page
pub large_count : (blocks : ℕ) (image : Image) (es : List Entry) → FitAll es → list_all (has_its_value blocks image) es ≡ true → count_by (λ v. ltb 128 (length v)) (map (λ o. o.1) (map (object_in image) es)) ≡ length (pages_named es)
large_count blocks image [] fits all = refl
large_count blocks image (e ∷ es) fits all =
    let v = and_parts (has_its_value blocks image e) (list_all (has_its_value blocks image) es) all in
    let rest = large_count blocks image es fits.1 v.1 in
    let first = sum_by-cons (λ (v : List ℕ). cond (ltb 128 (length v)) 1 0) (value_in image e) (map (λ (o : List ℕ × List ℕ). o.1) (map (object_in image) es)) in
    omega (arith, first, one e fits.0 v.0, length-append (page_named e) (pages_named es))
  where
    one : (e : Entry) → FitsEntry e → has_its_value blocks image e ≡ true → cond (ltb 128 (length (value_in image e))) 1 0 ≡ length (page_named e)
    one (Put k v) f h = ap (λ b. cond b 1 0) (le-ltb 128 (length v) f.1)
    one (Gone k) f h = refl
    one (At k q n) f h =
        let holds = holds_from k n (image q) (and_parts (is_value_block blocks (q / 32)) (has_value k n (image q)) h).1 in
        ap (λ b. cond b 1 0) (lt-ltb 128 (length (first_bytes n (image q))) (omega (arith, holds.1, f.2.0)))

pub pages_counted : (blocks : ℕ) (image : Image) → HasBytes image → IsWhole blocks image → page_count (objects_in image) ≡ length (pages_named (shown_in image))
unfolding page_count shown_in
pages_counted blocks image has whole =
    ap (λ es. count_by (λ (v : List ℕ). ltb 128 (length v)) (map (λ (o : List ℕ × List ℕ). o.1) es)) (objects_entries image)
    ∙ large_count blocks image (shown_in image) (shown_fits image (the_anchor image) has) whole.values.pages
