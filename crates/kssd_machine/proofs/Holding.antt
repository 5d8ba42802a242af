-- The keys and the values of an image's objects are bytes of their sizes.
use Rattle.std.proofs.Common.{◌≡◌, ◌∙◌, ℕ, zero, suc, ◌+◌, ◌*◌, ◌/◌, ◌<◌, ◌^◌, ◌&&◌, Bool, true, false, cond, not, eqb, List, [], ◌∷◌, ◌++◌, length, take, drop, replicate, map, Some, None, Result, Ok, Err, refl, sym, ap, subst, arith, inl, inr}
use Rattle.std.specs.Prelude.{◌-◌, unwrap_or}
use Rattle.std.specs.List.{AllByRecursion, list_all}
use Rattle.std.specs.Int.{w16, w32, to_be_bytes}
use Rattle.std.specs.Ordering.{is_eq}
use Rattle.std.specs.declared.cmp.Ordering.{Ordering}
use Rattle.std.specs.declared.cmp.Ordering.TheVariants.{Less, Equal, Greater}
use Rattle.std.specs.FinMap as objects
use Rattle.std.proofs.lemmas.Bool.{and_parts, cases_lt}
use Rattle.std.proofs.lemmas.List.{get_or_append_left, get_or_past, get_or-append-add, take-append-drop}
use Rattle.std.proofs.lemmas.List.Concat.{flat_map-cons}
use Rattle.kv_nand.specs.Flash.{Image, PageState, Erased, Whole, Cut}
use Rattle.kv_device.specs.Bytes.{bytes_cmp, AreBytes}
use Rattle.kv_device.specs.Objects.{IsHeld, IsHeldKey, IsHeldValue, AreHeld}
use Rattle.kv_device.proofs.KeyMapLaws.{same_keys}
use Rattle.kssd_entry.specs.declared.entry.Entry.{Entry}
use Rattle.kssd_entry.specs.declared.entry.Entry.TheVariants.{Put, At, Gone}
use Rattle.kssd_entry.specs.declared.packer.PageHead.{PageHead}
use Rattle.kssd_entry.specs.declared.fault.PageFault.{PageFault}
use Rattle.kssd_entry.specs.Reading.{page_at}
use Rattle.kssd_entry.specs.Spelling.{key_bytes, entry_bytes, entries_bytes, filled, spare_bytes, page_bytes, page_of, FitsEntry}
use Rattle.kssd_entry.proofs.Spelled.{page_spelled}
use Rattle.kssd_model.specs.declared.runs.RunInfo.{RunInfo}
use Rattle.kssd_model.specs.declared.anchor.Anchor.{Anchor}
use Rattle.kssd_model.specs.GroupsLaws.{HasBytes}
use Rattle.kssd_model.specs.Groups.{LogPage, LogSeen, Ends, Broken, Holds, seen, Walk, stop, with_first, walk, log_in, next_place, groups_from, rest_from, logged, log_head, log_bytes}
use Rattle.kssd_model.specs.Rising.{is_gone}
use Rattle.kssd_model.specs.RunPages.{of_run, run_page_in, run_page, page_entries, joined, run_entries}
use Rattle.kssd_model.proofs.GroupsPages.{seen_stands}
use Rattle.kssd_image.specs.ValuePages.{first_bytes, has_value}
use Rattle.kssd_image.specs.Stages.{runs_map, entries_of, log_map, without_marks, merged_by, shown_by, shown_in, object_in, objects_in, the_anchor}
use Rattle.kssd_image.specs.Whole.{is_value_block, has_its_value, IsWhole}
use Rattle.kssd_image.proofs.ValuePages.{holds_from}
use Rattle.kssd_frames.proofs.ShownLaws.{all_merged, all_logged, shown_fits, objects_entries, objects_len}

-- ---- parts of bytes are bytes

none_bytes : AreBytes []
none_bytes i = omega arith

left_bytes : (xs ys : List ℕ) → AreBytes (xs ++ ys) → AreBytes xs
left_bytes xs ys h i =
    elim (cases_lt i (length xs)) [
      | inl lt ↦ subst (λ n. n < 256) (get_or_append_left xs ys 0 i lt) (h i)
      | inr le ↦ rw (get_or_past xs i 0 le) (omega arith)
    ]

right_bytes : (xs ys : List ℕ) → AreBytes (xs ++ ys) → AreBytes ys
right_bytes xs ys h i = subst (λ n. n < 256) (get_or-append-add xs ys i 0) (h (length xs + i))

tail_bytes : (x : ℕ) (xs : List ℕ) → AreBytes (x ∷ xs) → AreBytes xs
tail_bytes x xs h i = h (suc i)

taken_bytes : (n : ℕ) (bytes : List ℕ) → AreBytes bytes → AreBytes (take n bytes)
taken_bytes n bytes h = left_bytes (take n bytes) (drop n bytes) (subst AreBytes (sym (take-append-drop n bytes)) h)

filled_bytes : (n : ℕ) (bytes : List ℕ) → AreBytes (filled n bytes) → AreBytes bytes
unfolding filled
filled_bytes n bytes h = left_bytes bytes (replicate (n - length bytes) 0) h

-- ---- entries of pages

-- the key of an entry and a value that stands in it are bytes
HasEntryBytes : Entry → Type 0
HasEntryBytes (Put key value) = AreBytes key × AreBytes value
HasEntryBytes (At key page size) = AreBytes key
HasEntryBytes (Gone key) = AreBytes key

abbrev AllHave : List Entry → Type 0
AllHave entries = AllByRecursion HasEntryBytes entries

key_of_bytes : (key : List ℕ) → AreBytes (key_bytes key) → AreBytes key
key_of_bytes key h = right_bytes (to_be_bytes w16 (length key)) key h

entry_has : (e : Entry) → AreBytes (entry_bytes e) → HasEntryBytes e
unfolding entry_bytes HasEntryBytes
entry_has (Put key value) h = (
  key_of_bytes key (tail_bytes 1 (key_bytes key) (left_bytes (1 ∷ key_bytes key) (length value ∷ value) h)),
  tail_bytes (length value) value (right_bytes (1 ∷ key_bytes key) (length value ∷ value) h),
)
entry_has (At key page size) h =
    let front = left_bytes ((2 ∷ key_bytes key) ++ to_be_bytes w32 page) (to_be_bytes w16 size) h in
    key_of_bytes key (tail_bytes 2 (key_bytes key) (left_bytes (2 ∷ key_bytes key) (to_be_bytes w32 page) front))
entry_has (Gone key) h = key_of_bytes key (tail_bytes 3 (key_bytes key) h)

entries_have : (es : List Entry) → AreBytes (entries_bytes es) → AllHave es
entries_have [] h = tt
entries_have (e ∷ es) h =
    let parts : AreBytes (entry_bytes e ++ entries_bytes es) = subst AreBytes (flat_map-cons entry_bytes e es) h in
    (entry_has e (left_bytes (entry_bytes e) (entries_bytes es) parts), entries_have es (right_bytes (entry_bytes e) (entries_bytes es) parts))

page_has : (head : PageHead) (es : List Entry) → AreBytes (page_of head es) → AllHave es
unfolding page_bytes
page_has head es h = entries_have es (filled_bytes 4096 (entries_bytes es) (left_bytes (filled 4096 (entries_bytes es)) (filled 64 (spare_bytes head (length es))) h))

-- ---- entries of an image

have_append : (xs ys : List Entry) → AllHave xs → AllHave ys → AllHave (xs ++ ys)
have_append [] ys h g = g
have_append (x ∷ xs) ys h g = (h.0, have_append xs ys h.1 g)

have_front : (xs ys : List Entry) → AllHave (xs ++ ys) → AllHave xs
have_front [] ys h = tt
have_front (x ∷ xs) ys h = (h.0, have_front xs ys h.1)

have_unmarked : (xs : List Entry) → AllHave xs → AllHave (without_marks xs)
have_unmarked [] h = tt
have_unmarked (x ∷ xs) h = by (is_gone x) (have_unmarked xs h.1)
  where
    by : (b : Bool) → AllHave (without_marks xs) → AllHave (cond (not b) (x ∷ without_marks xs) (without_marks xs))
    by true rest = rest
    by false rest = (h.0, rest)

page_entries_have : (image : Image) (number : ℕ) (blocks : List ℕ) (i : ℕ) → HasBytes image → AllHave (page_entries image number blocks i)
page_entries_have image number blocks i has = by (image (run_page blocks i)) refl
  where
    given : (b : Bool) (es : List Entry) → AllHave es → AllHave (unwrap_or (cond b (Some es) None) [])
    given true es h = h
    given false es h = tt

    read : (bytes : List ℕ) (r : Result (PageHead × List Entry) PageFault) → image (run_page blocks i) ≡ Whole bytes → page_at 3 bytes ≡ r → AllHave (unwrap_or (of_run number i r) [])
    read bytes (Err fault) e r = tt
    read bytes (Ok x) e r =
        let sound = has (run_page blocks i) bytes e in
        given (eqb x.0.number number && eqb x.0.index i) x.1 (page_has x.0 x.1 (subst AreBytes (page_spelled 3 bytes x.0 x.1 sound.1 sound.0 r).0 sound.1))

    by : (state : PageState) → image (run_page blocks i) ≡ state → AllHave (unwrap_or (run_page_in number i state) [])
    by Erased e = tt
    by Cut e = tt
    by (Whole bytes) e = read bytes (page_at 3 bytes) e refl

run_has : (image : Image) (run : RunInfo) (n : ℕ) → HasBytes image → AllHave (joined (page_entries image run.number run.blocks) n)
run_has image run zero has = tt
run_has image run (suc n) has =
    have_append (joined (page_entries image run.number run.blocks) n) (page_entries image run.number run.blocks n) (run_has image run n has) (page_entries_have image run.number run.blocks n has)

runs_have : (image : Image) (runs : List RunInfo) → HasBytes image → AllHave (runs_map image runs)
runs_have image [] has = tt
runs_have image (run ∷ runs) has = all_merged HasEntryBytes (run_entries image run) (runs_map image runs) (run_has image run run.pages has) (runs_have image runs has)

walk_has : (most : ℕ) (image : Image) (page number : ℕ) → HasBytes image → AllHave (logged (walk most image page number).pages)
unfolding walk
walk_has zero image page number has = tt
walk_has (suc most) image page number has = by (seen page number (image page)) refl (λ x. walk_has most image (next_place page x) (number + 1) has)
  where
    by : (s : LogSeen) → seen page number (image page) ≡ s → ((x : LogPage) → AllHave (logged (walk most image (next_place page x) (number + 1)).pages))
        → let w : Walk = elim s [ Ends ↦ stop page number | Broken ↦ stop page number | Holds x ↦ with_first x (walk most image (next_place page x) (number + 1)) ] in AllHave (logged w.pages)
    by Ends e rest = tt
    by Broken e rest = tt
    by (Holds x) e rest =
        let bytes : AreBytes (log_bytes number x) = (has page (log_bytes number x) (seen_stands image page number x has e).bytes).1 in
        have_append x.entries (logged (walk most image (next_place page x) (number + 1)).pages) (page_has (log_head x.flags number) x.entries bytes) (rest x)

log_has : (image : Image) (page number : ℕ) → HasBytes image → AllHave (log_map image page number)
unfolding log_map log_in
log_has image page number has =
    let pages = (log_in image page number).pages in
    all_merged HasEntryBytes (entries_of (groups_from [] pages)) [] (have_front (entries_of (groups_from [] pages)) (rest_from [] pages) (subst AllHave (sym (all_logged [] pages)) (walk_has (2 ^ 64) image page number has))) tt

merged_have : (image : Image) (anchor : Anchor) → HasBytes image → AllHave (merged_by image anchor)
unfolding merged_by
merged_have image anchor has =
    all_merged HasEntryBytes (log_map image (32 * anchor.log_block) anchor.log_seq) (runs_map image anchor.runs) (log_has image (32 * anchor.log_block) anchor.log_seq has) (runs_have image anchor.runs has)

shown_have : (image : Image) (anchor : Anchor) → HasBytes image → AllHave (shown_by image anchor)
unfolding shown_by
shown_have image anchor has = have_unmarked (merged_by image anchor) (merged_have image anchor has)

-- ---- objects

-- a key and a value that can be held
abbrev IsHeldPair : List ℕ × List ℕ → Type 0
IsHeldPair pair = IsHeldKey pair.0 × IsHeldValue pair.1

data_bytes : (image : Image) (page size : ℕ) → HasBytes image → AreBytes (first_bytes size (image page))
data_bytes image page size has = by (image page) refl
  where
    by : (state : PageState) → image page ≡ state → AreBytes (first_bytes size state)
    by Erased e = none_bytes
    by Cut e = none_bytes
    by (Whole bytes) e = taken_bytes size bytes (has page bytes e).1

pair_held : (blocks : ℕ) (image : Image) (e : Entry) → HasBytes image → FitsEntry e → HasEntryBytes e → has_its_value blocks image e ≡ true → IsHeldPair (object_in image e)
unfolding HasEntryBytes
pair_held blocks image (Put key value) has fits bytes valued = ((fits.0, bytes.0), (omega (arith, fits.1), bytes.1))
pair_held blocks image (Gone key) has fits bytes valued = ((fits, bytes), (omega arith, none_bytes))
pair_held blocks image (At key page size) has fits bytes valued =
    let there = (and_parts (is_value_block blocks (page / 32)) (has_value key size (image page)) valued).1 in
    ((fits.0, bytes), ((holds_from key size (image page) there).0.fits, data_bytes image page size has))

pairs_held : (blocks : ℕ) (image : Image) (es : List Entry) → HasBytes image → AllByRecursion FitsEntry es → AllHave es → list_all (has_its_value blocks image) es ≡ true → AllByRecursion IsHeldPair (map (object_in image) es)
pairs_held blocks image [] has fits bytes valued = tt
pairs_held blocks image (e ∷ es) has fits bytes valued =
    let v = and_parts (has_its_value blocks image e) (list_all (has_its_value blocks image) es) valued in
    (pair_held blocks image e has fits.0 bytes.0 v.0, pairs_held blocks image es has fits.1 bytes.1 v.1)

-- what is found among pairs is one of them
found_held : (pairs : List (List ℕ × List ℕ)) (key value : List ℕ) → AllByRecursion IsHeldPair pairs → objects.find bytes_cmp key pairs ≡ Some value → IsHeldKey key × IsHeldValue value
found_held [] key value held there = absurd cc
found_held (pair ∷ pairs) key value held there = by (bytes_cmp key pair.0) refl there (found_held pairs key value held.1)
  where
    by : (o : Ordering) → bytes_cmp key pair.0 ≡ o → cond (is_eq o) (Some pair.1) (objects.find bytes_cmp key pairs) ≡ Some value
        → (objects.find bytes_cmp key pairs ≡ Some value → IsHeldKey key × IsHeldValue value) → IsHeldKey key × IsHeldValue value
    by Less e h rest = rest h
    by Greater e h rest = rest h
    by Equal e h rest =
        let same : pair.1 ≡ value = cc in
        (subst IsHeldKey (sym (same_keys key pair.0 e)) held.0.0, subst IsHeldValue same held.0.1)

objects_held : (blocks : ℕ) (image : Image) → HasBytes image → IsWhole blocks image → AreHeld (objects_in image)
unfolding shown_in
objects_held blocks image has whole key value there =
    let all = pairs_held blocks image (shown_in image) has (shown_fits image (the_anchor image) has) (shown_have image (the_anchor image) has) whole.values.pages in
    found_held (map (object_in image) (shown_in image)) key value all (sym (objects.get-entries (objects_in image) key ∙ ap (objects.find bytes_cmp key) (objects_entries image)) ∙ there)

-- what an image holds is what a device can hold
pub holds_bytes : (blocks : ℕ) (image : Image) → blocks < 2 ^ 16 → HasBytes image → IsWhole blocks image → IsHeld (objects_in image)
unfolding shown_in
holds_bytes blocks image small has whole =
    let held = objects_held blocks image has whole in
    record {
      key_sizes = λ key value there. (held key value there).0.0;
      keys = λ key value there. (held key value there).0.1;
      sizes = λ key value there. (held key value there).1.0;
      values = λ key value there. (held key value there).1.1;
      few = omega (arith, small, objects_len image, whole.index.room.keys);
    }
