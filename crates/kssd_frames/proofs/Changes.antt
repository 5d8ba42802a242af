-- What entries make of the objects of an image.
use Rattle.std.proofs.Common.{zero, suc, ◌+◌, ◌<◌, ◌≤◌, not, leb, ltb, arith, inl, inr, ◌≡◌, ◌∙◌, ℕ, Bool, true, false, cond, List, [], ◌∷◌, length, map, Option, Some, None, refl, sym, ap, subst}
use Rattle.std.specs.List.{AllByRecursion, list_all, list_any, range_with_len, count_by}
use Rattle.std.specs.Option.{option_map}
use Rattle.std.specs.FinMap as objects
use Rattle.std.specs.Cmp.Lexicographic.{nat_list_cmp_total}
use Rattle.std.proofs.lemmas.List.{length-map}
use Rattle.std.proofs.lemmas.Bool.{cases_eq, and_parts, and_from, or_left, or_right, leb-true, ltb-true}
use Rattle.std.proofs.lemmas.Option.{none-some, same_Some}
use Rattle.kv_nand.specs.Flash.{Image}
use Rattle.kv_device.specs.Bytes.{bytes_cmp}
use Rattle.kv_device.specs.Objects.{seen_through, page_count}
use Rattle.kv_device.proofs.KeyMapLaws.{same_keys}
use Rattle.kv_device.proofs.MachineLaws.{over, get-seen_through}
use Rattle.kssd_entry.specs.declared.entry.Entry.{Entry}
use Rattle.kssd_entry.specs.Spelling.{FitsEntry}
use Rattle.kssd_model.specs.Rising.{is_gone, has_key, is_rising, find_entry, merged, first_of}
use Rattle.kssd_model.proofs.RisingEntries.{is_rising-merged}
use Rattle.kssd_image.specs.Stages.{without_marks, the_anchor, merged_by, shown_by, shown_in, value_in, object_in, objects_in, change_in, changes_of}
use Rattle.kssd_layout.specs.Numbers.{value_blocks_in, first_value_block_in}
use Rattle.kssd_model.specs.GroupsLaws.{HasBytes}
use Rattle.kssd_image.specs.Whole.{pages_named, has_its_value, is_value_block, is_unnamed, leaves_a_block}
use Rattle.kssd_frames.specs.Same.{AreSameValues}
use Rattle.kssd_frames.proofs.SameImages.{objects_alike}
use Rattle.kssd_frames.specs.Merging.{unmarked}
use Rattle.kssd_frames.specs.Logging.{shown_after}
use Rattle.kssd_frames.specs.Changing.{IsMove}
use Rattle.kssd_frames.proofs.Lookups.{key_is, found_over, merge_alone, rising_unmarked, find_unmarked}
use Rattle.kssd_frames.proofs.ShownLaws.{merged_rises, shown_in_rises, sorted, find_is, objects_get, all_merged, fit_unmarked, shown_fits, large_count}

-- what an entry makes of its key's value
abbrev change : Image → Entry → Option (List ℕ)
change image e = cond (is_gone e) None (Some (value_in image e))

changes_rise : (entries : List Entry) → is_rising (merged entries []) ≡ true
changes_rise entries = is_rising-merged entries [] refl

changes_entries : (image : Image) (entries : List Entry) → objects.entries (changes_of image entries) ≡ map (change_in image) (merged entries [])
unfolding changes_of
changes_entries image entries = objects.entries-from_sorted bytes_cmp (map (change_in image) (merged entries [])) (sorted (change image) (merged entries []) (changes_rise entries))

changes_get : (image : Image) (entries : List Entry) (key : List ℕ) → objects.get (changes_of image entries) key ≡ option_map (change image) (find_entry (merged entries []) key)
changes_get image entries key = objects.get-entries (changes_of image entries) key ∙ ap (objects.find bytes_cmp key) (changes_entries image entries) ∙ find_is (change image) (merged entries []) key

pub each_change : (image : Image) (entries : List Entry) → is_rising entries ≡ true → objects.entries (changes_of image entries) ≡ map (change_in image) entries
each_change image entries rising = changes_entries image entries ∙ ap (map (change_in image)) (merge_alone entries rising)

pub change_count : (image : Image) (entries : List Entry) → is_rising entries ≡ true → objects.len (changes_of image entries) ≡ length entries
change_count image entries rising = objects.len-entries (changes_of image entries) ∙ ap length (each_change image entries rising) ∙ length-map entries (change_in image)

-- ---- the entries after a group

-- no visible entry is a deletion mark
shown_unmarked : (image : Image) (key : List ℕ) → unmarked (find_entry (shown_in image) key) ≡ find_entry (shown_in image) key
unfolding shown_in shown_by
shown_unmarked image key =
    let found = find_unmarked (merged_by image (the_anchor image)) key (merged_rises image (the_anchor image)) in
    ap unmarked found ∙ twice (find_entry (merged_by image (the_anchor image)) key) ∙ sym found
  where
    twice : (o : Option Entry) → unmarked (unmarked o) ≡ unmarked o
    twice None = refl
    twice (Some e) = again (is_gone e) refl
      where
        again : (g : Bool) → is_gone e ≡ g → unmarked (cond g None (Some e)) ≡ cond g None (Some e)
        again true h = refl
        again false h = ap (λ g. cond g None (Some e)) h

seen_get : (image : Image) (entries : List Entry) (key : List ℕ)
    → objects.get (seen_through (changes_of image entries) (objects_in image)) key ≡ over (option_map (change image) (find_entry (merged entries []) key)) (option_map (value_in image) (find_entry (shown_in image) key))
seen_get image entries key = get-seen_through (changes_of image entries) (objects_in image) key ∙ (λ i. over (changes_get image entries key i) (objects_get image key i))

after_get : (image : Image) (entries : List Entry) (key : List ℕ)
    → objects.get (objects.from_sorted {R = bytes_cmp} (map (object_in image) (shown_after image entries))) key ≡ option_map (value_in image) (unmarked (first_of (find_entry (merged entries []) key) (find_entry (shown_in image) key)))
after_get image entries key =
    let all = is_rising-merged entries (shown_in image) (shown_in_rises image) in
    objects.get-from_sorted bytes_cmp (map (object_in image) (shown_after image entries)) key (sorted (value_in image) (shown_after image entries) (rising_unmarked (merged entries (shown_in image)) all))
    ∙ find_is (value_in image) (shown_after image entries) key
    ∙ ap (option_map (value_in image)) (find_unmarked (merged entries (shown_in image)) key all ∙ ap unmarked (found_over entries (shown_in image) key))

pub after_is : (image : Image) (entries : List Entry) → objects.from_sorted (map (object_in image) (shown_after image entries)) ≡ seen_through (changes_of image entries) (objects_in image)
after_is image entries = objects.same_map nat_list_cmp_total same_keys _ _ (λ key.
    after_get image entries key ∙ by (find_entry (merged entries []) key) (find_entry (shown_in image) key) (shown_unmarked image key) ∙ sym (seen_get image entries key))
  where
    by : (o p : Option Entry) → unmarked p ≡ p → option_map (value_in image) (unmarked (first_of o p)) ≡ over (option_map (change image) o) (option_map (value_in image) p)
    by None p h = ap (option_map (value_in image)) h
    by (Some e) p h = test (is_gone e)
      where
        test : (g : Bool) → option_map (value_in image) (cond g None (Some e)) ≡ cond g None (Some (value_in image e))
        test true = refl
        test false = refl

-- ---- moves

-- what holds of all entries holds of the one that is found
found_in : (P : Entry → Type 0) (xs : List Entry) (key : List ℕ) (e : Entry) → AllByRecursion P xs → find_entry xs key ≡ Some e → P e × (has_key key e ≡ true)
found_in P [] key e all h = absurd (none-some e h)
found_in P (x ∷ xs) key e all h = by (has_key key x) refl h (found_in P xs key e all.1)
  where
    by : (b : Bool) → has_key key x ≡ b → cond b (Some x) (find_entry xs key) ≡ Some e → (find_entry xs key ≡ Some e → P e × (has_key key e ≡ true)) → P e × (has_key key e ≡ true)
    by true is h rest = let same = same_Some x e h in subst (λ (y : Entry). P y × (has_key key y ≡ true)) same (all.0, is)
    by false is h rest = rest h

pub moves_keep : (image : Image) (entries : List Entry) → AllByRecursion (IsMove image) entries → seen_through (changes_of image entries) (objects_in image) ≡ objects_in image
moves_keep image entries moves = objects.same_map nat_list_cmp_total same_keys _ _ (λ key.
    seen_get image entries key ∙ by key (find_entry (merged entries []) key) refl ∙ sym (objects_get image key))
  where
    by : (key : List ℕ) (o : Option Entry) → find_entry (merged entries []) key ≡ o → over (option_map (change image) o) (option_map (value_in image) (find_entry (shown_in image) key)) ≡ option_map (value_in image) (find_entry (shown_in image) key)
    by key None h = refl
    by key (Some e) h =
        let found = found_in (IsMove image) (merged entries []) key e (all_merged (IsMove image) entries [] moves tt) h in
        ap (λ g. cond g None (Some (value_in image e))) found.0.kept
        ∙ sym found.0.same
        ∙ ap (objects.get (objects_in image)) (key_is key e found.1)
        ∙ objects_get image key

-- ---- pages that stay

changes_alike : (old new : Image) (entries : List Entry) → map (object_in new) entries ≡ map (object_in old) entries → map (change_in new) entries ≡ map (change_in old) entries
changes_alike old new entries same = sym (made new entries) ∙ ap (λ (vs : List (List ℕ × List ℕ)). made_of entries vs) same ∙ made old entries
  where
    -- a change from an entry and its object
    made_of : List Entry → List (List ℕ × List ℕ) → List (List ℕ × Option (List ℕ))
    made_of [] vs = []
    made_of (e ∷ es) [] = []
    made_of (e ∷ es) (v ∷ vs) = (v.0, cond (is_gone e) None (Some v.1)) ∷ made_of es vs

    made : (image : Image) (es : List Entry) → made_of es (map (object_in image) es) ≡ map (change_in image) es
    made image [] = refl
    made image (e ∷ es) = ap (λ (cs : List (List ℕ × Option (List ℕ))). change_in image e ∷ cs) (made image es)

pub changes_stay : (old new : Image) (entries : List Entry) → is_rising entries ≡ true → AreSameValues old new entries → changes_of new entries ≡ changes_of old entries
changes_stay old new entries rising same =
    objects.same_entries_map (changes_of new entries) (changes_of old entries) (each_change new entries rising ∙ changes_alike old new entries (objects_alike old new entries same) ∙ sym (each_change old entries rising))

-- ---- how large

after_entries : (image : Image) (entries : List Entry) → objects.entries (seen_through (changes_of image entries) (objects_in image)) ≡ map (object_in image) (shown_after image entries)
after_entries image entries =
    ap objects.entries (sym (after_is image entries))
    ∙ objects.entries-from_sorted bytes_cmp (map (object_in image) (shown_after image entries)) (sorted (value_in image) (shown_after image entries) (rising_unmarked (merged entries (shown_in image)) (is_rising-merged entries (shown_in image) (shown_in_rises image))))

pub keys_after : (image : Image) (entries : List Entry) → objects.len (seen_through (changes_of image entries) (objects_in image)) ≡ length (shown_after image entries)
keys_after image entries = objects.len-entries (seen_through (changes_of image entries) (objects_in image)) ∙ ap length (after_entries image entries) ∙ length-map (shown_after image entries) (object_in image)

pub pages_after : (blocks : ℕ) (image : Image) (entries : List Entry) → HasBytes image → AllByRecursion FitsEntry entries → list_all (has_its_value blocks image) (shown_after image entries) ≡ true
    → page_count (seen_through (changes_of image entries) (objects_in image)) ≡ length (pages_named (shown_after image entries))
unfolding page_count shown_in
pages_after blocks image entries has fits values =
    let older = shown_fits image (the_anchor image) has in
    ap (λ es. count_by (λ (v : List ℕ). ltb 128 (length v)) (map (λ (o : List ℕ × List ℕ). o.1) es)) (after_entries image entries)
    ∙ large_count blocks image (shown_after image entries) (fit_unmarked (merged entries (shown_in image)) (all_merged FitsEntry entries (shown_in image) fits older)) values

-- ---- values

all_from : (p : Entry → Bool) (xs : List Entry) → list_all p xs ≡ true → AllByRecursion (λ e. p e ≡ true) xs
all_from p [] h = tt
all_from p (x ∷ xs) h = let both = and_parts _ _ h in (both.0, all_from p xs both.1)

all_unmarked : (p : Entry → Bool) (xs : List Entry) → AllByRecursion (λ e. p e ≡ true) xs → list_all p (without_marks xs) ≡ true
all_unmarked p [] h = refl
all_unmarked p (x ∷ xs) h = by (is_gone x) (all_unmarked p xs h.1)
  where
    by : (g : Bool) → list_all p (without_marks xs) ≡ true → list_all p (cond (not g) (x ∷ without_marks xs) (without_marks xs)) ≡ true
    by true rest = rest
    by false rest = and_from _ _ h.0 rest

pub values_merge : (blocks : ℕ) (image : Image) (entries older : List Entry) → list_all (has_its_value blocks image) entries ≡ true → list_all (has_its_value blocks image) older ≡ true → list_all (has_its_value blocks image) (without_marks (merged entries older)) ≡ true
values_merge blocks image entries older h g =
    let p = has_its_value blocks image in
    all_unmarked p (merged entries older) (all_merged (λ e. p e ≡ true) entries older (all_from p entries h) (all_from p older g))

-- ---- a block that is left

any_in_range : (p : ℕ → Bool) (first n block : ℕ) → first ≤ block → block < first + n → p block ≡ true → list_any p (range_with_len first n) ≡ true
any_in_range p first zero block low high h = absurd (omega arith)
any_in_range p first (suc n) block low high h = elim (cases_eq first block) [
  | inl e ↦ or_left (p first) (list_any p (range_with_len (first + 1) n)) (ap p e ∙ h)
  | inr ne ↦ or_right (p first) (list_any p (range_with_len (first + 1) n)) (any_in_range p (first + 1) n block (omega arith) (omega arith) h)
]

pub block_left : (blocks : ℕ) (entries : List Entry) (block : ℕ) → 256 ≤ blocks → is_value_block blocks block ≡ true → is_unnamed entries block ≡ true → leaves_a_block blocks entries ≡ true
unfolding leaves_a_block
block_left blocks entries block least place free =
    let both = and_parts (leb (first_value_block_in blocks) block) (ltb block blocks) place in
    any_in_range (is_unnamed entries) (first_value_block_in blocks) (value_blocks_in blocks) block (leb-true _ _ both.0) (omega (arith, ltb-true block blocks both.1)) free
