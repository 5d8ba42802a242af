-- What a transaction sees, read from its own changes and the visible entries.
use Rattle.std.proofs.Common.{◌≡◌, ◌∙◌, ℕ, zero, suc, ◌-◌, ◌/◌, Bool, true, false, cond, not, ◌&&◌, leb, ltb, List, [], ◌∷◌, ◌++◌, length, map, take, T, Option, Some, None, option_map, option_and_then, unwrap_or, is_some, slice_get, refl, sym, ap, arith}
use Rattle.std.specs.Prelude.{filter, nat_eq}
use Rattle.std.specs.List.{list_all, starts_with}
use Rattle.std.specs.Ordering.{is_lt, is_gt}
use Rattle.std.specs.FinMap as objects
use Rattle.std.specs.declared.cmp.Ordering.{Ordering}
use Rattle.std.specs.declared.cmp.Ordering.TheVariants.{Less, Equal, Greater}
use Rattle.std.proofs.lemmas.Bool.{and_parts, leb-true, ltb-true}
use Rattle.std.proofs.lemmas.Option.{none-some, same_Some}
use Rattle.std.proofs.lemmas.List.Elements.{filter-append}
use Rattle.std.proofs.lemmas.List.{map-append}
use Rattle.kv_nand.specs.Flash.{Flash, Image}
use Rattle.kv_device.specs.Bytes.{bytes_cmp}
use Rattle.kv_device.specs.Objects.{seen_through, is_wanted, pairs_from}
use Rattle.kv_device.specs.Machine.{view}
use Rattle.kv_device.specs.Calls as device_calls
use Rattle.kv_device.specs.Calls.{GetDone}
use Rattle.kssd_layout.specs.Numbers.{first_value_block_in}
use Rattle.kssd_entry.specs.declared.entry.Entry.{Entry}
use Rattle.kssd_entry.specs.declared.entry.Entry.TheVariants.{At}
use Rattle.kssd_entry.specs.Spelling.{key_of}
use Rattle.kssd_model.specs.Rising.{is_gone, key_cmp, has_key, is_below, is_rising, find_entry, entries_from, merged, first_of}
use Rattle.kssd_model.proofs.RisingEntries.{turned, less_trans, is_rising-filter, is_rising-merged, find-merged}
use Rattle.kssd_image.specs.ValuePages.{has_value, first_bytes}
use Rattle.kssd_image.proofs.ValuePages.{holds_from, key_read, count_read}
use Rattle.kssd_image.specs.Stages as stages
use Rattle.kssd_image.specs.Stages.{without_marks, the_anchor, merged_by, shown_by, shown_in, value_in, object_in, objects_in}
use Rattle.kssd_image.specs.Whole.{is_value_block, has_its_value}
use Rattle.kssd_frames.specs.Logging.{shown_after}
use Rattle.kssd_frames.specs.Merging.{unmarked}
use Rattle.kssd_frames.proofs.Changes.{after_is}
use Rattle.kssd_frames.proofs.Lookups.{key_is, same_key, same_lists, merge_alone, find_unmarked, rising_unmarked}
use Rattle.kssd_frames.proofs.ShownLaws.{find_is, shown_in_rises, sorted}
use Rattle.kssd_tx.specs.Lists.{Transactions, list_of, changes_of, change_of}
use Rattle.kssd_tx.specs.declared.fault.TxFault.TheVariants as tx_faults
use Rattle.kssd_tx.specs.Refusals.{tx_refusal}
use Rattle.kssd_values.specs.Pages.{key_in, size_in}
use Rattle.kssd_machine.specs.Names.{are_rising, are_valued}
use Rattle.kssd_machine.specs.Machines.{machine_of}
use Rattle.kssd_machine.specs.Calling.{tx_fault}
use Rattle.kssd_machine.specs.Viewing.{entries_below, with_prefix, pairs_in, IsUpTo, HasPage}
use Rattle.kssd_machine.proofs.Transacting.{list_changes, rising_at, first_is}

-- ---- what it sees, as entries

pub view_is : (flash : Flash) (lists : Transactions) (tx : ℕ) → view (machine_of flash true lists) tx ≡ seen_through (stages.changes_of flash.image (changes_of lists tx)) (objects_in flash.image)
unfolding view
view_is flash lists tx = ap (λ c. seen_through c (objects_in flash.image)) (list_changes flash lists tx)

-- the entries that it sees
abbrev pub seen_by : Flash → Transactions → ℕ → List Entry
seen_by flash lists tx = shown_after flash.image (changes_of lists tx)

all_rises : (flash : Flash) (lists : Transactions) (tx : ℕ) → is_rising (merged (changes_of lists tx) (shown_in flash.image)) ≡ true
all_rises flash lists tx = is_rising-merged (changes_of lists tx) (shown_in flash.image) (shown_in_rises flash.image)

view_sorted : (flash : Flash) (lists : Transactions) (tx : ℕ) → view (machine_of flash true lists) tx ≡ objects.from_sorted (map (object_in flash.image) (seen_by flash lists tx))
view_sorted flash lists tx = view_is flash lists tx ∙ sym (after_is flash.image (changes_of lists tx))

seen_sorted : (flash : Flash) (lists : Transactions) (tx : ℕ) → T (objects.is_sorted bytes_cmp (map (object_in flash.image) (seen_by flash lists tx)))
seen_sorted flash lists tx = sorted (value_in flash.image) (seen_by flash lists tx) (rising_unmarked (merged (changes_of lists tx) (shown_in flash.image)) (all_rises flash lists tx))

pub view_entries : (flash : Flash) (lists : Transactions) (tx : ℕ) → objects.entries (view (machine_of flash true lists) tx) ≡ map (object_in flash.image) (seen_by flash lists tx)
view_entries flash lists tx = ap objects.entries (view_sorted flash lists tx) ∙ objects.entries-from_sorted bytes_cmp (map (object_in flash.image) (seen_by flash lists tx)) (seen_sorted flash lists tx)

-- ---- get

change_in_list : (o : Option (List Entry)) (key : List ℕ) → find_entry (unwrap_or o []) key ≡ option_and_then (λ list. find_entry list key) o
change_in_list None key = refl
change_in_list (Some list) key = refl

pub get_found : (flash : Flash) (lists : Transactions) (tx : ℕ) (key : List ℕ) → are_rising lists ≡ true
    → objects.get (view (machine_of flash true lists) tx) key ≡ option_map (value_in flash.image) (unmarked (first_of (change_of lists tx key) (find_entry (shown_in flash.image) key)))
get_found flash lists tx key rising =
    let mine = changes_of lists tx in
    objects.get-entries (view (machine_of flash true lists) tx) key
    ∙ ap (objects.find bytes_cmp key) (view_entries flash lists tx)
    ∙ find_is (value_in flash.image) (seen_by flash lists tx) key
    ∙ ap (option_map (value_in flash.image)) (
    find_unmarked (merged mine (shown_in flash.image)) key (all_rises flash lists tx)
    ∙ ap unmarked (find-merged mine (shown_in flash.image) key (rising_at lists tx rising)
    ∙ ap (λ o. first_of o (find_entry (shown_in flash.image) key)) (change_in_list (list_of lists tx) key)))

open_since : (lists : Transactions) (tx : ℕ) (key : List ℕ) (entry : Entry) → change_of lists tx key ≡ Some entry → tx_refusal lists tx ≡ None
open_since lists tx key entry is = by (list_of lists tx) is
  where
    by : (o : Option (List Entry)) → option_and_then (λ list. find_entry list key) o ≡ Some entry → cond (not (is_some o)) (Some tx_faults.NoTx) None ≡ None
    by None h = absurd (none-some entry h)
    by (Some list) h = refl

allowed : (flash : Flash) (lists : Transactions) (tx : ℕ) → tx_refusal lists tx ≡ None → device_calls.first_of (machine_of flash true lists) tx None ≡ None
allowed flash lists tx none = first_is flash lists tx ∙ ap (option_map tx_fault) none

value_or : (image : Image) (e : Entry) → option_map (value_in image) (unmarked (Some e)) ≡ cond (is_gone e) None (Some (value_in image e))
value_or image e = by (is_gone e)
  where
    by : (g : Bool) → option_map (value_in image) (cond g None (Some e)) ≡ cond g None (Some (value_in image e))
    by true = refl
    by false = refl

pub get_own : (flash : Flash) (lists : Transactions) (tx : ℕ) (key : List ℕ) (entry : Entry) → are_rising lists ≡ true → change_of lists tx key ≡ Some entry
    → GetDone (machine_of flash true lists) tx key (cond (is_gone entry) None (Some (value_in flash.image entry))) (machine_of flash true lists)
get_own flash lists tx key entry rising is = record {
  allowed = allowed flash lists tx (open_since lists tx key entry is);
  found = sym (get_found flash lists tx key rising ∙ ap (λ o. option_map (value_in flash.image) (unmarked (first_of o (find_entry (shown_in flash.image) key)))) is ∙ value_or flash.image entry);
  after = refl;
}

-- no visible entry is a deletion mark
shown_kept : (image : Image) (key : List ℕ) → unmarked (find_entry (shown_in image) key) ≡ find_entry (shown_in image) key
unfolding shown_in shown_by
shown_kept image key = sym (find_unmarked (shown_in image) key (shown_in_rises image)) ∙ ap (λ es. find_entry es key) (twice (merged_by image (the_anchor image)))
  where
    twice : (xs : List Entry) → without_marks (without_marks xs) ≡ without_marks xs
    twice [] = refl
    twice (x ∷ xs) = by (is_gone x) refl (twice xs)
      where
        by : (g : Bool) → is_gone x ≡ g → without_marks (without_marks xs) ≡ without_marks xs → without_marks (cond (not g) (x ∷ without_marks xs) (without_marks xs)) ≡ cond (not g) (x ∷ without_marks xs) (without_marks xs)
        by true h rest = rest
        by false h rest = ap (λ g. cond (not g) (x ∷ without_marks (without_marks xs)) (without_marks (without_marks xs))) h ∙ ap (λ (es : List Entry). x ∷ es) rest

pub get_visible : (flash : Flash) (lists : Transactions) (tx : ℕ) (key : List ℕ) → are_rising lists ≡ true → tx_refusal lists tx ≡ None → change_of lists tx key ≡ None
    → GetDone (machine_of flash true lists) tx key (option_map (value_in flash.image) (find_entry (shown_in flash.image) key)) (machine_of flash true lists)
get_visible flash lists tx key rising open_ none = record {
  allowed = allowed flash lists tx open_;
  found = sym (get_found flash lists tx key rising ∙ ap (λ o. option_map (value_in flash.image) (unmarked (first_of o (find_entry (shown_in flash.image) key)))) none ∙ ap (option_map (value_in flash.image)) (shown_kept flash.image key));
  after = refl;
}

-- what all entries pass, that which is found passes
pub found_passes : (p : Entry → Bool) (xs : List Entry) (key : List ℕ) (e : Entry) → list_all p xs ≡ true → find_entry xs key ≡ Some e → p e ≡ true
found_passes p [] key e all h = absurd (none-some e h)
found_passes p (x ∷ xs) key e all h = by (has_key key x) h (found_passes p xs key e (and_parts _ _ all).1)
  where
    by : (b : Bool) → cond b (Some x) (find_entry xs key) ≡ Some e → (find_entry xs key ≡ Some e → p e ≡ true) → p e ≡ true
    by true h rest = ap p (sym (same_Some x e h)) ∙ (and_parts _ _ all).0
    by false h rest = rest h

list_passes : (p : Entry → Bool) (lists : Transactions) (tx : ℕ) → list_all (λ t. list_all p (unwrap_or t [])) lists ≡ true → list_all p (unwrap_or (option_and_then (λ t. t) (slice_get lists tx)) []) ≡ true
list_passes p [] tx all = refl
list_passes p (None ∷ ts) zero all = refl
list_passes p (Some es ∷ ts) zero all = (and_parts (list_all p es) (list_all (λ t. list_all p (unwrap_or t [])) ts) all).0
list_passes p (t ∷ ts) (suc tx) all = list_passes p ts tx (and_parts (list_all p (unwrap_or t [])) (list_all (λ t. list_all p (unwrap_or t [])) ts) all).1

-- the changes of each transaction have their values
pub list_valued : (blocks : ℕ) (image : Image) (lists : Transactions) (tx : ℕ) → are_valued blocks image lists ≡ true → list_all (has_its_value blocks image) (changes_of lists tx) ≡ true
list_valued blocks image lists tx all = list_passes (has_its_value blocks image) lists tx all

pub own_valued : (blocks : ℕ) (image : Image) (lists : Transactions) (tx : ℕ) (key : List ℕ) (entry : Entry) → are_valued blocks image lists ≡ true → change_of lists tx key ≡ Some entry → has_its_value blocks image entry ≡ true
own_valued blocks image lists tx key entry all is = found_passes (has_its_value blocks image) (changes_of lists tx) key entry (list_valued blocks image lists tx all) (change_in_list (list_of lists tx) key ∙ is)

pub visible_valued : (blocks : ℕ) (image : Image) (entries : List Entry) (key : List ℕ) (entry : Entry) → list_all (has_its_value blocks image) entries ≡ true → find_entry entries key ≡ Some entry → has_its_value blocks image entry ≡ true
visible_valued blocks image entries key entry all is = found_passes (has_its_value blocks image) entries key entry all is

pub page_read : (blocks : ℕ) (image : Image) (key : List ℕ) (page size : ℕ) → has_its_value blocks image (At key page size) ≡ true → HasPage blocks image key page size
page_read blocks image key page size valued =
    let both = and_parts (is_value_block blocks (page / 32)) (has_value key size (image page)) valued in
    let place = and_parts (leb (first_value_block_in blocks) (page / 32)) (ltb (page / 32) blocks) both.0 in
    let held = holds_from key size (image page) both.1 in
    let value = first_bytes size (image page) in
    let named : key_in (image page) ≡ key = ap key_in held.0.page ∙ key_read key value held.0.fits in
    let sized : size_in (image page) ≡ size = ap size_in held.0.page ∙ count_read key value held.0.fits ∙ held.1 in
    let stands : has_value (key_in (image page)) size (image page) ≡ true = ap (λ k. has_value k size (image page)) named ∙ both.1 in
    record {
      region = record { first = leb-true _ _ place.0; last = ltb-true _ _ place.1 };
      stands = stands;
      named = named;
      sized = sized;
      value = ap (λ n. has_value (key_in (image page)) n (image page)) sized ∙ stands;
    }

-- ---- parts of lists

-- entries whose keys pass a test
abbrev keys_that : (List ℕ → Bool) → List Entry → List Entry
keys_that p es = filter (λ e. p (key_of e)) es

find_that : (p : List ℕ → Bool) (xs : List Entry) (key : List ℕ) → find_entry (keys_that p xs) key ≡ cond (p key) (find_entry xs key) None
find_that p [] key = by (p key)
  where
    by : (b : Bool) → ◌≡◌ {A = Option Entry} None (cond b None None)
    by true = refl
    by false = refl
find_that p (x ∷ xs) key = by (has_key key x) (p (key_of x)) refl refl (find_that p xs key)
  where
    by : (h b : Bool) → has_key key x ≡ h → p (key_of x) ≡ b → find_entry (keys_that p xs) key ≡ cond (p key) (find_entry xs key) None
        → find_entry (cond b (x ∷ keys_that p xs) (keys_that p xs)) key ≡ cond (p key) (cond h (Some x) (find_entry xs key)) None
    by true true is passes rest = ap (λ b. cond b (Some x) (find_entry (keys_that p xs) key)) is ∙ ap (λ b. cond b (Some x) None) (sym passes ∙ ap p (key_is key x is))
    by true false is fails rest =
        let same : p key ≡ false = ap p (sym (key_is key x is)) ∙ fails in
        rest ∙ ap (λ b. cond b (find_entry xs key) None) same ∙ sym (ap (λ b. cond b (Some x) None) same)
    by false true is passes rest = ap (λ b. cond b (Some x) (find_entry (keys_that p xs) key)) is ∙ rest
    by false false is fails rest = rest

rises_that : (p : List ℕ → Bool) (xs : List Entry) → is_rising xs ≡ true → is_rising (keys_that p xs) ≡ true
rises_that p xs rising = is_rising-filter (λ e. p (key_of e)) xs rising

-- a part of merged lists is that of both, merged
pub part_merged : (p : List ℕ → Bool) (newer older : List Entry) → is_rising newer ≡ true → is_rising older ≡ true → keys_that p (merged newer older) ≡ merged (keys_that p newer) (keys_that p older)
part_merged p newer older rn ro =
    same_lists _ _ (rises_that p (merged newer older) (is_rising-merged newer older ro)) (is_rising-merged (keys_that p newer) (keys_that p older) (rises_that p older ro)) (λ key.
    find_that p (merged newer older) key
    ∙ ap (λ o. cond (p key) o None) (find-merged newer older key rn)
    ∙ by (p key) (find_entry newer key) (find_entry older key)
    ∙ sym (find-merged (keys_that p newer) (keys_that p older) key (rises_that p newer rn) ∙ (λ i. first_of (find_that p newer key i) (find_that p older key i))))
  where
    by : (b : Bool) (o q : Option Entry) → cond b (first_of o q) None ≡ first_of (cond b o None) (cond b q None)
    by true o q = refl
    by false o q = refl

-- two tests one after the other, in either order
swapped : {X : Type 0} (p q : X → Bool) (xs : List X) → filter p (filter q xs) ≡ filter q (filter p xs)
swapped p q [] = refl
swapped {X} p q (x ∷ xs) = by (p x) (q x) refl refl (swapped p q xs)
  where
    by : (a b : Bool) → p x ≡ a → q x ≡ b → filter p (filter q xs) ≡ filter q (filter p xs) → filter p (cond b (x ∷ filter q xs) (filter q xs)) ≡ filter q (cond a (x ∷ filter p xs) (filter p xs))
    by true true h k rest = ap (λ b. cond b (x ∷ filter p (filter q xs)) (filter p (filter q xs))) h ∙ ap (λ (es : List X). x ∷ es) rest ∙ sym (ap (λ b. cond b (x ∷ filter q (filter p xs)) (filter q (filter p xs))) k)
    by true false h k rest = rest ∙ sym (ap (λ b. cond b (x ∷ filter q (filter p xs)) (filter q (filter p xs))) k)
    by false true h k rest = ap (λ b. cond b (x ∷ filter p (filter q xs)) (filter p (filter q xs))) h ∙ rest
    by false false h k rest = rest

-- both tests at once
both_tests : {X : Type 0} (p q : X → Bool) (xs : List X) → filter (λ x. p x && q x) xs ≡ filter q (filter p xs)
both_tests p q [] = refl
both_tests {X} p q (x ∷ xs) = by (p x) (q x) refl (both_tests p q xs)
  where
    by : (a b : Bool) → q x ≡ b → filter (λ x. p x && q x) xs ≡ filter q (filter p xs) → cond (a && b) (x ∷ filter (λ x. p x && q x) xs) (filter (λ x. p x && q x) xs) ≡ filter q (cond a (x ∷ filter p xs) (filter p xs))
    by true true k rest = ap (λ (es : List X). x ∷ es) rest ∙ sym (ap (λ b. cond b (x ∷ filter q (filter p xs)) (filter q (filter p xs))) k)
    by true false k rest = rest ∙ sym (ap (λ b. cond b (x ∷ filter q (filter p xs)) (filter q (filter p xs))) k)
    by false b k rest = rest

over_objects : (image : Image) (p : List ℕ → Bool) (xs : List Entry) → filter (λ o. p o.0) (map (object_in image) xs) ≡ map (object_in image) (keys_that p xs)
over_objects image p [] = refl
over_objects image p (x ∷ xs) = by (p (key_of x)) (over_objects image p xs)
  where
    by : (b : Bool) → filter (λ o. p o.0) (map (object_in image) xs) ≡ map (object_in image) (keys_that p xs)
        → cond b (object_in image x ∷ filter (λ o. p o.0) (map (object_in image) xs)) (filter (λ o. p o.0) (map (object_in image) xs)) ≡ map (object_in image) (cond b (x ∷ keys_that p xs) (keys_that p xs))
    by true rest = ap (λ (os : List (List ℕ × List ℕ)). object_in image x ∷ os) rest
    by false rest = rest

-- ---- iterate

-- at least a key
abbrev since : List ℕ → List ℕ → Bool
since from key = not (is_lt (key_cmp key from))

turned_test : (a b : List ℕ) → not (is_gt (key_cmp a b)) ≡ not (is_lt (key_cmp b a))
turned_test a b = by (key_cmp a b) refl
  where
    by : (o : Ordering) → key_cmp a b ≡ o → not (is_gt o) ≡ not (is_lt (key_cmp b a))
    by Less h = sym (ap (λ o. not (is_lt o)) (turned a b Less h))
    by Equal h = sym (ap (λ o. not (is_lt o)) (turned a b Equal h))
    by Greater h = sym (ap (λ o. not (is_lt o)) (turned a b Greater h))

wanted_is : (from prefix key : List ℕ) → is_wanted from prefix key ≡ (since from key && starts_with nat_eq key prefix)
wanted_is from prefix key = ap (λ b. b && starts_with nat_eq key prefix) (turned_test from key)

filter_same : {X : Type 0} (p q : X → Bool) (xs : List X) → ((x : X) → p x ≡ q x) → filter p xs ≡ filter q xs
filter_same p q [] same = refl
filter_same p q (x ∷ xs) same = λ i. cond (same x i) (x ∷ filter_same p q xs same i) (filter_same p q xs same i)

pub iterate_all : (flash : Flash) (lists : Transactions) (tx : ℕ) (from prefix : List ℕ) → are_rising lists ≡ true
    → pairs_from (view (machine_of flash true lists) tx) from prefix ≡ pairs_in flash.image prefix (entries_from (changes_of lists tx) from) (entries_from (shown_in flash.image) from)
unfolding pairs_from
iterate_all flash lists tx from prefix rising =
    let mine = changes_of lists tx in
    let visible = shown_in flash.image in
    let from_test : Entry → Bool = λ e. since from (key_of e) in
    let prefix_test : Entry → Bool = λ e. starts_with nat_eq (key_of e) prefix in
    ap (filter (λ o. is_wanted from prefix o.0)) (view_entries flash lists tx)
    ∙ over_objects flash.image (is_wanted from prefix) (seen_by flash lists tx)
    ∙ ap (map (object_in flash.image)) (
    filter_same (λ e. is_wanted from prefix (key_of e)) (λ e. from_test e && prefix_test e) (seen_by flash lists tx) (λ e. wanted_is from prefix (key_of e))
    ∙ both_tests from_test prefix_test (seen_by flash lists tx)
    ∙ ap (filter prefix_test) (swapped from_test (λ e. not (is_gone e)) (merged mine visible) ∙ ap without_marks (part_merged (since from) mine visible (rising_at lists tx rising) (shown_in_rises flash.image))))

-- ---- by pieces

none_of : {X : Type 0} (p : X → Bool) (xs : List X) → list_all (λ x. not (p x)) xs ≡ true → filter p xs ≡ []
none_of p [] all = refl
none_of p (x ∷ xs) all = by (p x) (and_parts _ _ all).0 (none_of p xs (and_parts _ _ all).1)
  where
    by : (b : Bool) → not b ≡ true → filter p xs ≡ [] → cond b (x ∷ filter p xs) (filter p xs) ≡ []
    by true h rest = absurd cc
    by false h rest = rest

all_of : {X : Type 0} (p : X → Bool) (xs : List X) → list_all p xs ≡ true → filter p xs ≡ xs
all_of p [] all = refl
all_of {X} p (x ∷ xs) all = by (p x) (and_parts _ _ all).0 (all_of p xs (and_parts _ _ all).1)
  where
    by : (b : Bool) → b ≡ true → filter p xs ≡ xs → cond b (x ∷ filter p xs) (filter p xs) ≡ x ∷ xs
    by true h rest = ap (λ (es : List X). x ∷ es) rest
    by false h rest = absurd cc

append_nothing : {X : Type 0} (xs : List X) → xs ++ [] ≡ xs
append_nothing [] = refl
append_nothing {X} (x ∷ xs) = ap (λ (es : List X). x ∷ es) (append_nothing xs)

-- the piece is what is below the next key
piece_is : (next : List ℕ) (piece rest entries : List Entry) → IsUpTo next piece rest entries → entries_below entries next ≡ piece
piece_is next piece rest entries up =
    ap (filter (is_below next)) (sym up.first) ∙ filter-append (is_below next) piece rest
    ∙ (λ i. all_of (is_below next) piece up.before i ++ none_of (is_below next) rest up.behind i) ∙ append_nothing piece

-- rising entries are those below a key, and then the others
two_parts : (next : List ℕ) (xs : List Entry) → is_rising xs ≡ true → xs ≡ entries_below xs next ++ entries_from xs next
two_parts next [] rising = refl
two_parts next (x ∷ xs) rising =
    let both = and_parts _ _ rising in
    by (is_below next x) refl (two_parts next xs both.1) both.0
  where
    later : (ys : List Entry) → is_lt (key_cmp (key_of x) next) ≡ false → list_all (λ f. is_lt (key_cmp (key_of x) (key_of f))) ys ≡ true → list_all (λ f. not (is_below next f)) ys ≡ true
    later [] h all = refl
    later (y ∷ ys) h all =
        let both = and_parts _ _ all in
        first (is_below next y) refl (less _ both.0) (later ys h both.1)
      where
        less : (o : Ordering) → is_lt o ≡ true → o ≡ Less
        less Less h = refl
        less Equal h = absurd cc
        less Greater h = absurd cc

        first : (b : Bool) → is_below next y ≡ b → key_cmp (key_of x) (key_of y) ≡ Less → list_all (λ f. not (is_below next f)) ys ≡ true → (not b && list_all (λ f. not (is_below next f)) ys) ≡ true
        first true below lt rest = absurd (let e : true ≡ false = sym (ap is_lt (less_trans (key_of x) (key_of y) next lt (less _ below))) ∙ h in cc)
        first false below lt rest = rest

    by : (b : Bool) → is_below next x ≡ b → xs ≡ entries_below xs next ++ entries_from xs next → list_all (λ f. is_lt (key_cmp (key_of x) (key_of f))) xs ≡ true
        → x ∷ xs ≡ cond b (x ∷ entries_below xs next) (entries_below xs next) ++ cond (not b) (x ∷ entries_from xs next) (entries_from xs next)
    by true h rest above = ap (λ (es : List Entry). x ∷ es) rest
    by false h rest above =
        let behind = later xs h above in
        let none : entries_below xs next ≡ [] = none_of (is_below next) xs behind in
        let whole : entries_from xs next ≡ xs = all_of (λ e. not (is_below next e)) xs behind in
        sym (λ i. none i ++ (x ∷ whole i))

-- from a later key on
later_from : (from next : List ℕ) (xs : List Entry) → is_lt (key_cmp next from) ≡ false → entries_from (entries_from xs from) next ≡ entries_from xs next
later_from from next [] late = refl
later_from from next (x ∷ xs) late = by (is_below from x) (is_below next x) refl refl (later_from from next xs late)
  where
    less : (o : Ordering) → is_lt o ≡ true → o ≡ Less
    less Less h = refl
    less Equal h = absurd cc
    less Greater h = absurd cc

    -- below the first and not below the later one
    never : is_below from x ≡ true → is_below next x ≡ false → ⊥
    never a b = order (key_cmp next from) refl late
      where
        order : (o : Ordering) → key_cmp next from ≡ o → is_lt o ≡ false → ⊥
        order Less e h = absurd cc
        order Equal e h =
            let t : is_lt (key_cmp (key_of x) next) ≡ true = ap is_lt (same_left_of e) in
            absurd (let f : true ≡ false = sym t ∙ b in cc)
          where
            same_left_of : key_cmp next from ≡ Equal → key_cmp (key_of x) next ≡ Less
            same_left_of e = ap (λ k. key_cmp (key_of x) k) (same_key next from e) ∙ less _ a
        order Greater e h = absurd (let f : true ≡ false = sym (ap is_lt (less_trans (key_of x) from next (less _ a) (turned next from Greater e))) ∙ b in cc)

    by : (a b : Bool) → is_below from x ≡ a → is_below next x ≡ b → entries_from (entries_from xs from) next ≡ entries_from xs next
        → entries_from (cond (not a) (x ∷ entries_from xs from) (entries_from xs from)) next ≡ cond (not b) (x ∷ entries_from xs next) (entries_from xs next)
    by true true h k rest = rest
    by true false h k rest = absurd (never h k)
    by false true h k rest = ap (λ b. cond (not b) (x ∷ entries_from (entries_from xs from) next) (entries_from (entries_from xs from) next)) k ∙ rest
    by false false h k rest = ap (λ b. cond (not b) (x ∷ entries_from (entries_from xs from) next) (entries_from (entries_from xs from) next)) k ∙ ap (λ (es : List Entry). x ∷ es) rest

pub iterate_piece : (flash : Flash) (lists : Transactions) (tx : ℕ) (from next prefix : List ℕ) (piece rest : List Entry) → are_rising lists ≡ true → is_lt (key_cmp next from) ≡ false → IsUpTo next piece rest (entries_from (shown_in flash.image) from)
    → pairs_from (view (machine_of flash true lists) tx) from prefix ≡ pairs_in flash.image prefix (entries_below (entries_from (changes_of lists tx) from) next) piece ++ pairs_from (view (machine_of flash true lists) tx) next prefix
iterate_piece flash lists tx from next prefix piece rest rising late up =
    let mine = entries_from (changes_of lists tx) from in
    let visible = entries_from (shown_in flash.image) from in
    let rm = rises_that (since from) (changes_of lists tx) (rising_at lists tx rising) in
    let rv = rises_that (since from) (shown_in flash.image) (shown_in_rises flash.image) in
    let whole = is_rising-merged mine visible rv in
    let prefix_test : Entry → Bool = λ e. starts_with nat_eq (key_of e) prefix in
    let front : entries_below (merged mine visible) next ≡ merged (entries_below mine next) piece =
    part_merged (λ k. is_lt (key_cmp k next)) mine visible rm rv ∙ ap (merged (entries_below mine next)) (piece_is next piece rest visible up) in
    let back : entries_from (merged mine visible) next ≡ merged (entries_from (changes_of lists tx) next) (entries_from (shown_in flash.image) next) =
    part_merged (since next) mine visible rm rv ∙ (λ i. merged (later_from from next (changes_of lists tx) late i) (later_from from next (shown_in flash.image) late i)) in
    let split : merged mine visible ≡ merged (entries_below mine next) piece ++ merged (entries_from (changes_of lists tx) next) (entries_from (shown_in flash.image) next) =
    two_parts next (merged mine visible) whole ∙ (λ i. front i ++ back i) in
    iterate_all flash lists tx from prefix rising
    ∙ ap (λ es. map (object_in flash.image) (with_prefix prefix (without_marks es))) split
    ∙ ap (λ es. map (object_in flash.image) (with_prefix prefix es)) (filter-append (λ e. not (is_gone e)) (merged (entries_below mine next) piece) (merged (entries_from (changes_of lists tx) next) (entries_from (shown_in flash.image) next)))
    ∙ ap (map (object_in flash.image)) (filter-append prefix_test (without_marks (merged (entries_below mine next) piece)) (without_marks (merged (entries_from (changes_of lists tx) next) (entries_from (shown_in flash.image) next))))
    ∙ map-append (object_in flash.image) (with_prefix prefix (without_marks (merged (entries_below mine next) piece))) (with_prefix prefix (without_marks (merged (entries_from (changes_of lists tx) next) (entries_from (shown_in flash.image) next))))
    ∙ ap (λ (ps : List (List ℕ × List ℕ)). pairs_in flash.image prefix (entries_below mine next) piece ++ ps) (sym (iterate_all flash lists tx next prefix rising))

pub iterate_last : (flash : Flash) (lists : Transactions) (tx : ℕ) (from prefix : List ℕ) → are_rising lists ≡ true → entries_from (shown_in flash.image) from ≡ []
    → pairs_from (view (machine_of flash true lists) tx) from prefix ≡ map (object_in flash.image) (with_prefix prefix (without_marks (entries_from (changes_of lists tx) from)))
iterate_last flash lists tx from prefix rising none =
    iterate_all flash lists tx from prefix rising
    ∙ ap (λ es. map (object_in flash.image) (with_prefix prefix (without_marks es))) (ap (merged (entries_from (changes_of lists tx) from)) none ∙ merge_alone (entries_from (changes_of lists tx) from) (rises_that (since from) (changes_of lists tx) (rising_at lists tx rising)))

pub take_both : {X : Type 0} (n : ℕ) (xs ys : List X) → take n (xs ++ ys) ≡ take n xs ++ take (n - length xs) ys
take_both zero [] ys = refl
take_both (suc n) [] ys = ap (λ m. take m ys) (let t : suc n ≡ suc n - 0 = omega arith in t)
take_both zero (x ∷ xs) ys = ap (λ m. take m ys) (let t : 0 ≡ 0 - length (x ∷ xs) = omega arith in t)
take_both {X} (suc n) (x ∷ xs) ys =
    let rest = take_both n xs ys in
    let less : n - length xs ≡ suc n - length (x ∷ xs) = omega arith in
    ap (λ (es : List X). x ∷ es) (rest ∙ ap (λ m. take n xs ++ take m ys) less)
