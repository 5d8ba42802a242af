-- How large the objects are after a group of entries.
use Rattle.std.proofs.Common.{◌≡◌, ◌∙◌, ℕ, ◌+◌, Bool, true, false, cond, not, List, [], ◌∷◌, ◌++◌, length, Option, Some, None, sum_by, refl, ap, arith}
use Rattle.std.specs.List.{AllByRecursion, list_all}
use Rattle.std.specs.FinMap as objects
use Rattle.std.proofs.lemmas.Bool.{and_parts, and_from}
use Rattle.std.proofs.lemmas.List.Sums.{sum_by-cons, sum_by-append, length-filter}
use Rattle.kv_nand.specs.Flash.{Flash, Image}
use Rattle.kv_nand.specs.Flash as flash_words
use Rattle.kv_device.specs.Machine.{view}
use Rattle.kv_device.specs.Objects.{page_count}
use Rattle.kssd_entry.specs.declared.entry.Entry.{Entry}
use Rattle.kssd_entry.specs.Spelling.{key_of, FitsEntry}
use Rattle.kssd_model.specs.Rising.{is_gone, find_entry, merged}
use Rattle.kssd_image.specs.Stages.{without_marks, the_anchor, merged_by, shown_by, shown_in}
use Rattle.kssd_image.specs.Whole.{pages_named, has_its_value, IsWhole}
use Rattle.kssd_frames.specs.Logging.{shown_after}
use Rattle.kssd_frames.proofs.Changes as made
use Rattle.kssd_frames.proofs.ShownLaws.{shown_in_rises, objects_len, pages_counted}
use Rattle.kssd_tx.specs.Lists.{Transactions, changes_of}
use Rattle.kssd_machine.specs.Names.{are_rising, are_valued}
use Rattle.kssd_machine.specs.Sizes.{listed, replaced, kept_count}
use Rattle.kssd_machine.specs.Machines.{machine_of}
use Rattle.kssd_machine.proofs.Standing.{bytes_of}
use Rattle.kssd_machine.proofs.Transacting.{rising_at}
use Rattle.kssd_machine.proofs.Seeing.{view_is, list_valued, found_passes}
use Rattle.kssd_machine.proofs.Weighing.{after_sum, unmarked_sum, rising_differ, as_page, as_key, page_light, key_light, pages_sum}

pub keys_after : (flash : Flash) (lists : Transactions) (tx : ℕ) → objects.len (view (machine_of flash true lists) tx) ≡ length (shown_after flash.image (changes_of lists tx))
keys_after flash lists tx = ap objects.len (view_is flash lists tx) ∙ made.keys_after flash.image (changes_of lists tx)

-- no visible entry is a deletion mark
kept_all : (xs : List Entry) → list_all (λ e. not (is_gone e)) (without_marks xs) ≡ true
kept_all [] = refl
kept_all (x ∷ xs) = by (is_gone x) refl (kept_all xs)
  where
    by : (g : Bool) → is_gone x ≡ g → list_all (λ e. not (is_gone e)) (without_marks xs) ≡ true → list_all (λ e. not (is_gone e)) (cond (not g) (x ∷ without_marks xs) (without_marks xs)) ≡ true
    by true h rest = rest
    by false h rest = and_from _ _ (ap not h) rest

pub shown_kept : (image : Image) → list_all (λ e. not (is_gone e)) (shown_in image) ≡ true
unfolding shown_in shown_by
shown_kept image = kept_all (merged_by image (the_anchor image))

-- those that are replaced are among them
replaced_kept : (older entries : List Entry) → list_all (λ e. not (is_gone e)) older ≡ true → sum_by as_key (replaced older entries) ≡ length (replaced older entries)
replaced_kept older [] all = refl
replaced_kept older (e ∷ es) all =
    let rest = replaced_kept older es all in
    let split = sum_by-append as_key (listed (find_entry older (key_of e))) (replaced older es) in
    by (find_entry older (key_of e)) refl rest split
  where
    by : (o : Option Entry) → find_entry older (key_of e) ≡ o → sum_by as_key (replaced older es) ≡ length (replaced older es) → sum_by as_key (listed o ++ replaced older es) ≡ sum_by as_key (listed o) + sum_by as_key (replaced older es)
        → sum_by as_key (listed o ++ replaced older es) ≡ length (listed o ++ replaced older es)
    by None is rest split = rest
    by (Some x) is rest split =
        let kept : as_key x ≡ 1 = ap {B = ℕ} (λ b. cond b 1 0) (found_passes (λ e. not (is_gone e)) older (key_of e) x all is) in
        let first = sum_by-cons as_key x [] in
        omega arith

pub keys_counted : (flash : Flash) (lists : Transactions) (tx : ℕ) → are_rising lists ≡ true
    → objects.len (view (machine_of flash true lists) tx) + length (replaced (shown_in flash.image) (changes_of lists tx)) ≡ length (shown_in flash.image) + kept_count (changes_of lists tx)
keys_counted flash lists tx rising =
    let mine = changes_of lists tx in
    let visible = shown_in flash.image in
    let sum = after_sum as_key key_light mine visible (shown_in_rises flash.image) (rising_differ mine (rising_at lists tx rising)) in
    let after = keys_after flash lists tx in
    let merged_ = length-filter (λ e. not (is_gone e)) (merged mine visible) in
    let light = unmarked_sum as_key key_light (merged mine visible) in
    let gone = replaced_kept visible mine (shown_kept flash.image) in
    let now : sum_by as_key visible ≡ length visible = kept_sum visible (shown_kept flash.image) in
    omega arith
  where
    kept_sum : (xs : List Entry) → list_all (λ e. not (is_gone e)) xs ≡ true → sum_by as_key xs ≡ length xs
    kept_sum [] all = refl
    kept_sum (x ∷ xs) all =
        let both = and_parts _ _ all in
        let rest = kept_sum xs both.1 in
        let one : as_key x ≡ 1 = ap {B = ℕ} (λ b. cond b 1 0) both.0 in
        let first = sum_by-cons as_key x xs in
        omega arith

-- ---- pages

pub after_valued : (blocks : ℕ) (image : Image) (lists : Transactions) (tx : ℕ) → list_all (has_its_value blocks image) (shown_in image) ≡ true → are_valued blocks image lists ≡ true → list_all (has_its_value blocks image) (shown_after image (changes_of lists tx)) ≡ true
after_valued blocks image lists tx visible valued = made.values_merge blocks image (changes_of lists tx) (shown_in image) (list_valued blocks image lists tx valued) visible

pub pages_after : (flash : Flash) (lists : Transactions) (tx : ℕ) → flash_words.IsSound flash → IsWhole flash.blocks flash.image → are_valued flash.blocks flash.image lists ≡ true → AllByRecursion FitsEntry (changes_of lists tx)
    → page_count (view (machine_of flash true lists) tx) ≡ length (pages_named (shown_after flash.image (changes_of lists tx)))
pages_after flash lists tx sound whole valued fits =
    ap page_count (view_is flash lists tx)
    ∙ made.pages_after flash.blocks flash.image (changes_of lists tx) (bytes_of flash sound) fits (after_valued flash.blocks flash.image lists tx whole.values.pages valued)

pub pages_counted_after : (flash : Flash) (lists : Transactions) (tx : ℕ) → flash_words.IsSound flash → IsWhole flash.blocks flash.image → are_rising lists ≡ true → are_valued flash.blocks flash.image lists ≡ true → AllByRecursion FitsEntry (changes_of lists tx)
    → page_count (view (machine_of flash true lists) tx) + length (pages_named (replaced (shown_in flash.image) (changes_of lists tx))) ≡ length (pages_named (shown_in flash.image)) + length (pages_named (changes_of lists tx))
pages_counted_after flash lists tx sound whole rising valued fits =
    let mine = changes_of lists tx in
    let visible = shown_in flash.image in
    let after = pages_after flash lists tx sound whole valued fits in
    let sum = after_sum as_page page_light mine visible (shown_in_rises flash.image) (rising_differ mine (rising_at lists tx rising)) in
    let a = pages_sum (shown_after flash.image mine) in
    let b = pages_sum (replaced visible mine) in
    let c = pages_sum visible in
    let d = pages_sum mine in
    omega arith

pub keys_now : (flash : Flash) (lists : Transactions) → objects.len (machine_of flash true lists).stable ≡ length (shown_in flash.image)
keys_now flash lists = objects_len flash.image

pub pages_now : (flash : Flash) (lists : Transactions) → flash_words.IsSound flash → IsWhole flash.blocks flash.image → page_count (machine_of flash true lists).stable ≡ length (pages_named (shown_in flash.image))
pages_now flash lists sound whole = pages_counted flash.blocks flash.image (bytes_of flash sound) whole
