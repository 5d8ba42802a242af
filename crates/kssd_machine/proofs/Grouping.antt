-- The moves of a collection as a group by rising keys.
use Rattle.std.proofs.Common.{◌≡◌, ◌⊎◌, inl, inr, ◌∙◌, ℕ, ◌≤◌, Bool, true, false, cond, List, [], ◌∷◌, length, sum_by, refl, sym, ap, subst, arith}
use Rattle.std.specs.Prelude.{filter}
use Rattle.std.specs.List.{AllByRecursion, list_all}
use Rattle.std.specs.FinMap as objects
use Rattle.std.proofs.lemmas.Bool.{and_parts, and_from}
use Rattle.std.proofs.lemmas.List.{length-map}
use Rattle.std.proofs.lemmas.List.Sums.{sum_by-cons}
use Rattle.kv_nand.specs.Flash.{Image}
use Rattle.kv_device.specs.Objects.{page_count}
use Rattle.kssd_entry.specs.declared.entry.Entry.{Entry}
use Rattle.kssd_entry.specs.Spelling.{FitsEntry}
use Rattle.kssd_model.specs.GroupsLaws.{HasBytes}
use Rattle.kssd_model.specs.Rising.{is_rising, merged}
use Rattle.kssd_model.proofs.RisingEntries.{is_rising-merged}
use Rattle.kssd_image.specs.Stages.{without_marks, shown_in, objects_in}
use Rattle.kssd_image.specs.Whole.{pages_named, has_its_value, AreValuesWhole, IsWhole}
use Rattle.kssd_frames.specs.Logging.{shown_after}
use Rattle.kssd_frames.specs.Changing.{IsMove}
use Rattle.kssd_frames.proofs.Changes.{keys_after, pages_after, moves_keep, values_merge}
use Rattle.kssd_frames.proofs.Lookups.{merge_over}
use Rattle.kssd_frames.proofs.ShownLaws.{shown_in_rises, all_merged, objects_len, pages_counted}
use Rattle.kssd_values.specs.declared.values.Values.{Values}
use Rattle.kssd_values.specs.Blocks.{device_of, mark_at}
use Rattle.kssd_reclaim.specs.declared.reclaim.Reclaim.{Reclaim}
use Rattle.kssd_reclaim.specs.Sources.{is_visible, move_of}
use Rattle.kssd_reclaim.specs.Reclaim.{copies_of, moves_of}
use Rattle.kssd_machine.specs.Names.{times}
use Rattle.kssd_machine.specs.Sizes.{replaced, keys_differ}
use Rattle.kssd_machine.specs.Marked.{is_named}
use Rattle.kssd_machine.specs.Collecting.{AreMoves}
use Rattle.kssd_machine.proofs.Weighing.{as_name, name_light, merged_sum, after_sum, rising_differ}
use Rattle.kssd_machine.specs.Ending.{AreBlocksSame}
use Rattle.kssd_machine.proofs.Finishing.{objects_same, objects_after}
use Rattle.kssd_machine.proofs.Tagging.{named_some, named_none}

pub rises : (moves : List Entry) → is_rising (merged moves []) ≡ true
rises moves = is_rising-merged moves [] refl

pub same_outcome : (moves older : List Entry) → is_rising older ≡ true → merged (merged moves []) older ≡ merged moves older
same_outcome moves older rising = merge_over moves older rising

-- over nothing nothing is replaced
none_replaced : (es : List Entry) → replaced [] es ≡ []
none_replaced [] = refl
none_replaced (e ∷ es) = none_replaced es

-- in order they weigh as much
same_sum : (w : Entry → ℕ) (moves : List Entry) → keys_differ moves ≡ true → sum_by w (merged moves []) ≡ sum_by w moves
same_sum w moves differ =
    let sum = merged_sum w moves [] refl differ in
    let none = ap (sum_by w) (none_replaced moves) in
    omega arith

one_each : (es : List Entry) → sum_by (λ e. 1) es ≡ length es
one_each [] = refl
one_each (e ∷ es) = let rest = one_each es in let first = sum_by-cons (λ (x : Entry). 1) e es in omega arith

pub same_size : (moves : List Entry) → keys_differ moves ≡ true → length (merged moves []) ≡ length moves
same_size moves differ = sym (one_each (merged moves [])) ∙ same_sum (λ e. 1) moves differ ∙ one_each moves

fewer_pass : {X : Type 0} (p : X → Bool) (xs : List X) → length (filter p xs) ≤ length xs
fewer_pass p [] = omega arith
fewer_pass p (x ∷ xs) = by (p x) (fewer_pass p xs)
  where
    by : (b : Bool) → length (filter p xs) ≤ length xs → length (cond b (x ∷ filter p xs) (filter p xs)) ≤ length (x ∷ xs)
    by true rest = omega arith
    by false rest = omega arith

pub few_moves : (r : Reclaim) (v : Values) → length (moves_of r v) ≤ length (copies_of r)
few_moves r v =
    let few = fewer_pass (λ copy. is_visible (mark_at v copy.source)) (copies_of r) in
    let same = length-map (filter (λ copy. is_visible (mark_at v copy.source)) (copies_of r)) move_of in
    omega arith

-- ---- the same pages are named

same_times : (page : ℕ) (moves : List Entry) → keys_differ moves ≡ true → times page (merged moves []) ≡ times page moves
same_times page moves differ = same_sum (as_name page) moves differ

same_replaced : (page : ℕ) (moves visible : List Entry) → is_rising visible ≡ true → keys_differ moves ≡ true → times page (replaced visible (merged moves [])) ≡ times page (replaced visible moves)
same_replaced page moves visible rising differ =
    let one = after_sum (as_name page) (name_light page) (merged moves []) visible rising (rising_differ (merged moves []) (rises moves)) in
    let other = after_sum (as_name page) (name_light page) moves visible rising differ in
    let after = ap (λ es. times page (without_marks es)) (same_outcome moves visible rising) in
    let here = same_times page moves differ in
    omega arith

-- as often named, both are or neither
alike : (page : ℕ) (xs ys : List Entry) → times page xs ≡ times page ys → is_named page xs ≡ is_named page ys
alike page xs ys same = by (is_named page xs) (is_named page ys) refl refl
  where
    by : (a b : Bool) → is_named page xs ≡ a → is_named page ys ≡ b → a ≡ b
    by true true h k = refl
    by false false h k = refl
    by true false h k = absurd (let some = named_some page xs h in let none = named_none page ys k in let t : ⊥ = omega arith in t)
    by false true h k = absurd (let none = named_none page xs h in let some = named_some page ys k in let t : ⊥ = omega arith in t)

from_test : (p : Entry → Bool) (xs : List Entry) → list_all p xs ≡ true → AllByRecursion (λ e. p e ≡ true) xs
from_test p [] all = tt
from_test p (x ∷ xs) all = let both = and_parts _ _ all in (both.0, from_test p xs both.1)

to_test : (p : Entry → Bool) (xs : List Entry) → AllByRecursion (λ e. p e ≡ true) xs → list_all p xs ≡ true
to_test p [] all = refl
to_test p (x ∷ xs) all = and_from _ _ all.0 (to_test p xs all.1)

pub ordered : (r : Reclaim) (v : Values) (image : Image) (moves : List Entry) → AreMoves r v image moves → AreMoves r v image (merged moves [])
ordered r v image moves are =
    let valued = has_its_value (device_of v) image in
    record {
      each = all_merged (IsMove image) moves [] are.each tt;
      differ = rising_differ (merged moves []) (rises moves);
      once = λ page. subst (λ n. n ≤ 1) (sym (same_times page moves are.differ)) (are.once page);
      dead = λ page is. are.dead page (sym (alike page (merged moves []) moves (same_times page moves are.differ)) ∙ is);
      targets = λ page is. are.targets page (sym (alike page (merged moves []) moves (same_times page moves are.differ)) ∙ is);
      valued = to_test valued (merged moves []) (all_merged (λ e. valued e ≡ true) moves [] (from_test valued moves are.valued) tt);
      sources = λ page. alike page (replaced (shown_in image) (merged moves [])) (replaced (shown_in image) moves) (same_replaced page moves (shown_in image) (shown_in_rises image) are.differ) ∙ are.sources page;
    }

-- ---- the objects stay, and as many keys and pages

pub objects_kept : (blocks : ℕ) (old new : Image) (moves : List Entry) → AreValuesWhole blocks old (shown_in old) → AllByRecursion (IsMove old) moves → list_all (has_its_value blocks old) moves ≡ true → AreBlocksSame blocks old new
    → (shown_in new ≡ shown_in old) ⊎ (shown_in new ≡ shown_after old moves) → objects_in new ≡ objects_in old
objects_kept blocks old new moves whole each valued same which = elim which [
  | inl before ↦ objects_same blocks old new whole same before
  | inr later ↦ objects_after blocks old new moves (values_merge blocks old moves (shown_in old) valued whole.pages) same later ∙ moves_keep old moves each
]

pub keys_kept : (image : Image) (moves : List Entry) → AllByRecursion (IsMove image) moves → length (shown_after image moves) ≡ length (shown_in image)
keys_kept image moves each = sym (keys_after image moves) ∙ ap objects.len (moves_keep image moves each) ∙ objects_len image

pub pages_kept : (blocks : ℕ) (image : Image) (moves : List Entry) → HasBytes image → IsWhole blocks image → AllByRecursion FitsEntry moves → AllByRecursion (IsMove image) moves → list_all (has_its_value blocks image) moves ≡ true
    → length (pages_named (shown_after image moves)) ≡ length (pages_named (shown_in image))
pages_kept blocks image moves has whole fits each valued =
    sym (pages_after blocks image moves has fits (values_merge blocks image moves (shown_in image) valued whole.values.pages))
    ∙ ap page_count (moves_keep image moves each)
    ∙ pages_counted blocks image has whole
