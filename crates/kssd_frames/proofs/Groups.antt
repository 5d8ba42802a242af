-- What operations leave on the ring.
use Rattle.std.proofs.Common.{◌≡◌, ◌∙◌, ℕ, ◌+◌, ◌-◌, ◌*◌, ◌<◌, ◌≤◌, ◌^◌, true, cond, eqb, max, List, [], ◌∷◌, ◌++◌, length, map, Option, Some, None, refl, sym, ap, subst, arith, inl, inr, append-nil}
use Rattle.std.specs.Prelude.{is_some}
use Rattle.std.specs.List.{All}
use Rattle.std.specs.FinMap as objects
use Rattle.std.specs.declared.cmp.Ordering.{Ordering}
use Rattle.std.specs.declared.cmp.Ordering.TheVariants.{Less, Equal, Greater}
use Rattle.std.specs.Ordering.{nat_cmp, match_ordering}
use Rattle.std.specs.Cmp.Lexicographic.{slice_cmp}
use Rattle.std.specs.BTreeSet.{insert_key}
use Rattle.std.proofs.lemmas.List.{length-map}
use Rattle.std.proofs.lemmas.List.Concat.{flat_map-append}
use Rattle.kv_nand.specs.Flash.{Image}
use Rattle.kssd_entry.specs.declared.entry.Entry.{Entry}
use Rattle.kssd_entry.specs.Spelling.{key_of}
use Rattle.kssd_model.specs.declared.anchor.Anchor.{Anchor}
use Rattle.kssd_model.specs.declared.anchor.Found.{Found}
use Rattle.kssd_model.specs.Anchors.{newest_in}
use Rattle.kssd_model.specs.Rising as rising_words
use Rattle.kssd_model.specs.Rising.{key_cmp, is_rising, find_entry, put_entry, merged, first_of}
use Rattle.kssd_model.specs.Groups.{LogPage, Walk, HasLog, log_in, rest_from, turn_count, logged, key_set, WithinBlocks}
use Rattle.kssd_model.specs.GroupsLaws.{HasBytes}
use Rattle.kssd_model.proofs.RisingEntries.{is_rising-merged}
use Rattle.kssd_model.proofs.GroupsDamage.{keys_grow}
use Rattle.kssd_model.proofs.GroupsWalks.{log_in_is, groups_in_log, log_from_walk}
use Rattle.kssd_image.specs.Stages.{anchor_of, the_anchor, entries_of, log_map, runs_map, without_marks, merged_by, shown_by, shown_in, object_in, objects_in}
use Rattle.kssd_image.specs.AnchorForm.{anchor_age}
use Rattle.kssd_image.specs.Whole.{log_of, IsLogWhole, pages_named, IsIndexOf, AreValuesWhole, IsWhole, age_by, age_of, age_in}
use Rattle.kssd_frames.specs.Same.{as_counted, IsSameAt, Stays}
use Rattle.kssd_frames.specs.Logging.{IsLogOf, groups_by, HasLogNow, aged, shown_after, Appends}
use Rattle.kssd_frames.proofs.Lookups.{same_key, merge_three, merge_over, merge_more, marks_below}
use Rattle.kssd_frames.proofs.ShownLaws.{runs_rise, log_rises, merged_rises, all_logged}
use Rattle.kssd_frames.proofs.SameImages.{IsSameRun, newest_in_alike, runs_alike, index_from, objects_alike, objects_follow, values_stay, whole_from}
use Rattle.kssd_frames.proofs.Changes.{after_is}
use Rattle.kssd_frames.proofs.SparePages.{runs_outside, values_outside}

-- ---- keys

insert_is : (xs : List Entry) (e : Entry) → map key_of (put_entry xs e) ≡ insert_key (slice_cmp nat_cmp) (map key_of xs) (key_of e)
insert_is [] e = refl
insert_is (x ∷ xs) e = by (key_cmp (key_of e) (key_of x)) refl (insert_is xs e)
  where
    keys : List (List ℕ)
    keys = map key_of xs

    by : (o : Ordering) → key_cmp (key_of e) (key_of x) ≡ o → map key_of (put_entry xs e) ≡ insert_key (slice_cmp nat_cmp) keys (key_of e)
        → map key_of (rising_words.by_order o (e ∷ x ∷ xs) (e ∷ xs) (x ∷ put_entry xs e)) ≡ match_ordering o (key_of e ∷ key_of x ∷ keys) (key_of x ∷ keys) (key_of x ∷ insert_key (slice_cmp nat_cmp) keys (key_of e))
    by Less h rest = refl
    by Equal h rest = ap (λ (k : List ℕ). k ∷ keys) (same_key (key_of e) (key_of x) h)
    by Greater h rest = ap (λ (ks : List (List ℕ)). key_of x ∷ ks) rest

keys_of_merged : (entries older : List Entry) → map key_of (merged entries older) ≡ key_set (map key_of older) entries
keys_of_merged [] older = refl
keys_of_merged (e ∷ es) older = keys_of_merged es (put_entry older e) ∙ ap (λ (ks : List (List ℕ)). key_set ks es) (insert_is older e)

pub keys_are_entries : (entries : List Entry) → length (key_set [] entries) ≡ length (merged entries [])
keys_are_entries entries = sym (ap length (keys_of_merged entries [])) ∙ length-map (merged entries []) key_of

pub first_keys : (xs ys : List Entry) → length (key_set [] xs) ≤ length (key_set [] (xs ++ ys))
first_keys xs ys =
    let grow = keys_grow (page xs ∷ []) (page ys ∷ []) in
    omega (arith, grow, ap (λ (es : List Entry). length (key_set [] es)) (append-nil xs), ap (λ (es : List Entry). length (key_set [] (xs ++ es))) (append-nil ys))
  where
    page : List Entry → LogPage
    page es = record { flags = 0; entries = es }

-- ---- the log now

within_few : (turns : ℕ) (xs : List LogPage) → turns + turn_count xs ≤ 15 → WithinBlocks turns xs
within_few turns [] h = tt
within_few turns (x ∷ xs) h = (omega arith, within_few (turns + cond (eqb x.flags 2) 1 0) xs (omega arith))

pub log_is_whole : (image : Image) (page number : ℕ) (groups : List (List Entry)) (rest : List Entry) (turns end next : ℕ) → HasLog image page number groups rest turns end next → turns ≤ 15 → next < 2 ^ 64 → length (key_set [] (entries_of groups ++ rest)) ≤ 2048 → IsLogWhole image (log_in image page number)
log_is_whole image page number groups rest turns end next log few fits keys =
    let is = log_in_is image page number groups rest turns end next log fits in
    let entries : logged log.pages ≡ entries_of groups ++ rest = sym (all_logged [] log.pages) ∙ (λ i. entries_of (log.groups_are i) ++ log.rest_is i) in
    subst (λ (w : Walk). IsLogWhole image w) (sym is) (record {
      allowed = record { blocks = within_few 0 log.pages (omega (arith, log.turns_are)); keys = omega (arith, ap (λ (es : List Entry). length (key_set [] es)) entries) };
      ends = log.ends;
    })

pub log_stands : (blocks : ℕ) (image : Image) (anchor : Anchor) → HasBytes image → IsIndexOf blocks image anchor
    → HasLog image (32 * anchor.log_block) anchor.log_seq (groups_by image anchor) (rest_from [] (log_of image anchor).pages) (turn_count (log_of image anchor).pages) (log_of image anchor).end (log_of image anchor).next
log_stands blocks image anchor has index = log_from_walk image (32 * anchor.log_block) anchor.log_seq (log_of image anchor).end (log_of image anchor).next (rest_from [] (log_of image anchor).pages) has refl refl index.log.ends refl

pub log_facts : (image : Image) (page number : ℕ) (groups : List (List Entry)) (rest : List Entry) (turns end next : ℕ) → HasLog image page number groups rest turns end next → next < 2 ^ 64 → IsLogOf image page number groups rest turns end next
unfolding log_map
log_facts image page number groups rest turns end next log fits =
    let is = log_in_is image page number groups rest turns end next log fits in
    let groups_are = groups_in_log image page number groups rest turns end next log fits in
    record {
      groups_are = groups_are;
      rest_is = ap (λ (w : Walk). rest_from [] w.pages) is ∙ log.rest_is;
      turns_are = ap (λ (w : Walk). turn_count w.pages) is ∙ log.turns_are;
      end_is = ap (λ (w : Walk). w.end) is;
      next_is = ap (λ (w : Walk). w.next) is;
      map_is = ap (λ (gs : List (List Entry)). merged (entries_of gs) []) groups_are;
    }

-- later groups over earlier ones
pub groups_over : (early late : List (List Entry)) → merged (entries_of (early ++ late)) [] ≡ merged (merged (entries_of late) []) (merged (entries_of early) [])
groups_over early late =
    ap (λ (es : List Entry). merged es []) (flat_map-append (λ (g : List Entry). g) early late)
    ∙ merge_more (entries_of early) (entries_of late) []
    ∙ sym (merge_over (entries_of late) (merged (entries_of early) []) (is_rising-merged (entries_of early) [] refl))

-- a log that a mount takes has few enough keys, those of a group that isn't whole counted
pub keys_of_whole : (blocks : ℕ) (image : Image) (anchor : Anchor) → IsIndexOf blocks image anchor → length (key_set [] (entries_of (groups_by image anchor) ++ rest_from [] (log_of image anchor).pages)) ≤ 2048
keys_of_whole blocks image anchor index =
    omega (arith, index.log.allowed.keys, ap (λ (es : List Entry). length (key_set [] es)) (all_logged [] (log_of image anchor).pages))

-- an image with an anchor has the age by it
age_with : (image : Image) (o : Option Found) → is_some o ≡ true → age_of image o ≡ age_by image (anchor_of o)
age_with image None h = absurd cc
age_with image (Some f) h = refl

-- ---- what the ring's new pages leave

pub record Now (blocks : ℕ) (old new : Image) (groups : List (List Entry)) (next : ℕ) : Type 0 where
  pub newest : newest_in new ≡ newest_in old
  pub anchor : the_anchor new ≡ the_anchor old
  pub runs : All (IsSameRun old new) (the_anchor old).runs
  pub merged_is : merged_by new (the_anchor old) ≡ merged (merged (entries_of groups) []) (runs_map old (the_anchor old).runs)
  pub whole : IsLogWhole new (log_of new (the_anchor old))
  pub age_is : age_in new ≡ aged old next
  pub behind : (page : ℕ) → 640 ≤ page → IsSameAt old new page

anchor_same : (old new : Image) → newest_in new ≡ newest_in old → the_anchor new ≡ the_anchor old
unfolding the_anchor
anchor_same old new e = ap anchor_of e

anchor_is : (image : Image) → anchor_of (newest_in image) ≡ the_anchor image
unfolding the_anchor
anchor_is image = refl

now : (blocks : ℕ) (old new : Image) (groups : List (List Entry)) (rest : List Entry) (next : ℕ) → IsWhole blocks old → HasLogNow old new groups rest next → Now blocks old new groups next
unfolding log_map merged_by age_in
now blocks old new groups rest next whole h =
    let a = the_anchor old in
    let newest = newest_in_alike old new (λ page lt. ap as_counted (h.outside page (inl lt))) in
    let behind = λ (page : ℕ) (le : 640 ≤ page). ap as_counted (h.outside page (inr le)) in
    let runs = runs_outside blocks old new a whole.index.form behind in
    let is = log_in_is new (32 * a.log_block) a.log_seq groups rest h.turns h.end next h.log h.numbers in
    let groups_are = groups_in_log new (32 * a.log_block) a.log_seq groups rest h.turns h.end next h.log h.numbers in
    record {
      newest = newest;
      anchor = anchor_same old new newest;
      runs = runs;
      merged_is = λ i. merged (merged (entries_of (groups_are i)) []) (runs_alike old new a.runs runs i);
      whole = log_is_whole new (32 * a.log_block) a.log_seq groups rest h.turns h.end next h.log h.few h.numbers h.keys;
      age_is = ap (age_of new) newest ∙ age_with new (newest_in old) whole.found ∙ ap (age_by new) (anchor_is old) ∙ (λ i. max (anchor_age a) ((is i).next - 1));
      behind = behind;
    }

-- with the entries as before
pub same_groups : (blocks : ℕ) (old new : Image) (rest : List Entry) (next : ℕ) → IsWhole blocks old → HasLogNow old new (groups_by old (the_anchor old)) rest next → Stays blocks old new (aged old next)
unfolding log_map merged_by shown_by shown_in
same_groups blocks old new rest next whole h =
    let a = the_anchor old in
    let n = now blocks old new (groups_by old a) rest next whole h in
    let all : merged_by new a ≡ merged_by old a = n.merged_is in
    let by_anchor : shown_by new a ≡ shown_by old a = ap without_marks all in
    let shown : shown_in new ≡ shown_in old = ap (shown_by new) n.anchor ∙ by_anchor in
    let values = values_outside blocks old new (shown_in old) whole.values.pages n.behind in
    let index = index_from blocks old new a whole.index n.runs n.whole (omega (arith, ap length by_anchor, whole.index.room.keys)) (omega (arith, ap (λ es. length (pages_named es)) by_anchor, whole.index.room.pages)) in
    record {
      newest = n.newest;
      merged = ap (merged_by new) n.anchor ∙ all;
      keeps = record {
        shown = shown;
        objects = objects_follow old new shown values;
        whole = whole_from blocks old new (ap is_some n.newest ∙ whole.found) (subst (IsIndexOf blocks new) (sym n.anchor) index) shown values whole.values;
      };
      age_is = n.age_is;
    }

-- with one group more
entries_of_more : (groups : List (List Entry)) (entries : List Entry) → entries_of (groups ++ entries ∷ []) ≡ entries_of groups ++ entries
entries_of_more groups entries = flat_map-append (λ (g : List Entry). g) groups (entries ∷ []) ∙ ap (λ (es : List Entry). entries_of groups ++ es) (append-nil entries)

pub one_more_group : (blocks : ℕ) (old new : Image) (entries rest : List Entry) (next : ℕ) → IsWhole blocks old → HasLogNow old new (groups_by old (the_anchor old) ++ entries ∷ []) rest next → Appends blocks old new entries (aged old next)
unfolding log_map merged_by shown_by shown_in objects_in
one_more_group blocks old new entries rest next whole h =
    let a = the_anchor old in
    let n = now blocks old new (groups_by old a ++ entries ∷ []) rest next whole h in
    let log : merged (entries_of (groups_by old a ++ entries ∷ [])) [] ≡ merged entries (log_map old (32 * a.log_block) a.log_seq) =
    ap (λ (es : List Entry). merged es []) (entries_of_more (groups_by old a) entries) ∙ merge_more (entries_of (groups_by old a)) entries [] in
    let all : merged_by new a ≡ merged entries (merged_by old a) =
    n.merged_is ∙ ap (λ (es : List Entry). merged es (runs_map old a.runs)) log ∙ merge_three entries (log_map old (32 * a.log_block) a.log_seq) (runs_map old a.runs) (log_rises old (32 * a.log_block) a.log_seq) (runs_rise old a.runs) in
    let by_anchor : shown_by new a ≡ shown_after old entries = ap without_marks all ∙ sym (marks_below entries (merged_by old a) (merged_rises old a)) in
    let shown : shown_in new ≡ shown_after old entries = ap (shown_by new) n.anchor ∙ by_anchor in
    record {
      newest = n.newest;
      merged_is = ap (merged_by new) n.anchor ∙ all;
      shown = shown;
      age_is = n.age_is;
      after = λ room.
          let values = values_outside blocks old new (shown_after old entries) room.values.pages n.behind in
          let index = index_from blocks old new a whole.index n.runs n.whole (omega (arith, ap length by_anchor, room.keys)) (omega (arith, ap (λ es. length (pages_named es)) by_anchor, room.pages)) in
          record {
            objects = ap objects.from_sorted (ap (map (object_in new)) shown ∙ objects_alike old new (shown_after old entries) values) ∙ after_is old entries;
            whole = record {
              found = ap is_some n.newest ∙ whole.found;
              index = subst (IsIndexOf blocks new) (sym n.anchor) index;
              values = subst (AreValuesWhole blocks new) (sym shown) (values_stay blocks old new (shown_after old entries) values room.values);
            };
          };
    }
