-- Sums over entries that are put over others.
use Rattle.std.proofs.Common.{◌≡◌, ◌∙◌, ℕ, ◌+◌, ◌≤◌, Bool, true, false, cond, not, List, [], ◌∷◌, ◌++◌, length, Option, Some, None, sum_by, refl, ap, arith, length-append}
use Rattle.std.specs.List.{list_all}
use Rattle.std.specs.Ordering.{is_lt, is_eq}
use Rattle.std.specs.declared.cmp.Ordering.{Ordering}
use Rattle.std.specs.declared.cmp.Ordering.TheVariants.{Less, Equal, Greater}
use Rattle.std.proofs.lemmas.Bool.{and_parts, and_from}
use Rattle.std.proofs.lemmas.List.Sums.{sum_by-cons, sum_by-append}
use Rattle.kssd_entry.specs.declared.entry.Entry.{Entry}
use Rattle.kssd_entry.specs.declared.entry.Entry.TheVariants.{Put, At, Gone}
use Rattle.kssd_entry.specs.Spelling.{key_of}
use Rattle.kssd_model.specs.Rising.{is_gone, key_cmp, has_key, is_rising, find_entry, by_order, put_entry, merged}
use Rattle.kssd_model.proofs.RisingEntries.{has_key_is, has_no_key, turned, above_lower, find_above, find-put, is_rising-put}
use Rattle.kssd_image.specs.Stages.{without_marks}
use Rattle.kssd_image.specs.Whole.{page_named, pages_named}
use Rattle.kssd_machine.specs.Names.{names}
use Rattle.kssd_machine.specs.Sizes.{listed, replaced, keys_differ}

-- the sum over a found entry
abbrev pub at_found : (Entry → ℕ) → Option Entry → ℕ
at_found w None = 0
at_found w (Some e) = w e

pub listed_sum : (w : Entry → ℕ) (o : Option Entry) → sum_by w (listed o) ≡ at_found w o
listed_sum w None = refl
listed_sum w (Some e) = sum_by-cons w e [] ∙ (let t : w e + 0 ≡ w e = omega arith in t)

-- ---- an entry in the place of an older one

own : (e : Entry) → key_cmp (key_of e) (key_of e) ≡ Equal → has_key (key_of e) e ≡ true
own e h = has_key_is (key_of e) e ∙ ap is_eq h

pub put_sum : (w : Entry → ℕ) (xs : List Entry) (e : Entry) → is_rising xs ≡ true → sum_by w (put_entry xs e) + at_found w (find_entry xs (key_of e)) ≡ sum_by w xs + w e
put_sum w [] e rising = let first = sum_by-cons w e [] in omega arith
put_sum w (x ∷ xs) e rising =
    let both = and_parts _ _ rising in
    by (key_cmp (key_of e) (key_of x)) refl (put_sum w xs e both.1)
  where
    by : (o : Ordering) → key_cmp (key_of e) (key_of x) ≡ o → sum_by w (put_entry xs e) + at_found w (find_entry xs (key_of e)) ≡ sum_by w xs + w e
        → sum_by w (by_order o (e ∷ x ∷ xs) (e ∷ xs) (x ∷ put_entry xs e)) + at_found w (cond (has_key (key_of e) x) (Some x) (find_entry xs (key_of e))) ≡ sum_by w (x ∷ xs) + w e
    by Less h rest =
        let none : find_entry (x ∷ xs) (key_of e) ≡ None = find_above (key_of e) (x ∷ xs) (and_from _ _ (ap is_lt h) (above_lower (key_of e) (key_of x) xs h (and_parts _ _ rising).0)) in
        let zero_ : at_found w (cond (has_key (key_of e) x) (Some x) (find_entry xs (key_of e))) ≡ 0 = ap (at_found w) none in
        let first = sum_by-cons w e (x ∷ xs) in
        omega arith
    by Equal h rest =
        let here : has_key (key_of e) x ≡ true = has_key_is (key_of e) x ∙ ap is_eq (turned (key_of e) (key_of x) Equal h) in
        let found : at_found w (cond (has_key (key_of e) x) (Some x) (find_entry xs (key_of e))) ≡ w x = ap (λ b. at_found w (cond b (Some x) (find_entry xs (key_of e)))) here in
        let first = sum_by-cons w e xs in
        let old = sum_by-cons w x xs in
        omega arith
    by Greater h rest =
        let other : has_key (key_of e) x ≡ false = has_no_key (key_of e) x Less (turned (key_of e) (key_of x) Greater h) refl in
        let found : at_found w (cond (has_key (key_of e) x) (Some x) (find_entry xs (key_of e))) ≡ at_found w (find_entry xs (key_of e)) = ap (λ b. at_found w (cond b (Some x) (find_entry xs (key_of e)))) other in
        let first = sum_by-cons w x (put_entry xs e) in
        let old = sum_by-cons w x xs in
        omega arith

-- ---- entries of different keys over older ones

-- a put entry isn't found by other keys
replaced_put : (older es : List Entry) (e : Entry) → list_all (λ other. not (has_key (key_of other) e)) es ≡ true → replaced (put_entry older e) es ≡ replaced older es
replaced_put older [] e apart = refl
replaced_put older (x ∷ es) e apart =
    let both = and_parts _ _ apart in
    let same : find_entry (put_entry older e) (key_of x) ≡ find_entry older (key_of x) = find-put older e (key_of x) ∙ by (has_key (key_of x) e) both.0 in
    λ i. listed (same i) ++ replaced_put older es e both.1 i
  where
    by : (b : Bool) → not b ≡ true → cond b (Some e) (find_entry older (key_of x)) ≡ find_entry older (key_of x)
    by true h = absurd cc
    by false h = refl

pub merged_sum : (w : Entry → ℕ) (entries older : List Entry) → is_rising older ≡ true → keys_differ entries ≡ true → sum_by w (merged entries older) + sum_by w (replaced older entries) ≡ sum_by w older + sum_by w entries
merged_sum w [] older rising differ = refl
merged_sum w (e ∷ es) older rising differ =
    let both = and_parts _ _ differ in
    let rest = merged_sum w es (put_entry older e) (is_rising-put older e rising) both.1 in
    let same = ap (sum_by w) (replaced_put older es e both.0) in
    let here = put_sum w older e rising in
    let first = sum_by-cons w e es in
    let split = sum_by-append w (listed (find_entry older (key_of e))) (replaced older es) in
    let found = listed_sum w (find_entry older (key_of e)) in
    omega arith

-- rising keys differ
pub rising_differ : (es : List Entry) → is_rising es ≡ true → keys_differ es ≡ true
rising_differ [] rising = refl
rising_differ (e ∷ es) rising =
    let both = and_parts _ _ rising in
    and_from _ _ (apart es both.0) (rising_differ es both.1)
  where
    apart : (xs : List Entry) → list_all (λ f. is_lt (key_cmp (key_of e) (key_of f))) xs ≡ true → list_all (λ other. not (has_key (key_of other) e)) xs ≡ true
    apart [] h = refl
    apart (x ∷ xs) h =
        let both = and_parts _ _ h in
        and_from _ _ (ap not (has_no_key (key_of x) e Less (less _ both.0) refl)) (apart xs both.1)
      where
        less : (o : Ordering) → is_lt o ≡ true → o ≡ Less
        less Less h = refl
        less Equal h = absurd cc
        less Greater h = absurd cc

-- ---- what marks count

-- where a deletion mark weighs nothing, those without marks weigh as much
pub unmarked_sum : (w : Entry → ℕ) → ((e : Entry) → is_gone e ≡ true → w e ≡ 0) → (xs : List Entry) → sum_by w (without_marks xs) ≡ sum_by w xs
unmarked_sum w light [] = refl
unmarked_sum w light (x ∷ xs) = by (is_gone x) refl (unmarked_sum w light xs)
  where
    by : (g : Bool) → is_gone x ≡ g → sum_by w (without_marks xs) ≡ sum_by w xs → sum_by w (cond (not g) (x ∷ without_marks xs) (without_marks xs)) ≡ sum_by w (x ∷ xs)
    by true h rest = let none = light x h in let all = sum_by-cons w x xs in omega arith
    by false h rest = let few = sum_by-cons w x (without_marks xs) in let all = sum_by-cons w x xs in omega arith

-- the visible entries after a group
pub after_sum : (w : Entry → ℕ) → ((e : Entry) → is_gone e ≡ true → w e ≡ 0) → (entries older : List Entry) → is_rising older ≡ true → keys_differ entries ≡ true
    → sum_by w (without_marks (merged entries older)) + sum_by w (replaced older entries) ≡ sum_by w older + sum_by w entries
after_sum w light entries older rising differ =
    let all = merged_sum w entries older rising differ in
    let few = unmarked_sum w light (merged entries older) in
    omega arith

-- ---- the weights

abbrev pub as_page : Entry → ℕ
as_page e = length (page_named e)

abbrev pub as_key : Entry → ℕ
as_key e = cond (not (is_gone e)) 1 0

abbrev pub as_name : ℕ → Entry → ℕ
as_name page e = cond (names page e) 1 0

pub page_light : (e : Entry) → is_gone e ≡ true → as_page e ≡ 0
page_light (Put key value) h = absurd cc
page_light (At key page size) h = absurd cc
page_light (Gone key) h = refl

pub key_light : (e : Entry) → is_gone e ≡ true → as_key e ≡ 0
key_light e h = ap {B = ℕ} (λ b. cond (not b) 1 0) h

pub name_light : (page : ℕ) (e : Entry) → is_gone e ≡ true → as_name page e ≡ 0
name_light page (Put key value) h = absurd cc
name_light page (At key at size) h = absurd cc
name_light page (Gone key) h = refl

pub pages_sum : (es : List Entry) → sum_by as_page es ≡ length (pages_named es)
pages_sum [] = refl
pages_sum (e ∷ es) =
    let first = sum_by-cons as_page e es in
    let rest = pages_sum es in
    let split = length-append (page_named e) (pages_named es) in
    omega arith

-- ---- what is found is among the entries

pub found_sum : (w : Entry → ℕ) (xs : List Entry) (key : List ℕ) → at_found w (find_entry xs key) ≤ sum_by w xs
found_sum w [] key = omega arith
found_sum w (x ∷ xs) key = by (has_key key x) (found_sum w xs key)
  where
    by : (b : Bool) → at_found w (find_entry xs key) ≤ sum_by w xs → at_found w (cond b (Some x) (find_entry xs key)) ≤ sum_by w (x ∷ xs)
    by true rest = let all = sum_by-cons w x xs in omega arith
    by false rest = let all = sum_by-cons w x xs in omega arith
