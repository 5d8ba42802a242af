-- How many entries there are after others are put in.
use Rattle.std.proofs.Common.{Bor, ◌≡◌, ◌∙◌, ℕ, suc, ◌+◌, ◌<◌, ◌≤◌, Bool, true, false, cond, List, [], ◌∷◌, ◌++◌, length, get_or, take, drop, Option, Some, None, refl, sym, ap, subst, arith}
use Rattle.std.specs.Prelude.{is_some}
use Rattle.std.specs.Option.{option_copied}
use Rattle.std.specs.List.{list_all}
use Rattle.std.specs.Ordering.{is_lt, is_eq}
use Rattle.std.specs.declared.cmp.Ordering.{Ordering}
use Rattle.std.specs.declared.cmp.Ordering.TheVariants.{Less, Equal, Greater}
use Rattle.std.proofs.lemmas.Bool.{and_parts, false≢true}
use Rattle.std.proofs.lemmas.List.{take_more, take-append-drop}
use Rattle.kssd_entry.specs.declared.entry.Entry.{Entry}
use Rattle.kssd_entry.specs.Spelling.{key_of}
use Rattle.kssd_model.specs.Rising.{key_cmp, has_key, is_rising, find_entry, by_order, put_entry, merged, first_of}
use Rattle.kssd_model.proofs.RisingEntries.{has_key_is, turned, above_first, find_above, is_rising-take, is_rising-merged}
use Rattle.kssd_frames.proofs.Lookups.{found_over, merge_more, merge_alone}

-- an entry of a key that isn't found is one more
abbrev pub one_if_new : Option Entry → ℕ
one_if_new None = 1
one_if_new (Some e) = 0

-- one more, where its key is new
pub length_put : (xs : List Entry) (e : Entry) → is_rising xs ≡ true → length (put_entry xs e) ≡ length xs + one_if_new (find_entry xs (key_of e))
length_put [] e rising = refl
length_put (x ∷ xs) e rising = by (key_cmp (key_of e) (key_of x)) refl (length_put xs e (and_parts _ _ rising).1)
  where
    key : List ℕ
    key = key_of e

    other : (o : Ordering) → key_cmp key (key_of x) ≡ o → has_key key x ≡ is_eq (Rattle.std.specs.Ordering.ordering_reverse o)
    other o h = has_key_is key x ∙ ap is_eq (turned key (key_of x) o h)

    by : (o : Ordering) → key_cmp key (key_of x) ≡ o → length (put_entry xs e) ≡ length xs + one_if_new (find_entry xs key) → length (by_order o (e ∷ x ∷ xs) (e ∷ xs) (x ∷ put_entry xs e)) ≡ suc (length xs) + one_if_new (find_entry (x ∷ xs) key)
    by Less h rest = omega (arith, ap (one_if_new) (find_above key (x ∷ xs) (above_first key x xs rising h)))
    by Equal h rest = omega (arith, ap (λ (b : Bool). one_if_new (cond b (Some x) (find_entry xs key))) (other Equal h))
    by Greater h rest = omega (arith, rest, ap (λ (b : Bool). one_if_new (cond b (Some x) (find_entry xs key))) (other Greater h))

-- among entries by rising keys no earlier one has this one's key
pub lacks_later : (xs : List Entry) (e : Entry) → is_rising (xs ++ e ∷ []) ≡ true → find_entry xs (key_of e) ≡ None
lacks_later [] e rising = refl
lacks_later (x ∷ xs) e rising =
    let parts = and_parts _ _ rising in
    ap (λ (b : Bool). cond b (Some x) (find_entry xs (key_of e))) (below xs parts.0) ∙ lacks_later xs e parts.1
  where
    is_other : (o : Ordering) → is_lt o ≡ true → is_eq o ≡ false
    is_other Less h = refl
    is_other Equal h = absurd (false≢true h)
    is_other Greater h = absurd (false≢true h)

    below : (ys : List Entry) → list_all (λ f. is_lt (key_cmp (key_of x) (key_of f))) (ys ++ e ∷ []) ≡ true → has_key (key_of e) x ≡ false
    below [] h = has_key_is (key_of e) x ∙ is_other _ (and_parts _ _ h).0
    below (y ∷ ys) h = below ys (and_parts _ _ h).1

-- one more of the entries by rising keys is put in
pub count_more : (entries table : List Entry) (i : ℕ) (e : Entry) → is_rising entries ≡ true → is_rising table ≡ true → i < length entries → e ≡ get_or entries i e
    → length (merged (take (i + 1) entries) table) ≡ length (merged (take i entries) table) + one_if_new (find_entry table (key_of e))
count_more entries table i e rising known lt is =
    let taken : take (i + 1) entries ≡ take i entries ++ e ∷ [] = take_more entries i e lt ∙ ap (λ (x : Entry). take i entries ++ x ∷ []) (sym is) in
    let before = is_rising-take i entries rising in
    let both = subst (λ (xs : List Entry). is_rising xs ≡ true) taken (is_rising-take (i + 1) entries rising) in
    let found : find_entry (merged (take i entries) table) (key_of e) ≡ find_entry table (key_of e) =
    found_over (take i entries) table (key_of e)
    ∙ ap (λ (xs : List Entry). first_of (find_entry xs (key_of e)) (find_entry table (key_of e))) (merge_alone (take i entries) before)
    ∙ ap (λ (o : Option Entry). first_of o (find_entry table (key_of e))) (lacks_later (take i entries) e both) in
    ap (λ (xs : List Entry). length (merged xs table)) taken
    ∙ ap (λ (xs : List Entry). length xs) (merge_more (take i entries) (e ∷ []) table)
    ∙ length_put (merged (take i entries) table) e (is_rising-merged (take i entries) table known)
    ∙ ap (λ (o : Option Entry). length (merged (take i entries) table) + one_if_new o) found

-- ---- what was found in memory

pub new_where_none : (found : Option (Bor Entry)) (o : Option Entry) → option_copied found ≡ o → is_some found ≡ false → one_if_new o ≡ 1
new_where_none None o e h = sym (ap one_if_new e)
new_where_none (Some x) o e h = absurd cc

pub old_where_some : (found : Option (Bor Entry)) (o : Option Entry) → option_copied found ≡ o → is_some found ≡ true → one_if_new o ≡ 0
old_where_some None o e h = absurd cc
old_where_some (Some x) o e h = sym (ap one_if_new e)

-- ---- entries that are put in one after the other

put_grows : (xs : List Entry) (e : Entry) → length xs ≤ length (put_entry xs e)
put_grows [] e = omega arith
put_grows (x ∷ xs) e = by (key_cmp (key_of e) (key_of x)) (put_grows xs e)
  where
    by : (o : Ordering) → length xs ≤ length (put_entry xs e) → suc (length xs) ≤ length (by_order o (e ∷ x ∷ xs) (e ∷ xs) (x ∷ put_entry xs e))
    by Less rest = omega arith
    by Equal rest = omega arith
    by Greater rest = omega arith

pub merged_grows : (newer older : List Entry) → length older ≤ length (merged newer older)
merged_grows [] older = omega arith
merged_grows (e ∷ newer) older = omega (arith, put_grows older e, merged_grows newer (put_entry older e))

-- the first of them bring no more than all
pub first_fewer : (entries older : List Entry) (i : ℕ) → length (merged (take i entries) older) ≤ length (merged entries older)
first_fewer entries older i =
    let all : merged entries older ≡ merged (drop i entries) (merged (take i entries) older) =
    ap (λ (es : List Entry). merged es older) (sym (take-append-drop i entries)) ∙ merge_more (take i entries) (drop i entries) older in
    omega (arith, ap (λ (xs : List Entry). length xs) all, merged_grows (drop i entries) (merged (take i entries) older))

put_few : (xs : List Entry) (e : Entry) → length (put_entry xs e) ≤ length xs + 1
put_few [] e = omega arith
put_few (x ∷ xs) e = by (key_cmp (key_of e) (key_of x)) (put_few xs e)
  where
    by : (o : Ordering) → length (put_entry xs e) ≤ length xs + 1 → length (by_order o (e ∷ x ∷ xs) (e ∷ xs) (x ∷ put_entry xs e)) ≤ suc (length xs) + 1
    by Less rest = omega arith
    by Equal rest = omega arith
    by Greater rest = omega arith

pub merged_few : (newer older : List Entry) → length (merged newer older) ≤ length newer + length older
merged_few [] older = omega arith
merged_few (e ∷ newer) older = omega (arith, put_few older e, merged_few newer (put_entry older e))
