-- Lists of entries by rising keys are told by their look-ups.
use Rattle.std.proofs.Common.{◌≡◌, ◌∙◌, ℕ, Bool, true, false, cond, not, List, [], ◌∷◌, ◌++◌, Option, Some, None, refl, sym, ap, subst}
use Rattle.std.specs.Ordering.{is_lt, is_eq}
use Rattle.std.specs.declared.cmp.Ordering.{Ordering}
use Rattle.std.specs.declared.cmp.Ordering.TheVariants.{Less, Equal, Greater}
use Rattle.std.specs.FinMap.{nat_cmp-IsAntisymmetric, slice_cmp-IsAntisymmetric}
use Rattle.std.proofs.lemmas.Cmp.{nat_list_cmp_total, tied_itself}
use Rattle.std.proofs.lemmas.Bool.{and_parts, and_from}
use Rattle.std.proofs.lemmas.Option.{none-some, same_Some}
use Rattle.kssd_entry.specs.declared.entry.Entry.{Entry}
use Rattle.kssd_entry.specs.Spelling.{key_of}
use Rattle.kssd_model.specs.Rising.{is_gone, key_cmp, has_key, is_rising, find_entry, put_entry, merged, first_of}
use Rattle.kssd_model.proofs.RisingEntries.{has_key_is, has_key_equal, turned, is_above_all, above_lower, above_same, find_above, find-put, is_rising-merged, find-merged, is_rising-filter}
use Rattle.kssd_image.specs.Stages.{without_marks}
use Rattle.kssd_frames.specs.Merging.{unmarked}

-- ---- keys

-- keys that compare as equal are the same
pub same_key : (a b : List ℕ) → key_cmp a b ≡ Equal → a ≡ b
same_key = slice_cmp-IsAntisymmetric nat_cmp-IsAntisymmetric

-- an entry has its own key
pub has_own : (e : Entry) → has_key (key_of e) e ≡ true
has_own e = has_key_is (key_of e) e ∙ ap is_eq (tied_itself nat_list_cmp_total (key_of e))

pub key_is : (key : List ℕ) (e : Entry) → has_key key e ≡ true → key_of e ≡ key
key_is key e h = same_key (key_of e) key (has_key_equal key e h)

rising_above : (x : Entry) (xs : List Entry) → is_rising (x ∷ xs) ≡ true → is_above_all (key_of x) xs ≡ true
rising_above x xs h = (and_parts _ _ h).0

rising_rest : (x : Entry) (xs : List Entry) → is_rising (x ∷ xs) ≡ true → is_rising xs ≡ true
rising_rest x xs h = (and_parts _ _ h).1

-- the first entry's key finds it, and nothing behind it
find_first : (x : Entry) (xs : List Entry) → find_entry (x ∷ xs) (key_of x) ≡ Some x
find_first x xs = ap (λ b. cond b (Some x) (find_entry xs (key_of x))) (has_own x)

-- ---- equal look-ups

-- a key below all entries finds nothing
below_none : (x y : Entry) (ys : List Entry) → is_rising (y ∷ ys) ≡ true → key_cmp (key_of x) (key_of y) ≡ Less → find_entry (y ∷ ys) (key_of x) ≡ None
below_none x y ys rising lt = find_above (key_of x) (y ∷ ys) (and_from _ _ (ap is_lt lt) (above_lower (key_of x) (key_of y) ys lt (rising_above y ys rising)))

-- behind equal first entries the look-ups are equal too
rest_alike : (x : Entry) (xs ys : List Entry) → is_rising (x ∷ xs) ≡ true → is_rising (x ∷ ys) ≡ true → ((key : List ℕ) → find_entry (x ∷ xs) key ≡ find_entry (x ∷ ys) key) → (key : List ℕ) → find_entry xs key ≡ find_entry ys key
rest_alike x xs ys rx ry same key = by (has_key key x) refl (same key)
  where
    none : (zs : List Entry) → is_rising (x ∷ zs) ≡ true → has_key key x ≡ true → find_entry zs key ≡ None
    none zs r is = find_above key zs (above_same key (key_of x) zs (turned (key_of x) key Equal (has_key_equal key x is)) (rising_above x zs r))

    by : (b : Bool) → has_key key x ≡ b → cond b (Some x) (find_entry xs key) ≡ cond b (Some x) (find_entry ys key) → find_entry xs key ≡ find_entry ys key
    by true is e = none xs rx is ∙ sym (none ys ry is)
    by false is e = e

pub same_lists : (xs ys : List Entry) → is_rising xs ≡ true → is_rising ys ≡ true → ((key : List ℕ) → find_entry xs key ≡ find_entry ys key) → xs ≡ ys
same_lists [] [] rx ry same = refl
same_lists [] (y ∷ ys) rx ry same = absurd (none-some y (same (key_of y) ∙ find_first y ys))
same_lists (x ∷ xs) [] rx ry same = absurd (none-some x (sym (same (key_of x)) ∙ find_first x xs))
same_lists (x ∷ xs) (y ∷ ys) rx ry same = by (same_lists xs ys (rising_rest x xs rx) (rising_rest y ys ry)) (key_cmp (key_of x) (key_of y)) refl
  where
    by : (((key : List ℕ) → find_entry xs key ≡ find_entry ys key) → xs ≡ ys) → (o : Ordering) → key_cmp (key_of x) (key_of y) ≡ o → x ∷ xs ≡ y ∷ ys
    by rest Less e = absurd (none-some x (sym (below_none x y ys ry e) ∙ sym (same (key_of x)) ∙ find_first x xs))
    by rest Greater e = absurd (none-some y (sym (below_none y x xs rx (turned (key_of x) (key_of y) Greater e)) ∙ same (key_of y) ∙ find_first y ys))
    by rest Equal e =
        let first : x ≡ y = same_Some x y (sym (find_first x xs) ∙ same (key_of x) ∙ ap (find_entry (y ∷ ys)) (same_key _ _ e) ∙ find_first y ys) in
        let rx' = subst (λ (z : Entry). is_rising (z ∷ xs) ≡ true) first rx in
        let same' = subst (λ (z : Entry). (key : List ℕ) → find_entry (z ∷ xs) key ≡ find_entry (y ∷ ys) key) first same in
        λ i. first i ∷ rest (rest_alike y xs ys rx' ry same') i

-- ---- merging

first_of_three : (a b c : Option Entry) → first_of (first_of a b) c ≡ first_of a (first_of b c)
first_of_three None b c = refl
first_of_three (Some a) b c = refl

-- whatever the newer entries are, they count as if they were put over nothing
pub found_over : (entries older : List Entry) (key : List ℕ) → find_entry (merged entries older) key ≡ first_of (find_entry (merged entries []) key) (find_entry older key)
found_over [] older key = refl
found_over (e ∷ es) older key =
    let both = λ (xs : List Entry). found_over es (put_entry xs e) key ∙ ap (first_of (find_entry (merged es []) key)) (find-put xs e key) in
    both older ∙ by (has_key key e) (find_entry (merged es []) key) ∙ sym (ap (λ o. first_of o (find_entry older key)) (both []))
  where
    by : (b : Bool) (o : Option Entry) → first_of o (cond b (Some e) (find_entry older key)) ≡ first_of (first_of o (cond b (Some e) None)) (find_entry older key)
    by true None = refl
    by false None = refl
    by b (Some x) = refl

pub merge_over : (entries older : List Entry) → is_rising older ≡ true → merged (merged entries []) older ≡ merged entries older
merge_over entries older rising = same_lists _ _ (is_rising-merged (merged entries []) older rising) (is_rising-merged entries older rising) (λ key.
    find-merged (merged entries []) older key (is_rising-merged entries [] refl) ∙ sym (found_over entries older key))

-- newer entries over older ones over the oldest, whatever the newer ones are
pub merge_three : (a b c : List Entry) → is_rising b ≡ true → is_rising c ≡ true → merged (merged a b) c ≡ merged a (merged b c)
merge_three a b c rb rc = same_lists _ _ (is_rising-merged (merged a b) c rc) (is_rising-merged a (merged b c) (is_rising-merged b c rc)) (λ key.
    find-merged (merged a b) c key (is_rising-merged a b rb)
    ∙ ap (λ o. first_of o (find_entry c key)) (found_over a b key)
    ∙ first_of_three (find_entry (merged a []) key) (find_entry b key) (find_entry c key)
    ∙ sym (found_over a (merged b c) key ∙ ap (first_of (find_entry (merged a []) key)) (find-merged b c key rb)))

pub merge_more : (early late older : List Entry) → merged (early ++ late) older ≡ merged late (merged early older)
merge_more [] late older = refl
merge_more (e ∷ early) late older = merge_more early late (put_entry older e)

pub merge_alone : (entries : List Entry) → is_rising entries ≡ true → merged entries [] ≡ entries
merge_alone entries rising = same_lists _ _ (is_rising-merged entries [] refl) rising (λ key. find-merged entries [] key rising ∙ by (find_entry entries key))
  where
    by : (o : Option Entry) → first_of o None ≡ o
    by None = refl
    by (Some e) = refl

-- ---- deletion marks

pub rising_unmarked : (xs : List Entry) → is_rising xs ≡ true → is_rising (without_marks xs) ≡ true
rising_unmarked xs h = is_rising-filter (λ e. not (is_gone e)) xs h

above_unmarked : (key : List ℕ) (xs : List Entry) → is_above_all key xs ≡ true → find_entry (without_marks xs) key ≡ None
above_unmarked key [] h = refl
above_unmarked key (x ∷ xs) h = by (is_gone x) (above_unmarked key xs (and_parts _ _ h).1)
  where
    other : find_entry (x ∷ []) key ≡ None
    other = find_above key (x ∷ []) (and_from _ _ (and_parts _ _ h).0 refl)

    pass : (b : Bool) (o : Option Entry) → cond b (Some x) None ≡ None → o ≡ None → cond b (Some x) o ≡ None
    pass true o e f = e
    pass false o e f = f

    by : (b : Bool) → find_entry (without_marks xs) key ≡ None → find_entry (cond (not b) (x ∷ without_marks xs) (without_marks xs)) key ≡ None
    by true rest = rest
    by false rest = pass (has_key key x) (find_entry (without_marks xs) key) other rest

pub find_unmarked : (xs : List Entry) (key : List ℕ) → is_rising xs ≡ true → find_entry (without_marks xs) key ≡ unmarked (find_entry xs key)
find_unmarked [] key h = refl
find_unmarked (x ∷ xs) key h = by (is_gone x) (has_key key x) refl refl (find_unmarked xs key (rising_rest x xs h))
  where
    alone : has_key key x ≡ true → find_entry (without_marks xs) key ≡ None
    alone is = above_unmarked key xs (above_same key (key_of x) xs (turned (key_of x) key Equal (has_key_equal key x is)) (rising_above x xs h))

    by : (g b : Bool) → is_gone x ≡ g → has_key key x ≡ b → find_entry (without_marks xs) key ≡ unmarked (find_entry xs key)
        → find_entry (cond (not g) (x ∷ without_marks xs) (without_marks xs)) key ≡ unmarked (cond b (Some x) (find_entry xs key))
    by true true gone is rest = alone is ∙ sym (ap (λ g. cond g None (Some x)) gone)
    by true false gone is rest = rest
    by false true gone is rest = ap (λ b. cond b (Some x) (find_entry (without_marks xs) key)) is ∙ sym (ap (λ g. cond g None (Some x)) gone)
    by false false gone is rest = ap (λ b. cond b (Some x) (find_entry (without_marks xs) key)) is ∙ rest

-- below newer entries marks don't count
pub marks_below : (entries older : List Entry) → is_rising older ≡ true → without_marks (merged entries (without_marks older)) ≡ without_marks (merged entries older)
marks_below entries older rising =
    let few = rising_unmarked older rising in
    let all = is_rising-merged entries older rising in
    let fewer = is_rising-merged entries (without_marks older) few in
    same_lists _ _ (rising_unmarked (merged entries (without_marks older)) fewer) (rising_unmarked (merged entries older) all) (λ key.
    find_unmarked (merged entries (without_marks older)) key fewer
    ∙ ap unmarked (found_over entries (without_marks older) key ∙ ap (first_of (find_entry (merged entries []) key)) (find_unmarked older key rising))
    ∙ by (find_entry (merged entries []) key) (find_entry older key)
    ∙ sym (find_unmarked (merged entries older) key all ∙ ap unmarked (found_over entries older key)))
  where
    twice : (o : Option Entry) → unmarked (unmarked o) ≡ unmarked o
    twice None = refl
    twice (Some e) = again (is_gone e) refl
      where
        again : (g : Bool) → is_gone e ≡ g → unmarked (cond g None (Some e)) ≡ cond g None (Some e)
        again true h = refl
        again false h = ap (λ g. cond g None (Some e)) h

    by : (o p : Option Entry) → unmarked (first_of o (unmarked p)) ≡ unmarked (first_of o p)
    by None p = twice p
    by (Some e) p = refl
