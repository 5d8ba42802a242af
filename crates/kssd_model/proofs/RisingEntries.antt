-- Laws of lists of entries by rising keys.
use Rattle.std.proofs.Common.{◌≡◌, ◌∙◌, ℕ, zero, suc, ◌<◌, ◌≤◌, Bool, true, false, cond, not, List, [], ◌∷◌, ◌++◌, length, get_or, take, drop, set, Option, Some, None, refl, sym, ap, arith, inl, inr}
use Rattle.std.specs.Prelude.{filter, insert}
use Rattle.std.specs.List.{list_all}
use Rattle.std.specs.Ordering.{is_lt, is_eq, ordering_reverse}
use Rattle.std.specs.declared.cmp.Ordering.{Ordering}
use Rattle.std.specs.declared.cmp.Ordering.TheVariants.{Less, Equal, Greater}
use Rattle.std.specs.Cmp.{IsTotalOrder}
use Rattle.std.specs.Cmp.Lexicographic.{texts_ties}
use Rattle.std.specs.List.Sorted.{IsPartitionPoint, IsPartitionedBy}
use Rattle.std.proofs.lemmas.Cmp.{nat_list_cmp_total, alike_right}
use Rattle.std.proofs.lemmas.Bool.{cases_lt, and_parts, and_from, false≢true, true≢false}
use Rattle.kssd_entry.specs.declared.entry.Entry.{Entry}
use Rattle.kssd_entry.specs.Spelling.{key_of}
use Rattle.kssd_model.specs.Rising.{key_cmp, has_key, is_below, is_rising, find_entry, entries_from, by_order, put_entry, merged, first_of, IsPlace, HasAt}

-- ---- the order

order : IsTotalOrder key_cmp
order = nat_list_cmp_total

less : (o : Ordering) → is_lt o ≡ true → o ≡ Less
less Less h = refl
less Equal h = absurd (false≢true h)
less Greater h = absurd (false≢true h)

equal : (o : Ordering) → is_eq o ≡ true → o ≡ Equal
equal Less h = absurd (false≢true h)
equal Equal h = refl
equal Greater h = absurd (false≢true h)

-- an entry has a key where the two compare as equal
pub has_key_is : (key : List ℕ) (e : Entry) → has_key key e ≡ is_eq (key_cmp (key_of e) key)
has_key_is key e = texts_ties (key_of e) key

pub has_key_equal : (key : List ℕ) (e : Entry) → has_key key e ≡ true → key_cmp (key_of e) key ≡ Equal
has_key_equal key e h = equal _ (sym (has_key_is key e) ∙ h)

pub has_no_key : (key : List ℕ) (e : Entry) (o : Ordering) → key_cmp (key_of e) key ≡ o → is_eq o ≡ false → has_key key e ≡ false
has_no_key key e o h f = has_key_is key e ∙ ap is_eq h ∙ f

-- the other way round
pub turned : (a b : List ℕ) (o : Ordering) → key_cmp a b ≡ o → key_cmp b a ≡ ordering_reverse o
turned a b o h = order.antisymm b a ∙ ap ordering_reverse h

pub less_trans : (a b c : List ℕ) → key_cmp a b ≡ Less → key_cmp b c ≡ Less → key_cmp a c ≡ Less
less_trans = order.trans

pub same_left : (a b c : List ℕ) → key_cmp a b ≡ Equal → key_cmp a c ≡ key_cmp b c
same_left = order.congr

pub same_right : (a b c : List ℕ) → key_cmp a b ≡ Equal → key_cmp c a ≡ key_cmp c b
same_right a b c = alike_right order a b c

-- ---- the place of a key

-- the entries before the place are below the key, those from it on are not
pub place_from_point : (key : List ℕ) (xs : List Entry) (i : ℕ) → i ≤ length xs → IsPartitionPoint (λ y. is_below key y ≡ true) (λ y. is_below key y ≡ false) xs i → IsPlace key xs i
place_from_point key xs i within h = record {
  within = within;
  before = λ k d lt. h.0 k d (omega arith) lt;
  behind = λ k d le lt. h.1 k d le lt;
}

place_tail : (key : List ℕ) (x : Entry) (xs : List Entry) (i : ℕ) → IsPlace key (x ∷ xs) (suc i) → IsPlace key xs i
place_tail key x xs i h = record {
  within = omega (arith, h.within);
  before = λ k d lt. h.before (suc k) d (omega arith);
  behind = λ k d le lt. h.behind (suc k) d (omega arith) (omega arith);
}

place_rest : (key : List ℕ) (x : Entry) (xs : List Entry) → IsPlace key (x ∷ xs) 0 → IsPlace key xs 0
place_rest key x xs h = record {
  within = omega arith;
  before = λ k d lt. absurd (omega arith);
  behind = λ k d le lt. h.behind (suc k) d (omega arith) (omega arith);
}

from_first : (key : List ℕ) (xs : List Entry) → IsPlace key xs 0 → entries_from xs key ≡ xs
from_first key [] h = refl
from_first key (x ∷ xs) h =
    ap (λ b. cond (not b) (x ∷ entries_from xs key) (entries_from xs key)) (h.behind 0 x (omega arith) (omega arith))
    ∙ ap (λ (t : List Entry). x ∷ t) (from_first key xs (place_rest key x xs h))

-- the entries from the place on are those from the key on
pub drop-place : (key : List ℕ) (xs : List Entry) (i : ℕ) → IsPlace key xs i → drop i xs ≡ entries_from xs key
drop-place key xs zero h = sym (from_first key xs h)
drop-place key [] (suc i) h = refl
drop-place key (x ∷ xs) (suc i) h =
    drop-place key xs i (place_tail key x xs i h)
    ∙ sym (ap (λ b. cond (not b) (x ∷ entries_from xs key) (entries_from xs key)) (h.before 0 x (omega arith)))

-- an entry below a key has another
below_is_other : (key : List ℕ) (e : Entry) → is_below key e ≡ true → has_key key e ≡ false
below_is_other key e h = has_no_key key e Less (less _ h) refl

-- the entry at the place is that of the key, where it has the key
pub find_here : (key : List ℕ) (xs : List Entry) (i : ℕ) (d : Entry) → IsPlace key xs i → i < length xs → has_key key (get_or xs i d) ≡ true → find_entry xs key ≡ Some (get_or xs i d)
find_here key [] i d h lt is = absurd (omega arith)
find_here key (x ∷ xs) zero d h lt is = ap (λ b. cond b (Some x) (find_entry xs key)) is
find_here key (x ∷ xs) (suc i) d h lt is =
    ap (λ b. cond b (Some x) (find_entry xs key)) (below_is_other key x (h.before 0 x (omega arith)))
    ∙ find_here key xs i d (place_tail key x xs i h) (omega arith) is

rising_rest : (x : Entry) (xs : List Entry) → is_rising (x ∷ xs) ≡ true → is_rising xs ≡ true
rising_rest x xs h = (and_parts _ _ h).1

-- every key is greater
-- every key is above this one
abbrev pub is_above_all : List ℕ → List Entry → Bool
is_above_all key xs = list_all (λ f. is_lt (key_cmp key (key_of f))) xs

rising_above : (x : Entry) (xs : List Entry) → is_rising (x ∷ xs) ≡ true → is_above_all (key_of x) xs ≡ true
rising_above x xs h = (and_parts _ _ h).0

-- what is above a key is above each lower one
pub above_lower : (a b : List ℕ) (xs : List Entry) → key_cmp a b ≡ Less → is_above_all b xs ≡ true → is_above_all a xs ≡ true
above_lower a b [] lt h = refl
above_lower a b (x ∷ xs) lt h =
    let p = and_parts _ _ h in
    and_from _ _ (ap is_lt (less_trans a b (key_of x) lt (less _ p.0))) (above_lower a b xs lt p.1)

-- and above each equal one
pub above_same : (a b : List ℕ) (xs : List Entry) → key_cmp a b ≡ Equal → is_above_all b xs ≡ true → is_above_all a xs ≡ true
above_same a b [] eq h = refl
above_same a b (x ∷ xs) eq h =
    let p = and_parts _ _ h in
    and_from _ _ (ap is_lt (same_left a b (key_of x) eq) ∙ p.0) (above_same a b xs eq p.1)

-- a key below all is not there
pub find_above : (key : List ℕ) (xs : List Entry) → is_above_all key xs ≡ true → find_entry xs key ≡ None
find_above key [] h = refl
find_above key (x ∷ xs) h =
    let p = and_parts _ _ h in
    ap (λ b. cond b (Some x) (find_entry xs key)) (has_no_key key x Greater (turned key (key_of x) Less (less _ p.0)) refl)
    ∙ find_above key xs p.1

-- neither below nor equal
above_since : (key : List ℕ) (x : Entry) → is_below key x ≡ false → has_key key x ≡ false → key_cmp key (key_of x) ≡ Less
above_since key x b n = by (key_cmp (key_of x) key) refl
  where
    by : (o : Ordering) → key_cmp (key_of x) key ≡ o → key_cmp key (key_of x) ≡ Less
    by Less h = absurd (false≢true (sym b ∙ ap is_lt h))
    by Equal h = absurd (false≢true (sym n ∙ has_key_is key x ∙ ap is_eq h))
    by Greater h = turned (key_of x) key Greater h

-- the key is not there, where the entry at its place has another
pub find_nothing : (key : List ℕ) (xs : List Entry) (i : ℕ) → is_rising xs ≡ true → IsPlace key xs i → ((d : Entry) → i < length xs → has_key key (get_or xs i d) ≡ false) → find_entry xs key ≡ None
find_nothing key [] i rising h other = refl
find_nothing key (x ∷ xs) zero rising h other =
    let lt : key_cmp key (key_of x) ≡ Less = above_since key x (h.behind 0 x (omega arith) (omega arith)) (other x (omega arith)) in
    find_above key (x ∷ xs) (and_from _ _ (ap is_lt lt) (above_lower key (key_of x) xs lt (rising_above x xs rising)))
find_nothing key (x ∷ xs) (suc i) rising h other =
    ap (λ b. cond b (Some x) (find_entry xs key)) (below_is_other key x (h.before 0 x (omega arith)))
    ∙ find_nothing key xs i (rising_rest x xs rising) (place_tail key x xs i h) (λ d lt. other d (omega arith))

-- ---- an entry in its place

pub put_here : (xs : List Entry) (e d : Entry) (i : ℕ) → IsPlace (key_of e) xs i → i < length xs → has_key (key_of e) (get_or xs i d) ≡ true → set xs i e ≡ put_entry xs e
put_here [] e d i h lt is = absurd (omega arith)
put_here (x ∷ xs) e d zero h lt is =
    sym (ap (λ o. by_order o (e ∷ x ∷ xs) (e ∷ xs) (x ∷ put_entry xs e)) (turned (key_of x) (key_of e) Equal (has_key_equal (key_of e) x is)))
put_here (x ∷ xs) e d (suc i) h lt is =
    ap (λ (t : List Entry). x ∷ t) (put_here xs e d i (place_tail (key_of e) x xs i h) (omega arith) is)
    ∙ sym (ap (λ o. by_order o (e ∷ x ∷ xs) (e ∷ xs) (x ∷ put_entry xs e)) (turned (key_of x) (key_of e) Less (less _ (h.before 0 x (omega arith)))))

pub put_new : (xs : List Entry) (e : Entry) (i : ℕ) → IsPlace (key_of e) xs i → ((d : Entry) → i < length xs → has_key (key_of e) (get_or xs i d) ≡ false) → insert xs i e ≡ put_entry xs e
put_new [] e zero h other = refl
put_new [] e (suc i) h other = absurd (omega (arith, h.within))
put_new (x ∷ xs) e zero h other =
    sym (ap (λ o. by_order o (e ∷ x ∷ xs) (e ∷ xs) (x ∷ put_entry xs e)) (above_since (key_of e) x (h.behind 0 x (omega arith) (omega arith)) (other x (omega arith))))
put_new (x ∷ xs) e (suc i) h other =
    ap (λ (t : List Entry). x ∷ t) (put_new xs e i (place_tail (key_of e) x xs i h) (λ d lt. other d (omega arith)))
    ∙ sym (ap (λ o. by_order o (e ∷ x ∷ xs) (e ∷ xs) (x ∷ put_entry xs e)) (turned (key_of x) (key_of e) Less (less _ (h.before 0 x (omega arith)))))

above_put : (key : List ℕ) (xs : List Entry) (e : Entry) → is_lt (key_cmp key (key_of e)) ≡ true → is_above_all key xs ≡ true → is_above_all key (put_entry xs e) ≡ true
above_put key [] e lt h = and_from _ _ lt refl
above_put key (x ∷ xs) e lt h = by (above_put key xs e lt (and_parts _ _ h).1) (key_cmp (key_of e) (key_of x))
  where
    by : is_above_all key (put_entry xs e) ≡ true → (o : Ordering) → is_above_all key (by_order o (e ∷ x ∷ xs) (e ∷ xs) (x ∷ put_entry xs e)) ≡ true
    by rest Less = and_from _ _ lt h
    by rest Equal = and_from _ _ lt (and_parts _ _ h).1
    by rest Greater = and_from _ _ (and_parts _ _ h).0 rest

pub is_rising-put : (xs : List Entry) (e : Entry) → is_rising xs ≡ true → is_rising (put_entry xs e) ≡ true
is_rising-put [] e h = refl
is_rising-put (x ∷ xs) e h = by (is_rising-put xs e (rising_rest x xs h)) (key_cmp (key_of e) (key_of x)) refl
  where
    by : is_rising (put_entry xs e) ≡ true → (o : Ordering) → key_cmp (key_of e) (key_of x) ≡ o → is_rising (by_order o (e ∷ x ∷ xs) (e ∷ xs) (x ∷ put_entry xs e)) ≡ true
    by rest Less eq = and_from _ _ (and_from _ _ (ap is_lt eq) (above_lower (key_of e) (key_of x) xs eq (rising_above x xs h))) h
    by rest Equal eq = and_from _ _ (above_same (key_of e) (key_of x) xs eq (rising_above x xs h)) (rising_rest x xs h)
    by rest Greater eq = and_from _ _ (above_put (key_of x) xs e (ap is_lt (turned (key_of e) (key_of x) Greater eq)) (rising_above x xs h)) rest

-- the last put wins
pub find-put : (xs : List Entry) (e : Entry) (key : List ℕ) → find_entry (put_entry xs e) key ≡ cond (has_key key e) (Some e) (find_entry xs key)
find-put [] e key = refl
find-put (x ∷ xs) e key = by (find-put xs e key) (key_cmp (key_of e) (key_of x)) refl
  where
    same_test : key_cmp (key_of e) (key_of x) ≡ Equal → has_key key x ≡ has_key key e
    same_test eq = has_key_is key x ∙ sym (ap is_eq (same_left (key_of e) (key_of x) key eq)) ∙ sym (has_key_is key e)

    twice : (b : Bool) (p q : Option Entry) → cond b p q ≡ cond b p (cond b (Some x) q)
    twice true p q = refl
    twice false p q = refl

    -- e's key is above that of x, so that they aren't the same one
    apart : key_cmp (key_of e) (key_of x) ≡ Greater → has_key key x ≡ true → has_key key e ≡ false
    apart gt is = has_no_key key e Greater (sym (same_right (key_of x) key (key_of e) (has_key_equal key x is)) ∙ gt) refl

    exchange : (a b : Bool) (q : Option Entry) → (a ≡ true → b ≡ false) → cond a (Some x) (cond b (Some e) q) ≡ cond b (Some e) (cond a (Some x) q)
    exchange true true q h = absurd (true≢false (h refl))
    exchange true false q h = refl
    exchange false b q h = refl

    by : find_entry (put_entry xs e) key ≡ cond (has_key key e) (Some e) (find_entry xs key) → (o : Ordering) → key_cmp (key_of e) (key_of x) ≡ o → find_entry (by_order o (e ∷ x ∷ xs) (e ∷ xs) (x ∷ put_entry xs e)) key ≡ cond (has_key key e) (Some e) (find_entry (x ∷ xs) key)
    by rest Less eq = refl
    by rest Equal eq = twice (has_key key e) (Some e) (find_entry xs key) ∙ ap (λ b. cond (has_key key e) (Some e) (cond b (Some x) (find_entry xs key))) (sym (same_test eq))
    by rest Greater eq = ap (λ (r : Option Entry). cond (has_key key x) (Some x) r) rest ∙ exchange (has_key key x) (has_key key e) (find_entry xs key) (apart eq)

-- ---- places in a rising list

above_all_at : (key : List ℕ) (xs : List Entry) (j : ℕ) (d : Entry) → is_above_all key xs ≡ true → j < length xs → key_cmp key (key_of (get_or xs j d)) ≡ Less
above_all_at key [] j d h lt = absurd (omega arith)
above_all_at key (x ∷ xs) zero d h lt = less _ (and_parts _ _ h).0
above_all_at key (x ∷ xs) (suc j) d h lt = above_all_at key xs j d (and_parts _ _ h).1 (omega arith)

pub rising_at : (xs : List Entry) (i j : ℕ) (d : Entry) → is_rising xs ≡ true → i < j → j < length xs → key_cmp (key_of (get_or xs i d)) (key_of (get_or xs j d)) ≡ Less
rising_at [] i j d h lt within = absurd (omega arith)
rising_at (x ∷ xs) i zero d h lt within = absurd (omega arith)
rising_at (x ∷ xs) zero (suc j) d h lt within = above_all_at (key_of x) xs j d (rising_above x xs h) (omega arith)
rising_at (x ∷ xs) (suc i) (suc j) d h lt within = rising_at xs i j d (rising_rest x xs h) (omega arith) (omega arith)

pub is_partitioned : (key : List ℕ) (xs : List Entry) → is_rising xs ≡ true → IsPartitionedBy (λ y. is_below key y) xs
is_partitioned key xs h i j d le lt below =
    elim (cases_lt i j) [
      | inl less_i ↦ ap is_lt (less_trans _ _ key (rising_at xs i j d h less_i lt) (less _ below))
      | inr le_j ↦ let same : i ≡ j = omega arith in ap (λ k. is_below key (get_or xs k d)) same ∙ below
    ]

-- ---- newer entries over older ones

-- what is below all newer entries stays in front
pub merged_front : (newer : List Entry) (x : Entry) (xs : List Entry) → is_above_all (key_of x) newer ≡ true → merged newer (x ∷ xs) ≡ x ∷ merged newer xs
merged_front [] x xs h = refl
merged_front (a ∷ newer) x xs h =
    let p = and_parts _ _ h in
    ap (λ o. merged newer (by_order o (a ∷ x ∷ xs) (a ∷ xs) (x ∷ put_entry xs a))) (turned (key_of x) (key_of a) Less (less _ p.0))
    ∙ merged_front newer x (put_entry xs a) p.1

-- the newer side's first key comes first
pub merged_newer : (a : Entry) (newer older : List Entry) → is_rising (a ∷ newer) ≡ true → is_above_all (key_of a) older ≡ true → merged (a ∷ newer) older ≡ a ∷ merged newer older
merged_newer a newer [] rising h = merged_front newer a [] (rising_above a newer rising)
merged_newer a newer (b ∷ older) rising h =
    ap (λ o. merged newer (by_order o (a ∷ b ∷ older) (a ∷ older) (b ∷ put_entry older a))) (less _ (and_parts _ _ h).0)
    ∙ merged_front newer a (b ∷ older) (rising_above a newer rising)

-- both have it
pub merged_both : (a : Entry) (newer : List Entry) (b : Entry) (older : List Entry) → is_rising (a ∷ newer) ≡ true → key_cmp (key_of a) (key_of b) ≡ Equal → merged (a ∷ newer) (b ∷ older) ≡ a ∷ merged newer older
merged_both a newer b older rising h =
    ap (λ o. merged newer (by_order o (a ∷ b ∷ older) (a ∷ older) (b ∷ put_entry older a))) h
    ∙ merged_front newer a older (rising_above a newer rising)

-- the older side's first key comes first
pub merged_older : (a : Entry) (newer : List Entry) (b : Entry) (older : List Entry) → is_rising (a ∷ newer) ≡ true → key_cmp (key_of a) (key_of b) ≡ Greater → merged (a ∷ newer) (b ∷ older) ≡ b ∷ merged (a ∷ newer) older
merged_older a newer b older rising h =
    let lt : key_cmp (key_of b) (key_of a) ≡ Less = turned (key_of a) (key_of b) Greater h in
    merged_front (a ∷ newer) b older (and_from _ _ (ap is_lt lt) (above_lower (key_of b) (key_of a) newer lt (rising_above a newer rising)))

-- what is above a key's successors
pub above_first : (key : List ℕ) (b : Entry) (older : List Entry) → is_rising (b ∷ older) ≡ true → key_cmp key (key_of b) ≡ Less → is_above_all key (b ∷ older) ≡ true
above_first key b older rising h = and_from _ _ (ap is_lt h) (above_lower key (key_of b) older h (rising_above b older rising))

pub is_rising-merged : (newer older : List Entry) → is_rising older ≡ true → is_rising (merged newer older) ≡ true
is_rising-merged [] older h = h
is_rising-merged (a ∷ newer) older h = is_rising-merged newer (put_entry older a) (is_rising-put older a h)

-- for each key the newer entry, and else the older one
pub find-merged : (newer older : List Entry) (key : List ℕ) → is_rising newer ≡ true → find_entry (merged newer older) key ≡ first_of (find_entry newer key) (find_entry older key)
find-merged [] older key h = refl
find-merged (a ∷ newer) older key h =
    find-merged newer (put_entry older a) key (rising_rest a newer h)
    ∙ ap (first_of (find_entry newer key)) (find-put older a key)
    ∙ by (has_key key a) refl
  where
    alone : has_key key a ≡ true → find_entry newer key ≡ None
    alone is = find_above key newer (above_same key (key_of a) newer (turned (key_of a) key Equal (has_key_equal key a is)) (rising_above a newer h))

    by : (b : Bool) → has_key key a ≡ b → first_of (find_entry newer key) (cond b (Some a) (find_entry older key)) ≡ first_of (cond b (Some a) (find_entry newer key)) (find_entry older key)
    by true is = ap (λ (o : Option Entry). first_of o (Some a)) (alone is)
    by false is = refl

pub is_rising-drop : (n : ℕ) (xs : List Entry) → is_rising xs ≡ true → is_rising (drop n xs) ≡ true
is_rising-drop zero xs h = h
is_rising-drop (suc n) [] h = refl
is_rising-drop (suc n) (x ∷ xs) h = is_rising-drop n xs (rising_rest x xs h)

above_take : (key : List ℕ) (n : ℕ) (xs : List Entry) → is_above_all key xs ≡ true → is_above_all key (take n xs) ≡ true
above_take key zero xs h = refl
above_take key (suc n) [] h = refl
above_take key (suc n) (x ∷ xs) h = and_from _ _ (and_parts _ _ h).0 (above_take key n xs (and_parts _ _ h).1)

pub is_rising-take : (n : ℕ) (xs : List Entry) → is_rising xs ≡ true → is_rising (take n xs) ≡ true
is_rising-take zero xs h = refl
is_rising-take (suc n) [] h = refl
is_rising-take (suc n) (x ∷ xs) h = and_from _ _ (above_take (key_of x) n xs (rising_above x xs h)) (is_rising-take n xs (rising_rest x xs h))

above_filter : (key : List ℕ) (p : Entry → Bool) (xs : List Entry) → is_above_all key xs ≡ true → is_above_all key (filter p xs) ≡ true
above_filter key p [] h = refl
above_filter key p (x ∷ xs) h = by (above_filter key p xs (and_parts _ _ h).1) (p x)
  where
    by : is_above_all key (filter p xs) ≡ true → (b : Bool) → is_above_all key (cond b (x ∷ filter p xs) (filter p xs)) ≡ true
    by rest true = and_from _ _ (and_parts _ _ h).0 rest
    by rest false = rest

pub is_rising-filter : (p : Entry → Bool) (xs : List Entry) → is_rising xs ≡ true → is_rising (filter p xs) ≡ true
is_rising-filter p [] h = refl
is_rising-filter p (x ∷ xs) h = by (is_rising-filter p xs (rising_rest x xs h)) (p x)
  where
    by : is_rising (filter p xs) ≡ true → (b : Bool) → is_rising (cond b (x ∷ filter p xs) (filter p xs)) ≡ true
    by rest true = and_from _ _ (above_filter (key_of x) p xs (rising_above x xs h)) rest
    by rest false = rest

pub rising_from : (n : ℕ) (xs : List Entry) (key : List ℕ) → is_rising xs ≡ true → is_rising (take n (entries_from xs key)) ≡ true
rising_from n xs key h = is_rising-take n (entries_from xs key) (is_rising-filter (λ e. not (is_below key e)) xs h)

-- ---- a key at its place

pub has_it : (xs : List Entry) (i : ℕ) (key : List ℕ) (has : Bool) → HasAt xs i key has → has ≡ true → (i < length xs) × ((d : Entry) → has_key key (get_or xs i d) ≡ true)
has_it xs i key true h e = h
has_it xs i key false h e = absurd cc

pub has_other : (xs : List Entry) (i : ℕ) (key : List ℕ) (has : Bool) → HasAt xs i key has → has ≡ false → (d : Entry) → i < length xs → has_key key (get_or xs i d) ≡ false
has_other xs i key true h e = absurd cc
has_other xs i key false h e = h

pub found : (xs : List Entry) (i : ℕ) (key : List ℕ) (has : Bool) (x : Entry) → IsPlace key xs i → HasAt xs i key has → has ≡ true → x ≡ get_or xs i x → Some x ≡ find_entry xs key
found xs i key has x place h e is =
    let p = has_it xs i key has h e in
    ap Some is ∙ sym (find_here key xs i x place p.0 (p.1 x))

pub not_found : (xs : List Entry) (i : ℕ) (key : List ℕ) (has : Bool) → is_rising xs ≡ true → IsPlace key xs i → HasAt xs i key has → has ≡ false → find_entry xs key ≡ None
not_found xs i key has rising place h e = find_nothing key xs i rising place (has_other xs i key has h e)

pub above_split : (key : List ℕ) (xs ys : List Entry) → is_above_all key (xs ++ ys) ≡ true → (is_above_all key xs ≡ true) × (is_above_all key ys ≡ true)
above_split key [] ys h = (refl, h)
above_split key (x ∷ xs) ys h =
    let p = and_parts _ _ h in
    let rest = above_split key xs ys p.1 in
    (and_from _ _ p.0 rest.0, rest.1)

pub above_join : (key : List ℕ) (xs ys : List Entry) → is_above_all key xs ≡ true → is_above_all key ys ≡ true → is_above_all key (xs ++ ys) ≡ true
above_join key [] ys h g = g
above_join key (x ∷ xs) ys h g =
    let p = and_parts _ _ h in
    and_from _ _ p.0 (above_join key xs ys p.1 g)

pub find-append : (xs ys : List Entry) (key : List ℕ) → find_entry (xs ++ ys) key ≡ first_of (find_entry xs key) (find_entry ys key)
find-append [] ys key = refl
find-append (x ∷ xs) ys key = by (find-append xs ys key) (has_key key x)
  where
    by : find_entry (xs ++ ys) key ≡ first_of (find_entry xs key) (find_entry ys key) → (b : Bool) → cond b (Some x) (find_entry (xs ++ ys) key) ≡ first_of (cond b (Some x) (find_entry xs key)) (find_entry ys key)
    by rest true = refl
    by rest false = rest
