-- How many transactions are open, and how many changes they have.
use Rattle.std.proofs.Common.{◌≡◌, ◌∙◌, ℕ, ◌+◌, ◌<◌, ◌≤◌, Bool, true, false, cond, not, ◌&&◌, ◌||◌, List, [], ◌∷◌, length, get_or, set, take, map, Option, Some, None, unwrap_or, option_map, option_and_then, is_some, is_none, sum_by, count_by, Result, Ok, Err, refl, sym, ap, subst, arith, inl, inr, length-set, nat_lt, nat_le}
use Rattle.std.specs.Prelude.{position, OnOk, OnErr}
use Rattle.std.specs.List.{prefix_len}
use Rattle.std.proofs.lemmas.Bool.{or_parts, leb-false, ltb-true, ltb-false, cases_lt}
use Rattle.std.proofs.lemmas.List.{length-map}
use Rattle.std.proofs.lemmas.List.Sums.{sum_by-set, sum_by-cons, sum_by_more, count_by-le-length}
use Rattle.std.proofs.lemmas.Option.{slice_get_past, slice_get_read}
use Rattle.kssd_entry.specs.declared.entry.Entry.{Entry}
use Rattle.kssd_tx.specs.Lists.{Transactions, list_of, change_count, repointed, all_repointed, AreLists}
use Rattle.kv_base.specs.declared.fault.Memory.{Memory}
use Rattle.kssd_tx.specs.declared.fault.TxFault.{TxFault}

-- ---- a transaction at its number

pub list-past : (lists : Transactions) (tx : ℕ) → length lists ≤ tx → list_of lists tx ≡ None
list-past lists tx h = ap (option_and_then (λ t. t)) (slice_get_past lists tx h)

pub list-read : (lists : Transactions) (tx : ℕ) (x : Option (List Entry)) → tx < length lists → x ≡ get_or lists tx x → list_of lists tx ≡ x
list-read lists tx x low is = ap (option_and_then (λ t. t)) (slice_get_read lists (length lists) tx x refl low is)

pub is_some-option_map : {A B : Type 0} (f : A → B) (o : Option A) → is_some (option_map f o) ≡ is_some o
is_some-option_map f None = refl
is_some-option_map f (Some x) = refl

-- an open one has a number below the length
pub number_below : (lists : Transactions) (tx : ℕ) → is_some (list_of lists tx) ≡ true → tx < length lists
number_below lists tx h =
    elim (cases_lt tx (length lists)) [
      | inl low ↦ low
      | inr past ↦ let e : false ≡ true = sym (ap is_some (list-past lists tx past)) ∙ h in absurd cc
    ]

-- ---- how many changes there are

pub count_after : (lists : Transactions) (tx : ℕ) (x y : Option (List Entry)) → tx < length lists → x ≡ get_or lists tx x → change_count (set lists tx y) + length (unwrap_or x []) ≡ change_count lists + length (unwrap_or y [])
unfolding change_count
count_after lists tx x y low is =
    ap (λ (o : Option (List Entry)). sum_by (λ t. length (unwrap_or t [])) (set lists tx y) + length (unwrap_or o [])) is
    ∙ sum_by-set (λ (t : Option (List Entry)). length (unwrap_or t [])) lists tx y x low

pub lists_after : (lists : Transactions) (tx : ℕ) (x y : Option (List Entry)) → AreLists lists → tx < 4 → x ≡ get_or lists tx x → change_count lists + length (unwrap_or y []) ≤ 1280 + length (unwrap_or x []) → AreLists (set lists tx y)
lists_after lists tx x y sound low is few =
    let within : tx < length lists = omega (arith, sound.four) in
    record {
      four = length-set lists tx y ∙ sound.four;
      few = omega (arith, count_after lists tx x y within is);
    }

pub count_more : (lists : Transactions) (i : ℕ) (x : Option (List Entry)) → i < length lists → x ≡ get_or lists i x → change_count (take (i + 1) lists) ≡ change_count (take i lists) + length (unwrap_or x [])
unfolding change_count
count_more lists i x low is =
    sum_by_more (λ (t : Option (List Entry)). length (unwrap_or t [])) lists i x low
    ∙ ap (λ (o : Option (List Entry)). sum_by (λ t. length (unwrap_or t [])) (take i lists) + length (unwrap_or o [])) (sym is)

pub count_none : change_count [] ≡ 0
unfolding change_count
count_none = refl

-- ---- room for a change

pub allowed : (open_ full : Bool) (x y : TxFault) → cond (not open_) (Some x) (cond full (Some y) None) ≡ None → (open_ ≡ true) × (full ≡ false)
allowed true true x y e = absurd cc
allowed true false x y e = (refl, refl)
allowed false full x y e = absurd cc

pub room_for : (found : Bool) (n total : ℕ) → (not found && (nat_le 640 n || nat_le 1280 total)) ≡ false → found ≡ false → (n < 640) × (total < 1280)
room_for true n total h f = absurd cc
room_for false n total h f =
    let p = or_parts (nat_le 640 n) (nat_le 1280 total) h in
    (leb-false 640 n p.0, leb-false 1280 total p.1)

pub few_after : (found : Bool) (n total m : ℕ) → (not found && (nat_le 640 n || nat_le 1280 total)) ≡ false → total ≤ 1280 → m ≤ n + cond found 0 1 → total + m ≤ 1280 + n
few_after true n total m h few more = omega arith
few_after false n total m h few more =
    let p = room_for false n total h refl in
    omega (arith, p.1)

-- ---- how many are open

all_open : (xs : Transactions) → length xs ≤ prefix_len (λ x. not (is_none x)) xs → count_by is_some xs ≡ length xs
all_open [] h = refl
all_open (None ∷ xs) h = absurd (omega arith)
all_open (Some x ∷ xs) h =
    let rest : length xs ≤ prefix_len (λ x. not (is_none x)) xs = omega arith in
    let is = all_open xs rest in
    omega (arith, sum_by-cons (λ (o : Option (List Entry)). cond (is_some o) 1 0) (Some x) xs)

one_free : (xs : Transactions) → prefix_len (λ x. not (is_none x)) xs < length xs → count_by is_some xs < length xs
one_free [] h = absurd (omega arith)
one_free (None ∷ xs) h = omega (arith, sum_by-cons (λ (o : Option (List Entry)). cond (is_some o) 1 0) None xs, count_by-le-length is_some xs)
one_free (Some x ∷ xs) h =
    let rest : prefix_len (λ x. not (is_none x)) xs < length xs = omega arith in
    omega (arith, sum_by-cons (λ (o : Option (List Entry)). cond (is_some o) 1 0) (Some x) xs, one_free xs rest)

some_below : (b : Bool) (n m : ℕ) → Some m ≡ cond b (Some n) None → b ≡ true
some_below true n m e = refl
some_below false n m e = absurd cc

none_below : (b : Bool) (n : ℕ) → None ≡ cond b (Some n) None → b ≡ false
none_below true n e = absurd cc
none_below false n e = refl

pub not_all_open : (xs : Transactions) (n : ℕ) → Some n ≡ position is_none xs → count_by is_some xs < length xs
not_all_open xs n e =
    let p : ℕ = prefix_len (λ x. not (is_none x)) xs in
    one_free xs (ltb-true p (length xs) (some_below (nat_lt p (length xs)) p n e))

pub all_are_open : (xs : Transactions) → None ≡ position is_none xs → count_by is_some xs ≡ length xs
all_are_open xs e =
    let p : ℕ = prefix_len (λ x. not (is_none x)) xs in
    all_open xs (ltb-false p (length xs) (none_below (nat_lt p (length xs)) p e))

-- ---- other pages

pub count-repointed : (page other : ℕ) (xs : Transactions) → change_count (all_repointed page other xs) ≡ change_count xs
unfolding change_count
count-repointed page other [] = refl
count-repointed page other (None ∷ xs) =
    sum_by-cons (λ (t : Option (List Entry)). length (unwrap_or t [])) None (all_repointed page other xs)
    ∙ ap (λ n. 0 + n) (count-repointed page other xs)
    ∙ sym (sum_by-cons (λ (t : Option (List Entry)). length (unwrap_or t [])) None xs)
count-repointed page other (Some x ∷ xs) =
    sum_by-cons (λ (t : Option (List Entry)). length (unwrap_or t [])) (Some (map (repointed page other) x)) (all_repointed page other xs)
    ∙ (λ i. length-map x (repointed page other) i + count-repointed page other xs i)
    ∙ sym (sum_by-cons (λ (t : Option (List Entry)). length (unwrap_or t [])) (Some x) xs)

pub lists_repointed : (page other : ℕ) (xs : Transactions) → AreLists xs → AreLists (all_repointed page other xs)
lists_repointed page other xs sound = record {
  four = length-map xs (option_map (map (repointed page other))) ∙ sound.four;
  few = omega (arith, count-repointed page other xs, sound.few);
}

-- a change that isn't refused was made, or for want of memory nothing
pub lists_put : (lists : Transactions) (tx : ℕ) (x : Option (List Entry)) (list after : List Entry) (found : Bool) (r : Result (Unit {0}) Memory) → AreLists lists → tx < 4 → x ≡ get_or lists tx x → x ≡ Some list → (not found && (nat_le 640 (length list) || nat_le 1280 (change_count lists))) ≡ false
    → OnOk r (length after ≤ length list + cond found 0 1) → OnErr r (after ≡ list) → AreLists (set lists tx (Some after))
lists_put lists tx x list after found (Ok u) sound low is e room more same =
    lists_after lists tx x (Some after) sound low is
    (subst (λ (o : Option (List Entry)). change_count lists + length after ≤ 1280 + length (unwrap_or o [])) (sym e) (few_after found (length list) (change_count lists) (length after) room sound.few more))
lists_put lists tx x list after found (Err fault) sound low is e room more same =
    lists_after lists tx x (Some after) sound low is
    (subst (λ (o : Option (List Entry)). change_count lists + length after ≤ 1280 + length (unwrap_or o [])) (sym e) (omega (arith, sound.few, ap (λ (xs : List Entry). length xs) same)))
