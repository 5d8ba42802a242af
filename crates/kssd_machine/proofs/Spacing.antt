-- How many pages are live, and that there is room.
use Rattle.std.proofs.Common.{◌≡◌, ◌∙◌, ℕ, zero, suc, ◌+◌, ◌-◌, ◌*◌, ◌<◌, ◌≤◌, inl, inr, Bool, true, false, cond, eqb, List, [], ◌∷◌, length, get_or, drop, Option, Some, None, unwrap_or, is_some, sum_by, refl, ap, arith, length-append}
use Rattle.std.specs.List.{count_by}
use Rattle.std.proofs.lemmas.Bool.{cases_eq, cases_lt, eq-eqb, ne_eqb}
use Rattle.std.proofs.lemmas.List.{drop-drop, get_or_past}
use Rattle.std.proofs.lemmas.List.Sums.{sum_by-cons, sum_by-drop_more, sum_by-take-drop}
use Rattle.kssd_layout.specs.Numbers.{value_blocks_in, max_pages_in, first_value_block_in}
use Rattle.kssd_entry.specs.declared.entry.Entry.{Entry}
use Rattle.kssd_entry.specs.declared.entry.Entry.TheVariants.{Put, At, Gone}
use Rattle.kssd_image.specs.Whole.{page_named, pages_named}
use Rattle.kssd_tx.specs.Lists.{Transactions, change_count}
use Rattle.kssd_values.specs.Marks.{is_live}
use Rattle.kssd_values.specs.declared.mark.Mark.{Mark}
use Rattle.kssd_values.specs.declared.mark.Mark.TheVariants.{Pending, Visible, Dead}
use Rattle.kssd_values.specs.declared.filling.Filling.{Filling}
use Rattle.kssd_values.specs.declared.values.Values.{Values}
use Rattle.kssd_values.specs.Places.{IsValueBlock, is_in}
use Rattle.kssd_values.specs.Blocks.{Free, Open, Closed, Target, device_of, mark_at, state_at, open_room, has_target, target_next, free_count, free_room, live_in, live_count, IsClosed}
use Rattle.kssd_values.specs.Changes.{Clears}
use Rattle.kssd_reclaim.specs.Sources.{is_visible}
use Rattle.kssd_machine.specs.Names.{times, times_pending}
use Rattle.kssd_machine.specs.Marked.{is_pending, AreMarked}
use Rattle.kssd_machine.proofs.Naming.{times_first, pending_first}
use Rattle.kssd_machine.proofs.Weighing.{as_name}

-- ---- sums over numbers from one on

-- the sum over so many numbers, the first of them first
abbrev total : (ℕ → ℕ) → ℕ → ℕ → ℕ
total f first zero = 0
total f first (suc n) = f first + total f (first + 1) n

total_both : (f g : ℕ → ℕ) (first n : ℕ) → total (λ k. f k + g k) first n ≡ total f first n + total g first n
total_both f g first zero = refl
total_both f g first (suc n) = let rest = total_both f g (first + 1) n in omega arith

total_le : (f g : ℕ → ℕ) (first n : ℕ) → ((k : ℕ) → first ≤ k → k < first + n → f k ≤ g k) → total f first n ≤ total g first n
total_le f g first zero below = omega arith
total_le f g first (suc n) below =
    let here = below first (omega arith) (omega arith) in
    let rest = total_le f g (first + 1) n (λ k low high. below k (omega arith) (omega arith)) in
    omega arith

total_none : (f : ℕ → ℕ) (first n : ℕ) → ((k : ℕ) → first ≤ k → f k ≡ 0) → total f first n ≡ 0
total_none f first zero none = refl
total_none f first (suc n) none =
    let here = none first (omega arith) in
    let rest = total_none f (first + 1) n (λ k low. none k (omega arith)) in
    omega arith

abbrev one_at : ℕ → ℕ → ℕ
one_at a k = cond (eqb a k) 1 0

-- a number is one of them at most once
total_one : (a first n : ℕ) → total (one_at a) first n ≤ 1
total_one a first zero = omega arith
total_one a first (suc n) =
    let later = total_one a (first + 1) n in
    elim (cases_eq a first) [
      | inl same ↦
          let here : one_at a first ≡ 1 = ap {B = ℕ} (λ b. cond b 1 0) (eq-eqb a first same) in
          let rest = total_none (one_at a) (first + 1) n (λ k low. ap {B = ℕ} (λ b. cond b 1 0) (ne_eqb a k (λ e. absurd (omega arith)))) in
          omega arith
      | inr not_ ↦
          let here : one_at a first ≡ 0 = ap {B = ℕ} (λ b. cond b 1 0) (ne_eqb a first not_) in
          omega arith
    ]

drop_past : {X : Type 0} (xs : List X) (i : ℕ) → length xs ≤ i → drop i xs ≡ []
drop_past [] zero past = refl
drop_past [] (suc i) past = refl
drop_past (x ∷ xs) zero past = absurd (omega arith)
drop_past (x ∷ xs) (suc i) past = drop_past xs i (omega arith)

-- the elements from a place on
total_list : {X : Type 0} (w : X → ℕ) (xs : List X) (d : X) (first n : ℕ) → w d ≡ 0 → total (λ k. w (get_or xs k d)) first n ≤ sum_by w (drop first xs)
total_list w xs d first zero none = omega arith
total_list w xs d first (suc n) none =
    let rest = total_list w xs d (first + 1) n none in
    elim (cases_lt first (length xs)) [
      | inl low ↦ let more = sum_by-drop_more w xs first d low in omega arith
      | inr past ↦
          let here : w (get_or xs first d) ≡ 0 = ap w (get_or_past xs first d past) ∙ none in
          let gone = ap (sum_by w) (drop_past xs first past) in
          let gone_too = ap (sum_by w) (drop_past xs (first + 1) (omega arith)) in
          omega arith
    ]

-- all elements
total_all : {X : Type 0} (w : X → ℕ) (xs : List X) (d : X) (first n : ℕ) → first + n ≡ length xs → sum_by w (drop first xs) ≡ total (λ k. w (get_or xs k d)) first n
total_all w xs d first zero long = ap (sum_by w) (drop_past xs first (omega arith))
total_all w xs d first (suc n) long =
    let rest = total_all w xs d (first + 1) n (omega arith) in
    let more = sum_by-drop_more w xs first d (omega arith) in
    omega arith

total_times_32 : (f : ℕ → ℕ) (first n : ℕ) → total (λ k. 32 * f k) first n ≡ 32 * total f first n
total_times_32 f first zero = refl
total_times_32 f first (suc n) = let rest = total_times_32 f (first + 1) n in omega arith

total_same : (m first n : ℕ) → total (λ k. m) first n ≡ n * m
total_same m first zero = omega arith
total_same m first (suc n) = let rest = total_same m (first + 1) n in grind arith

-- ---- how many pages are live

total_names : (e : Entry) (first n : ℕ) → total (λ q. as_name q e) first n ≤ length (page_named e)
total_names (Put key value) first n = let none = total_none (λ q. as_name q (Put key value)) first n (λ q low. refl) in omega arith
total_names (Gone key) first n = let none = total_none (λ q. as_name q (Gone key)) first n (λ q low. refl) in omega arith
total_names (At key at size) first n = total_one at first n

total_times : (es : List Entry) (first n : ℕ) → total (λ q. times q es) first n ≤ length (pages_named es)
total_times [] first n = let none = total_none (λ q. times q []) first n (λ q low. refl) in omega arith
total_times (e ∷ es) first n =
    let here = total_names e first n in
    let rest = total_times es first n in
    let split = total_both (λ q. as_name q e) (λ q. times q es) first n in
    let same = total_le (λ q. times q (e ∷ es)) (λ q. as_name q e + times q es) first n (λ q low high. omega (arith, times_first q e es)) in
    let long = length-append (page_named e) (pages_named es) in
    omega arith

few_pages : (es : List Entry) → length (pages_named es) ≤ length es
few_pages [] = omega arith
few_pages (Put key value ∷ es) = let rest = few_pages es in omega arith
few_pages (Gone key ∷ es) = let rest = few_pages es in omega arith
few_pages (At key at size ∷ es) = let rest = few_pages es in omega arith

total_pending : (lists : Transactions) (first n : ℕ) → total (λ q. times_pending q lists) first n ≤ sum_by (λ t. length (unwrap_or t [])) lists
total_pending [] first n = let none = total_none (λ q. times_pending q []) first n (λ q low. refl) in omega arith
total_pending (t ∷ ts) first n =
    let here = total_times (unwrap_or t []) first n in
    let few = few_pages (unwrap_or t []) in
    let rest = total_pending ts first n in
    let split = total_both (λ q. times q (unwrap_or t [])) (λ q. times_pending q ts) first n in
    let same = total_le (λ q. times_pending q (t ∷ ts)) (λ q. times q (unwrap_or t []) + times_pending q ts) first n (λ q low high. omega (arith, pending_first q t ts)) in
    let more = sum_by-cons (λ (x : Option (List Entry)). length (unwrap_or x [])) t ts in
    omega arith

live_by_names : (mark : Mark) (n m : ℕ) → n ≡ cond (is_visible mark) 1 0 → m ≡ cond (is_pending mark) 1 0 → cond (is_live mark) 1 0 ≤ n + m
live_by_names Pending n m a b = omega arith
live_by_names Visible n m a b = omega arith
live_by_names Dead n m a b = omega arith

pub live_most : (v : Values) (visible : List Entry) (lists : Transactions) → AreMarked v visible lists → live_count v ≤ length (pages_named visible) + change_count lists
unfolding change_count
live_most v visible lists marked =
    let marks = v.marks.items in
    let all = total_all (λ (m : Mark). cond (is_live m) 1 0) marks Dead 0 (length marks) (let t : 0 + length marks ≡ length marks = omega arith in t) in
    let each = total_le (λ q. cond (is_live (mark_at v q)) 1 0) (λ q. times q visible + times_pending q lists) 0 (length marks) (λ q low high. live_by_names (mark_at v q) (times q visible) (times_pending q lists) (marked.shown q) (marked.pending q)) in
    let split = total_both (λ q. times q visible) (λ q. times_pending q lists) 0 (length marks) in
    let shown = total_times visible 0 (length marks) in
    let pending = total_pending lists 0 (length marks) in
    omega arith

pub within_limit : (blocks pages changes : ℕ) → 256 ≤ blocks → pages ≤ max_pages_in blocks → changes ≤ 1280 → pages + changes ≤ 32 * (value_blocks_in blocks - 4)
within_limit blocks pages changes least few less = omega arith

-- ---- a victim

-- each block's live pages are among all
total_live : (v : Values) (first n : ℕ) → total (live_in v) first n ≤ count_by is_live (drop (32 * first) v.marks.items)
total_live v first zero = omega arith
total_live v first (suc n) =
    let marks = v.marks.items in
    let rest = total_live v (first + 1) n in
    let split = sum_by-take-drop (λ (m : Mark). cond (is_live m) 1 0) (drop (32 * first) marks) 32 in
    let next = ap (count_by is_live) (drop-drop 32 (32 * first) marks ∙ ap (λ k. drop k marks) (let t : 32 * first + 32 ≡ 32 * (first + 1) = omega arith in t)) in
    omega arith

-- a closed block is full, and else it is free or open
block_counted : (v : Values) (block : ℕ) → has_target v ≡ false → ((b : ℕ) → IsClosed v b → live_in v b ≡ 32) → IsValueBlock (device_of v) block
    → 32 ≤ live_in v block + (32 * cond (get_or v.free.items block false) 1 0 + 32 * cond (is_in v.opened block) 1 0)
block_counted v block none full value = by (is_in v.opened block) (get_or v.free.items block false) (is_in v.target block) refl refl refl
  where
    no_target : (o : Option Filling) → is_some o ≡ false → is_in o block ≡ false
    no_target None h = refl
    no_target (Some filling) h = absurd cc

    by : (o f t : Bool) → is_in v.opened block ≡ o → get_or v.free.items block false ≡ f → is_in v.target block ≡ t → 32 ≤ live_in v block + (32 * cond f 1 0 + 32 * cond o 1 0)
    by true f t io if_ it = omega arith
    by false true t io if_ it = omega arith
    by false false t io if_ it =
        let closed : state_at v block ≡ Closed =
        ap (λ b. cond b Open (cond (is_in v.target block) Target (cond (get_or v.free.items block false) Free Closed))) io
        ∙ ap (λ b. cond b Target (cond (get_or v.free.items block false) Free Closed)) (no_target v.target none)
        ∙ ap (λ b. cond b Free Closed) if_ in
        let all = full block (record { value = value; closed = closed }) in
        omega arith

total_in : (o : Option Filling) (first n : ℕ) → total (λ k. 32 * cond (is_in o k) 1 0) first n ≤ 32
total_in None first n = let none = total_none (λ k. 32 * cond (is_in None k) 1 0) first n (λ k low. refl) in omega arith
total_in (Some filling) first n =
    let few = total_one filling.block first n in
    let same = total_times_32 (one_at filling.block) first n in
    omega arith

pub no_victim : (v : Values) → 256 ≤ device_of v → live_count v ≤ 32 * (value_blocks_in (device_of v) - 4) → free_count v < 3 → has_target v ≡ false → ((block : ℕ) → IsClosed v block → live_in v block ≡ 32) → ⊥
no_victim v least few free none full =
    let first = first_value_block_in (device_of v) in
    let n = value_blocks_in (device_of v) in
    let free_at : ℕ → ℕ = λ k. 32 * cond (get_or v.free.items k false) 1 0 in
    let open_at : ℕ → ℕ = λ k. 32 * cond (is_in v.opened k) 1 0 in
    let end : first + n ≡ device_of v = omega arith in
    let each = total_le (λ k. 32) (λ k. live_in v k + (free_at k + open_at k)) first n (λ k low high. block_counted v k none full (record { first = low; last = omega arith })) in
    let split = total_both (live_in v) (λ k. free_at k + open_at k) first n in
    let split_too = total_both free_at open_at first n in
    let all = total_same 32 first n in
    let live = total_live v first n in
    let among = sum_by-take-drop (λ (m : Mark). cond (is_live m) 1 0) v.marks.items (32 * first) in
    let free_few = total_list (λ (b : Bool). cond b 1 0) v.free.items false first n refl in
    let free_32 = total_times_32 (λ k. cond (get_or v.free.items k false) 1 0) first n in
    let free_among = sum_by-take-drop (λ (b : Bool). cond b 1 0) v.free.items first in
    let opened = total_in v.opened first n in
    absurd (omega arith)

-- ---- after a collection

pub room_collected : (old new : Values) (block : ℕ) → Clears old block new → has_target old ≡ true → target_next old < 32 → 1 ≤ free_room new
room_collected old new block clears has few = elim (cases_eq (open_room old) 0) [
  | inl none ↦ let opens = clears.opens has none in let next = opens.0 in let room = opens.1 in omega arith
  | inr some ↦ let same = clears.closes has some in let room = same.room in omega arith
]

pub room_cleared : (old new : Values) (block : ℕ) → Clears old block new → has_target old ≡ false → 1 ≤ free_count old → 1 ≤ free_room new
room_cleared old new block clears none some = by (has_target new) refl
  where
    by : (b : Bool) → has_target new ≡ b → 1 ≤ open_room new + 32 * (free_count new - cond b 0 1)
    by true h = let more = clears.free in omega arith
    by false h = let more = clears.free in omega arith
