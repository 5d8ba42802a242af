-- Marks of pages follow the entries that name them.
use Rattle.std.proofs.Common.{◌≡◌, ◌∙◌, ℕ, zero, suc, ◌+◌, ◌<◌, ◌≤◌, inl, inr, Bool, true, false, cond, ◌||◌, eqb, List, [], ◌∷◌, length, get_or, map, Option, Some, None, option_map, option_and_then, unwrap_or, is_some, slice_get, refl, sym, ap, subst, arith}
use Rattle.std.proofs.lemmas.Bool.{eq-eqb, ne_eqb, cases_eq, cases_lt}
use Rattle.std.proofs.lemmas.Option.{slice_get_within}
use Rattle.std.proofs.lemmas.List.Sums.{sum_by-append, sum_by-set}
use Rattle.kssd_entry.specs.declared.entry.Entry.{Entry}
use Rattle.kssd_entry.specs.declared.entry.Entry.TheVariants.{Put, At, Gone}
use Rattle.kssd_entry.specs.Spelling.{key_of}
use Rattle.kssd_model.specs.Rising.{is_rising, find_entry, put_entry, merged}
use Rattle.kssd_image.specs.Stages.{without_marks}
use Rattle.kssd_tx.specs.Lists.{Transactions, list_of, changes_of, change_of, with_list, repointed, all_repointed}
use Rattle.kssd_values.specs.declared.mark.Mark.{Mark}
use Rattle.kssd_values.specs.declared.mark.Mark.TheVariants.{Pending, Visible, Dead}
use Rattle.kssd_values.specs.declared.values.Values.{Values}
use Rattle.kssd_values.specs.Blocks.{mark_at}
use Rattle.kssd_reclaim.specs.Sources.{is_visible}
use Rattle.kssd_machine.specs.Names.{names, times, times_pending, are_rising}
use Rattle.kssd_machine.specs.Calling.{with_entry}
use Rattle.kssd_machine.specs.Sizes.{listed, replaced, keys_differ}
use Rattle.kssd_machine.specs.Marked.{is_pending, AreMarked, is_named, IsRemarked, WereDead}
use Rattle.kssd_machine.proofs.Naming.{times_none, times_first, pending_first}
use Rattle.kssd_machine.proofs.Transacting.{rising_at}
use Rattle.kssd_machine.proofs.Weighing.{at_found, as_name, name_light, put_sum, after_sum, rising_differ, found_sum}

-- ---- names and how often

pub named_some : (page : ℕ) (es : List Entry) → is_named page es ≡ true → 1 ≤ times page es
named_some page [] is = absurd cc
named_some page (e ∷ es) is = by (names page e) refl is (named_some page es)
  where
    by : (b : Bool) → names page e ≡ b → (b || is_named page es) ≡ true → (is_named page es ≡ true → 1 ≤ times page es) → 1 ≤ times page (e ∷ es)
    by true h is rest = let one : as_name page e ≡ 1 = ap {B = ℕ} (λ b. cond b 1 0) h in omega (arith, times_first page e es)
    by false h is rest = let some = rest is in omega (arith, times_first page e es)

pub named_none : (page : ℕ) (es : List Entry) → is_named page es ≡ false → times page es ≡ 0
named_none page [] is = refl
named_none page (e ∷ es) is = by (names page e) refl is (named_none page es)
  where
    by : (b : Bool) → names page e ≡ b → (b || is_named page es) ≡ false → (is_named page es ≡ false → times page es ≡ 0) → times page (e ∷ es) ≡ 0
    by true h is rest = absurd cc
    by false h is rest = let none : as_name page e ≡ 0 = ap {B = ℕ} (λ b. cond b 1 0) h in let few = rest is in omega (arith, times_first page e es)

times_listed : (page : ℕ) (o : Option Entry) → times page (listed o) ≡ at_found (as_name page) o
times_listed page None = refl
times_listed page (Some e) = times_first page e [] ∙ (let t : as_name page e + 0 ≡ as_name page e = omega arith in t)

times_one : (page : ℕ) (e : Entry) → times page (e ∷ []) ≡ as_name page e
times_one page e = times_listed page (Some e)

-- ---- a transaction's list replaced

pub pending_set : (page : ℕ) (lists : Transactions) (tx : ℕ) (t : Option (List Entry)) → tx < length lists → times_pending page (with_list lists tx t) + times page (unwrap_or (get_or lists tx None) []) ≡ times_pending page lists + times page (unwrap_or t [])
pending_set page lists tx t low = sum_by-set (λ (x : Option (List Entry)). times page (unwrap_or x [])) lists tx t None low

list_at : (lists : Transactions) (tx : ℕ) → tx < length lists → unwrap_or (get_or lists tx None) [] ≡ changes_of lists tx
list_at [] tx low = absurd (omega arith)
list_at (None ∷ ts) zero low = refl
list_at (Some es ∷ ts) zero low = refl
list_at (t ∷ ts) (suc tx) low = list_at ts tx (omega arith)

low_of : (lists : Transactions) (tx : ℕ) → is_some (list_of lists tx) ≡ true → tx < length lists
low_of lists tx open_ = by (slice_get lists tx) refl open_
  where
    by : (o : Option (Option (List Entry))) → slice_get lists tx ≡ o → is_some (option_and_then (λ t. t) o) ≡ true → tx < length lists
    by None h is = absurd cc
    by (Some t) h is = slice_get_within lists tx t h

-- past the last number there is nothing
nothing_past : (lists : Transactions) (tx : ℕ) (t : Option (List Entry)) → length lists ≤ tx → (with_list lists tx t ≡ lists) × (changes_of lists tx ≡ [])
nothing_past [] tx t past = (refl, refl)
nothing_past (x ∷ xs) zero t past = absurd (omega arith)
nothing_past (x ∷ xs) (suc tx) t past = let rest = nothing_past xs tx t (omega arith) in (ap (λ (ts : Transactions). x ∷ ts) rest.0, rest.1)

-- a list closed, whatever its number
pub pending_closed : (page : ℕ) (lists : Transactions) (tx : ℕ) → times_pending page (with_list lists tx None) + times page (changes_of lists tx) ≡ times_pending page lists
pending_closed page lists tx = elim (cases_lt tx (length lists)) [
  | inl low ↦
      let set_ = pending_set page lists tx None low in
      let at = ap (times page) (list_at lists tx low) in
      omega arith
  | inr past ↦
      let both = nothing_past lists tx None past in
      let same = ap (times_pending page) both.0 in
      let none = ap (times page) both.1 in
      omega arith
]

-- ---- marks

-- a page is named once by its mark, and not otherwise
abbrev Fits : Mark → ℕ → ℕ → Type 0
Fits mark shown pending = (shown ≡ cond (is_visible mark) 1 0) × (pending ≡ cond (is_pending mark) 1 0)

fits_at : (v : Values) (visible : List Entry) (lists : Transactions) (page : ℕ) → AreMarked v visible lists → Fits (mark_at v page) (times page visible) (times_pending page lists)
fits_at v visible lists page marked = (marked.shown page, marked.pending page)

pub marked_from : (v : Values) (visible : List Entry) (lists : Transactions) → ((page : ℕ) → Fits (mark_at v page) (times page visible) (times_pending page lists)) → AreMarked v visible lists
marked_from v visible lists each = record { shown = λ page. (each page).0; pending = λ page. (each page).1 }

-- a pending page isn't visible, and is named by one change
is_pending_once : (mark : Mark) (n m : ℕ) → Fits mark n m → 1 ≤ m → (n ≡ 0) × (m ≡ 1) × (mark ≡ Pending)
is_pending_once Pending n m f some = (f.0, f.1, refl)
is_pending_once Visible n m f some = absurd (let h = f.1 in let t : ⊥ = omega arith in t)
is_pending_once Dead n m f some = absurd (let h = f.1 in let t : ⊥ = omega arith in t)

is_visible_once : (mark : Mark) (n m : ℕ) → Fits mark n m → 1 ≤ n → (n ≡ 1) × (m ≡ 0) × (mark ≡ Visible)
is_visible_once Visible n m f some = (f.0, f.1, refl)
is_visible_once Pending n m f some = absurd (let h = f.0 in let t : ⊥ = omega arith in t)
is_visible_once Dead n m f some = absurd (let h = f.0 in let t : ⊥ = omega arith in t)

is_dead_once : (mark : Mark) (n m : ℕ) → Fits mark n m → mark ≡ Dead → (n ≡ 0) × (m ≡ 0)
is_dead_once mark n m f dead = (f.0 ∙ ap {B = ℕ} (λ k. cond (is_visible k) 1 0) dead, f.1 ∙ ap {B = ℕ} (λ k. cond (is_pending k) 1 0) dead)

refit : (mark other : Mark) (n m : ℕ) → other ≡ mark → Fits mark n m → Fits other n m
refit mark other n m same f = subst (λ (k : Mark). Fits k n m) (sym same) f

-- ---- begin

pub begun : (v : Values) (visible : List Entry) (lists : Transactions) (tx : ℕ) → list_of lists tx ≡ None → AreMarked v visible lists → AreMarked v visible (with_list lists tx (Some []))
begun v visible lists tx free marked = marked_from v visible (with_list lists tx (Some [])) (λ page.
    let none : times page (changes_of lists tx) ≡ 0 = ap (λ o. times page (unwrap_or o [])) free in
    let same : times_pending page (with_list lists tx (Some [])) ≡ times_pending page lists = by page none in
    (marked.shown page, same ∙ marked.pending page))
  where
    by : (page : ℕ) → times page (changes_of lists tx) ≡ 0 → times_pending page (with_list lists tx (Some [])) ≡ times_pending page lists
    by page none = elim (cases_lt tx (length lists)) [
      | inl low ↦
          let set_ = pending_set page lists tx (Some []) low in
          let at = ap (times page) (list_at lists tx low) in
          omega (arith, times_none page)
      | inr past ↦ ap (times_pending page) (nothing_past lists tx (Some []) past).0
    ]

-- ---- set

after_set : (mark other : Mark) (fresh gone : Bool) (n m after f a : ℕ) → Fits mark n m → after + f ≡ m + a → f ≤ m → (fresh ≡ true → (a ≡ 1) × (mark ≡ Dead)) → (fresh ≡ false → a ≡ 0) → (gone ≡ true → 1 ≤ f) → (gone ≡ false → f ≡ 0)
    → other ≡ cond fresh Pending (cond gone Dead mark) → Fits other n after
after_set mark other true gone n m after f a fits sum few fresh stale dies stays is =
    let h = fresh refl in
    let d = is_dead_once mark n m fits h.1 in
    refit Pending other n after is (d.0, (let one = h.0 in let none = d.1 in omega arith))
after_set mark other false true n m after f a fits sum few fresh stale dies stays is =
    let p = is_pending_once mark n m fits (let some = dies refl in omega arith) in
    refit Dead other n after is (p.0, (let none = stale refl in let one = p.1 in let some = dies refl in omega arith))
after_set mark other false false n m after f a fits sum few fresh stale dies stays is =
    let same : after ≡ m = let none = stale refl in let zero_ = stays refl in omega arith in
    refit mark other n after is (fits.0, same ∙ fits.1)

names_at : (page : ℕ) (e : Entry) (b : Bool) → is_named page (e ∷ []) ≡ b → names page e ≡ b
names_at page e b is = by (names page e) is
  where
    by : (c : Bool) → (c || false) ≡ b → c ≡ b
    by true h = h
    by false h = h

change_at : (lists : Transactions) (tx : ℕ) (key : List ℕ) → change_of lists tx key ≡ find_entry (changes_of lists tx) key
change_at lists tx key = by (list_of lists tx)
  where
    by : (o : Option (List Entry)) → option_and_then (λ list. find_entry list key) o ≡ find_entry (unwrap_or o []) key
    by None = refl
    by (Some list) = refl

pub sets : (v w : Values) (visible : List Entry) (lists : Transactions) (tx : ℕ) (entry : Entry) → are_rising lists ≡ true → is_some (list_of lists tx) ≡ true → AreMarked v visible lists → WereDead v (entry ∷ [])
    → IsRemarked v (listed (change_of lists tx (key_of entry))) (entry ∷ []) Pending w → AreMarked w visible (with_entry lists tx entry)
sets v w visible lists tx entry rising open_ marked dead remarks = marked_from w visible (with_entry lists tx entry) each
  where
    each : (page : ℕ) → Fits (mark_at w page) (times page visible) (times_pending page (with_entry lists tx entry))
    each page =
        let list = changes_of lists tx in
        let older = change_of lists tx (key_of entry) in
        let low = low_of lists tx open_ in
        let set_ = pending_set page lists tx (Some (put_entry list entry)) low in
        let at = ap (times page) (list_at lists tx low) in
        let closed = pending_closed page lists tx in
        let put = put_sum (as_name page) list entry (rising_at lists tx rising) in
        let found : at_found (as_name page) (find_entry list (key_of entry)) ≡ times page (listed older) = sym (times_listed page older ∙ ap (at_found (as_name page)) (change_at lists tx (key_of entry))) in
        let few = found_sum (as_name page) list (key_of entry) in
        after_set (mark_at v page) (mark_at w page) (is_named page (entry ∷ [])) (is_named page (listed older)) (times page visible) (times_pending page lists) (times_pending page (with_entry lists tx entry)) (times page (listed older)) (as_name page entry)
        (fits_at v visible lists page marked)
        (omega arith) (omega arith)
        (λ is. (ap {B = ℕ} (λ b. cond b 1 0) (names_at page entry true is), dead page is))
        (λ is. ap {B = ℕ} (λ b. cond b 1 0) (names_at page entry false is))
        (named_some page (listed older)) (named_none page (listed older)) (remarks page)

-- ---- abort

after_abort : (mark other : Mark) (gone : Bool) (n m after l : ℕ) → Fits mark n m → after + l ≡ m → (gone ≡ true → 1 ≤ l) → (gone ≡ false → l ≡ 0) → other ≡ cond gone Dead mark → Fits other n after
after_abort mark other true n m after l fits sum dies stays is =
    let some = dies refl in
    let p = is_pending_once mark n m fits (omega arith) in
    refit Dead other n after is (p.0, (let one = p.1 in omega arith))
after_abort mark other false n m after l fits sum dies stays is =
    let none = stays refl in
    let same : after ≡ m = omega arith in
    refit mark other n after is (fits.0, same ∙ fits.1)

pub aborts : (v w : Values) (visible : List Entry) (lists : Transactions) (tx : ℕ) → AreMarked v visible lists → IsRemarked v (changes_of lists tx) [] Dead w → AreMarked w visible (with_list lists tx None)
aborts v w visible lists tx marked remarks = marked_from w visible (with_list lists tx None) (λ page.
    after_abort (mark_at v page) (mark_at w page) (is_named page (changes_of lists tx)) (times page visible) (times_pending page lists) (times_pending page (with_list lists tx None)) (times page (changes_of lists tx))
    (fits_at v visible lists page marked) (pending_closed page lists tx) (named_some page (changes_of lists tx)) (named_none page (changes_of lists tx)) (remarks page))

-- ---- end

-- what isn't named isn't replaced
replaced_none : (page : ℕ) (older es : List Entry) → times page older ≡ 0 → times page (replaced older es) ≡ 0
replaced_none page older [] none = refl
replaced_none page older (e ∷ es) none =
    let rest = replaced_none page older es none in
    let here = found_sum (as_name page) older (key_of e) in
    let one = times_listed page (find_entry older (key_of e)) in
    let split = sum_by-append (as_name page) (listed (find_entry older (key_of e))) (replaced older es) in
    omega arith

after_end : (mark other : Mark) (fresh gone : Bool) (n m shown after r l : ℕ) → Fits mark n m → shown + r ≡ n + l → after + l ≡ m → (n ≡ 0 → r ≡ 0) → (fresh ≡ true → 1 ≤ l) → (fresh ≡ false → l ≡ 0) → (gone ≡ true → 1 ≤ r) → (gone ≡ false → r ≡ 0)
    → other ≡ cond fresh Visible (cond gone Dead mark) → Fits other shown after
after_end mark other true gone n m shown after r l fits sum closed only fresh stale dies stays is =
    let some = fresh refl in
    let p = is_pending_once mark n m fits (omega arith) in
    let none = only p.0 in
    let zero_ = p.0 in
    let one = p.1 in
    refit Visible other shown after is ((let t : shown ≡ 1 = omega arith in t), (let t : after ≡ 0 = omega arith in t))
after_end mark other false true n m shown after r l fits sum closed only fresh stale dies stays is =
    let none = stale refl in
    let some = dies refl in
    let p = is_visible_once mark n m fits (omega arith) in
    let one = p.0 in
    let zero_ = p.1 in
    refit Dead other shown after is ((let t : shown ≡ 0 = omega arith in t), (let t : after ≡ 0 = omega arith in t))
after_end mark other false false n m shown after r l fits sum closed only fresh stale dies stays is =
    let none = stale refl in
    let zero_ = stays refl in
    let same : shown ≡ n = omega arith in
    let also : after ≡ m = omega arith in
    refit mark other shown after is (same ∙ fits.0, also ∙ fits.1)

pub ends : (v w : Values) (visible : List Entry) (lists : Transactions) (tx : ℕ) → is_rising visible ≡ true → are_rising lists ≡ true → AreMarked v visible lists
    → IsRemarked v (replaced visible (changes_of lists tx)) (changes_of lists tx) Visible w → AreMarked w (without_marks (merged (changes_of lists tx) visible)) (with_list lists tx None)
ends v w visible lists tx rises rising marked remarks = marked_from w (without_marks (merged (changes_of lists tx) visible)) (with_list lists tx None) (λ page.
    let list = changes_of lists tx in
    let gone = replaced visible list in
    after_end (mark_at v page) (mark_at w page) (is_named page list) (is_named page gone) (times page visible) (times_pending page lists) (times page (without_marks (merged list visible))) (times_pending page (with_list lists tx None)) (times page gone) (times page list)
    (fits_at v visible lists page marked)
    (after_sum (as_name page) (name_light page) list visible rises (rising_differ list (rising_at lists tx rising)))
    (pending_closed page lists tx)
    (replaced_none page visible list)
    (named_some page list) (named_none page list) (named_some page gone) (named_none page gone) (remarks page))

-- ---- a collection's moves

after_move : (mark other : Mark) (fresh gone : Bool) (n m shown r l : ℕ) → Fits mark n m → shown + r ≡ n + l → l ≤ 1 → (n ≡ 0 → r ≡ 0) → (fresh ≡ true → (1 ≤ l) × (mark ≡ Dead)) → (fresh ≡ false → l ≡ 0) → (gone ≡ true → 1 ≤ r) → (gone ≡ false → r ≡ 0)
    → other ≡ cond fresh Visible (cond gone Dead mark) → Fits other shown m
after_move mark other true gone n m shown r l fits sum once only fresh stale dies stays is =
    let h = fresh refl in
    let some = h.0 in
    let d = is_dead_once mark n m fits h.1 in
    let zero_ = d.0 in
    let none = only d.0 in
    refit Visible other shown m is ((let t : shown ≡ 1 = omega arith in t), d.1)
after_move mark other false true n m shown r l fits sum once only fresh stale dies stays is =
    let none = stale refl in
    let some = dies refl in
    let p = is_visible_once mark n m fits (omega arith) in
    let one = p.0 in
    refit Dead other shown m is ((let t : shown ≡ 0 = omega arith in t), p.1)
after_move mark other false false n m shown r l fits sum once only fresh stale dies stays is =
    let none = stale refl in
    let zero_ = stays refl in
    let same : shown ≡ n = omega arith in
    refit mark other shown m is (same ∙ fits.0, fits.1)

pub moved_marks : (v w : Values) (visible moves : List Entry) (lists : Transactions) → is_rising visible ≡ true → keys_differ moves ≡ true → AreMarked v visible lists → WereDead v moves → ((page : ℕ) → times page moves ≤ 1)
    → IsRemarked v (replaced visible moves) moves Visible w → AreMarked w (without_marks (merged moves visible)) lists
moved_marks v w visible moves lists rises differ marked dead once remarks = marked_from w (without_marks (merged moves visible)) lists (λ page.
    let gone = replaced visible moves in
    after_move (mark_at v page) (mark_at w page) (is_named page moves) (is_named page gone) (times page visible) (times_pending page lists) (times page (without_marks (merged moves visible))) (times page gone) (times page moves)
    (fits_at v visible lists page marked)
    (after_sum (as_name page) (name_light page) moves visible rises differ)
    (once page) (replaced_none page visible moves)
    (λ is. (named_some page moves is, dead page is)) (named_none page moves) (named_some page gone) (named_none page gone) (remarks page))

-- ---- other pages for pending ones

-- of another page as often as of both, of the page never, of the rest as before
abbrev replaced_times : Bool → Bool → ℕ → ℕ → ℕ → ℕ
replaced_times is_other is_page other page rest = cond is_other (other + page) (cond is_page 0 rest)

both_times : (a b : Bool) (x y z u v w : ℕ) → replaced_times a b x y z + replaced_times a b u v w ≡ replaced_times a b (x + u) (y + v) (z + w)
both_times true b x y z u v w = omega arith
both_times false true x y z u v w = refl
both_times false false x y z u v w = refl

no_times : (a b : Bool) → 0 ≡ replaced_times a b 0 0 0
no_times true b = refl
no_times false true = refl
no_times false false = refl

abbrev if_same : ℕ → ℕ → ℕ
if_same a b = cond (eqb a b) 1 0

one_if : (a b : ℕ) → a ≡ b → if_same a b ≡ 1
one_if a b is = ap {B = ℕ} (λ c. cond c 1 0) (eq-eqb a b is)

none_if : (a b : ℕ) → (a ≡ b → ⊥) → if_same a b ≡ 0
none_if a b not_ = ap {B = ℕ} (λ c. cond c 1 0) (ne_eqb a b not_)

at_times : (q page other at : ℕ) → (page ≡ other → ⊥) → if_same (cond (eqb at page) other at) q ≡ replaced_times (eqb q other) (eqb q page) (if_same at other) (if_same at page) (if_same at q)
at_times q page other at apart = elim (cases_eq at page) [
  | inl here ↦
      ap (λ c. if_same (cond c other at) q) (eq-eqb at page here)
      ∙ moved here
  | inr away ↦
      ap (λ c. if_same (cond c other at) q) (ne_eqb at page away)
      ∙ kept away
]
  where
    moved : at ≡ page → if_same other q ≡ replaced_times (eqb q other) (eqb q page) (if_same at other) (if_same at page) (if_same at q)
    moved here = elim (cases_eq q other) [
      | inl same ↦
          one_if other q (sym same)
          ∙ sym (ap (λ c. replaced_times c (eqb q page) (if_same at other) (if_same at page) (if_same at q)) (eq-eqb q other same)
          ∙ (let a = none_if at other (λ e. apart (sym here ∙ e)) in let b = one_if at page here in let t : if_same at other + if_same at page ≡ 1 = omega arith in t))
      | inr different ↦
          none_if other q (λ e. different (sym e))
          ∙ sym (ap (λ c. replaced_times c (eqb q page) (if_same at other) (if_same at page) (if_same at q)) (ne_eqb q other different) ∙ behind)
    ]
      where
        behind : cond (eqb q page) 0 (if_same at q) ≡ 0
        behind = elim (cases_eq q page) [
          | inl is ↦ ap (λ c. cond c 0 (if_same at q)) (eq-eqb q page is)
          | inr not_ ↦ ap (λ c. cond c 0 (if_same at q)) (ne_eqb q page not_) ∙ none_if at q (λ e. not_ (sym e ∙ here))
        ]

    kept : (at ≡ page → ⊥) → if_same at q ≡ replaced_times (eqb q other) (eqb q page) (if_same at other) (if_same at page) (if_same at q)
    kept away = elim (cases_eq q other) [
      | inl same ↦ sym (ap (λ c. replaced_times c (eqb q page) (if_same at other) (if_same at page) (if_same at q)) (eq-eqb q other same)
          ∙ (let a = none_if at page away in let b : if_same at other ≡ if_same at q = ap (λ k. if_same at k) (sym same) in let t : if_same at other + if_same at page ≡ if_same at q = omega arith in t))
      | inr different ↦ sym (ap (λ c. replaced_times c (eqb q page) (if_same at other) (if_same at page) (if_same at q)) (ne_eqb q other different) ∙ behind)
    ]
      where
        behind : cond (eqb q page) 0 (if_same at q) ≡ if_same at q
        behind = elim (cases_eq q page) [
          | inl is ↦ ap (λ c. cond c 0 (if_same at q)) (eq-eqb q page is) ∙ sym (none_if at q (λ e. away (e ∙ is)))
          | inr not_ ↦ ap (λ c. cond c 0 (if_same at q)) (ne_eqb q page not_)
        ]

entry_times : (q page other : ℕ) (e : Entry) → (page ≡ other → ⊥) → as_name q (repointed page other e) ≡ replaced_times (eqb q other) (eqb q page) (as_name other e) (as_name page e) (as_name q e)
entry_times q page other (Put key value) apart = no_times (eqb q other) (eqb q page)
entry_times q page other (Gone key) apart = no_times (eqb q other) (eqb q page)
entry_times q page other (At key at size) apart = at_times q page other at apart

list_times : (q page other : ℕ) (es : List Entry) → (page ≡ other → ⊥) → times q (map (repointed page other) es) ≡ replaced_times (eqb q other) (eqb q page) (times other es) (times page es) (times q es)
list_times q page other [] apart = no_times (eqb q other) (eqb q page)
list_times q page other (e ∷ es) apart =
    let first = entry_times q page other e apart in
    let rest = list_times q page other es apart in
    times_first q (repointed page other e) (map (repointed page other) es)
    ∙ (λ i. first i + rest i)
    ∙ both_times (eqb q other) (eqb q page) (as_name other e) (as_name page e) (as_name q e) (times other es) (times page es) (times q es)
    ∙ sym (λ i. replaced_times (eqb q other) (eqb q page) (times_first other e es i) (times_first page e es i) (times_first q e es i))

lists_times : (q page other : ℕ) (lists : Transactions) → (page ≡ other → ⊥) → times_pending q (all_repointed page other lists) ≡ replaced_times (eqb q other) (eqb q page) (times_pending other lists) (times_pending page lists) (times_pending q lists)
lists_times q page other [] apart = no_times (eqb q other) (eqb q page)
lists_times q page other (t ∷ ts) apart =
    let first : times q (unwrap_or (option_map (map (repointed page other)) t) []) ≡ replaced_times (eqb q other) (eqb q page) (times other (unwrap_or t [])) (times page (unwrap_or t [])) (times q (unwrap_or t [])) = ap (times q) (unwrapped t) ∙ list_times q page other (unwrap_or t []) apart in
    let rest = lists_times q page other ts apart in
    pending_first q (option_map (map (repointed page other)) t) (all_repointed page other ts)
    ∙ (λ i. first i + rest i)
    ∙ both_times (eqb q other) (eqb q page) (times other (unwrap_or t [])) (times page (unwrap_or t [])) (times q (unwrap_or t [])) (times_pending other ts) (times_pending page ts) (times_pending q ts)
    ∙ sym (λ i. replaced_times (eqb q other) (eqb q page) (pending_first other t ts i) (pending_first page t ts i) (pending_first q t ts i))
  where
    unwrapped : (t : Option (List Entry)) → unwrap_or (option_map (map (repointed page other)) t) [] ≡ map (repointed page other) (unwrap_or t [])
    unwrapped None = refl
    unwrapped (Some es) = refl

pub repoints : (v w : Values) (visible : List Entry) (lists : Transactions) (page other : ℕ) → AreMarked v visible lists → mark_at v page ≡ Pending → mark_at v other ≡ Dead
    → ((q : ℕ) → mark_at w q ≡ cond (eqb q other) Pending (cond (eqb q page) Dead (mark_at v q))) → AreMarked w visible (all_repointed page other lists)
repoints v w visible lists page other marked here dead remarks = marked_from w visible (all_repointed page other lists) each
  where
    apart : page ≡ other → ⊥
    apart same = absurd (let e : Pending ≡ Dead = sym here ∙ ap (mark_at v) same ∙ dead in cc)

    each : (q : ℕ) → Fits (mark_at w q) (times q visible) (times_pending q (all_repointed page other lists))
    each q = elim (cases_eq q other) [
      | inl same ↦
          let d = is_dead_once (mark_at v q) (times q visible) (times_pending q lists) (fits_at v visible lists q marked) (ap (mark_at v) same ∙ dead) in
          let none = is_dead_once (mark_at v other) (times other visible) (times_pending other lists) (fits_at v visible lists other marked) dead in
          let one : times_pending page lists ≡ 1 = marked.pending page ∙ ap {B = ℕ} (λ k. cond (is_pending k) 1 0) here in
          let zero_ = none.1 in
          refit Pending (mark_at w q) (times q visible) (times_pending q (all_repointed page other lists)) (remarks q ∙ ap (λ c. cond c Pending (cond (eqb q page) Dead (mark_at v q))) (eq-eqb q other same))
          (d.0, lists_times q page other lists apart ∙ ap (λ c. replaced_times c (eqb q page) (times_pending other lists) (times_pending page lists) (times_pending q lists)) (eq-eqb q other same) ∙ (let t : times_pending other lists + times_pending page lists ≡ 1 = omega arith in t))
      | inr different ↦ elim (cases_eq q page) [
        | inl is ↦
            let n : times q visible ≡ 0 = marked.shown q ∙ ap {B = ℕ} (λ k. cond (is_visible (mark_at v k)) 1 0) is ∙ ap {B = ℕ} (λ k. cond (is_visible k) 1 0) here in
            refit Dead (mark_at w q) (times q visible) (times_pending q (all_repointed page other lists)) (remarks q ∙ ap (λ c. cond c Pending (cond (eqb q page) Dead (mark_at v q))) (ne_eqb q other different) ∙ ap (λ c. cond c Dead (mark_at v q)) (eq-eqb q page is))
            (n, lists_times q page other lists apart ∙ ap (λ c. replaced_times c (eqb q page) (times_pending other lists) (times_pending page lists) (times_pending q lists)) (ne_eqb q other different) ∙ ap (λ c. cond c 0 (times_pending q lists)) (eq-eqb q page is))
        | inr not_ ↦
            refit (mark_at v q) (mark_at w q) (times q visible) (times_pending q (all_repointed page other lists)) (remarks q ∙ ap (λ c. cond c Pending (cond (eqb q page) Dead (mark_at v q))) (ne_eqb q other different) ∙ ap (λ c. cond c Dead (mark_at v q)) (ne_eqb q page not_))
            (marked.shown q, lists_times q page other lists apart ∙ ap (λ c. replaced_times c (eqb q page) (times_pending other lists) (times_pending page lists) (times_pending q lists)) (ne_eqb q other different) ∙ ap (λ c. cond c 0 (times_pending q lists)) (ne_eqb q page not_) ∙ marked.pending q)
      ]
    ]
