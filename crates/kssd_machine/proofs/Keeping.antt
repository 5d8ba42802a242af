-- Pages with marks hold their values, and stay.
use Rattle.std.proofs.Common.{◌≡◌, ◌≢◌, ◌∙◌, ℕ, zero, suc, ◌/◌, ◌<◌, ◌≤◌, inl, inr, Bool, true, false, cond, ◌&&◌, ◌||◌, eqb, List, [], ◌∷◌, ◌++◌, length, get_or, unwrap_or, refl, sym, ap, subst, arith}
use Rattle.std.specs.List.{AllByRecursion, IsDistinct, Contains, list_any, list_all}
use Rattle.std.proofs.lemmas.Bool.{and_parts, and_from, eqb-true, eq-eqb, ne_eqb, cases_eq, cases_lt}
use Rattle.kv_nand.specs.Flash.{Image, PageState, Erased}
use Rattle.kssd_layout.specs.Numbers.{first_value_block_in}
use Rattle.kssd_entry.specs.declared.entry.Entry.{Entry}
use Rattle.kssd_entry.specs.declared.entry.Entry.TheVariants.{Put, At, Gone}
use Rattle.kssd_model.specs.Rising.{is_rising}
use Rattle.kssd_image.specs.ValuePages.{has_value}
use Rattle.kssd_image.specs.Stages.{shown_in}
use Rattle.kssd_image.specs.Whole.{page_named, pages_named, is_value_block, has_its_value, IsWhole, age_in}
use Rattle.kssd_frames.specs.Same.{as_counted, Stays}
use Rattle.kssd_frames.specs.Spare.{IsSpareValuePage}
use Rattle.kssd_frames.proofs.ShownLaws.{named_once}
use Rattle.kssd_frames.proofs.Places.{region_of_values}
use Rattle.kssd_frames.proofs.SparePages.{value_pages_stay}
use Rattle.kssd_tx.specs.Lists.{Transactions}
use Rattle.kssd_values.specs.Marks.{is_live}
use Rattle.kssd_values.specs.declared.mark.Mark.{Mark}
use Rattle.kssd_values.specs.declared.mark.Mark.TheVariants.{Pending, Visible, Dead}
use Rattle.kssd_values.specs.declared.values.Values.{Values}
use Rattle.kssd_values.specs.Places.{IsValueBlock}
use Rattle.kssd_values.specs.Blocks.{device_of, mark_at, is_live_at}
use Rattle.kssd_values.specs.Pages.{is_value, KeepsPages, LiveStand}
use Rattle.kssd_reclaim.specs.Sources.{is_visible}
use Rattle.kssd_machine.specs.Names.{names, times, times_pending, are_valued}
use Rattle.kssd_machine.specs.Machines.{no_lists, ArePendingSame}
use Rattle.kssd_machine.specs.Marked.{is_pending, AreMarked, is_named}
use Rattle.kssd_machine.proofs.Naming.{times_first, pending_first, each_named}
use Rattle.kssd_machine.proofs.Seeing.{page_read}
use Rattle.kssd_machine.proofs.Weighing.{as_name}
use Rattle.kssd_machine.proofs.Tagging.{named_some, named_none, marked_from}

-- ---- a page that is named

abbrev Holds : ℕ → Image → ℕ → Type 0
Holds blocks image page = IsValueBlock blocks (page / 32) × (is_value (image page) ≡ true)

entry_holds : (blocks : ℕ) (image : Image) (page : ℕ) (e : Entry) → names page e ≡ true → has_its_value blocks image e ≡ true → Holds blocks image page
entry_holds blocks image page (Put key value) is valued = absurd cc
entry_holds blocks image page (Gone key) is valued = absurd cc
entry_holds blocks image page (At key at size) is valued =
    let read = page_read blocks image key at size valued in
    subst (Holds blocks image) (eqb-true at page is) (read.region, read.value)

list_holds : (blocks : ℕ) (image : Image) (page : ℕ) (es : List Entry) → list_all (has_its_value blocks image) es ≡ true → 1 ≤ times page es → Holds blocks image page
list_holds blocks image page [] valued some = absurd (omega arith)
list_holds blocks image page (e ∷ es) valued some =
    let both = and_parts _ _ valued in
    by (names page e) refl (list_holds blocks image page es both.1)
  where
    by : (b : Bool) → names page e ≡ b → (1 ≤ times page es → Holds blocks image page) → Holds blocks image page
    by true is rest = entry_holds blocks image page e is (and_parts _ _ valued).0
    by false is rest = rest (let none : as_name page e ≡ 0 = ap {B = ℕ} (λ b. cond b 1 0) is in omega (arith, times_first page e es))

lists_hold : (blocks : ℕ) (image : Image) (page : ℕ) (lists : Transactions) → are_valued blocks image lists ≡ true → 1 ≤ times_pending page lists → Holds blocks image page
lists_hold blocks image page [] valued some = absurd (omega arith)
lists_hold blocks image page (t ∷ ts) valued some =
    let both = and_parts (list_all (has_its_value blocks image) (unwrap_or t [])) (are_valued blocks image ts) valued in
    elim (cases_lt 0 (times page (unwrap_or t []))) [
      | inl here ↦ list_holds blocks image page (unwrap_or t []) both.0 (omega arith)
      | inr none ↦ lists_hold blocks image page ts both.1 (omega (arith, pending_first page t ts))
    ]

-- ---- a page with a mark

pub live_holds : (blocks : ℕ) (v : Values) (image : Image) (visible : List Entry) (lists : Transactions) (page : ℕ) → AreMarked v visible lists → list_all (has_its_value blocks image) visible ≡ true → are_valued blocks image lists ≡ true
    → is_live_at v page ≡ true → IsValueBlock blocks (page / 32) × (is_value (image page) ≡ true)
live_holds blocks v image visible lists page marked shown pending live = by (mark_at v page) refl live
  where
    by : (mark : Mark) → mark_at v page ≡ mark → is_live mark ≡ true → Holds blocks image page
    by Visible is h = list_holds blocks image page visible shown (let one = marked.shown page ∙ ap {B = ℕ} (λ m. cond (is_visible m) 1 0) is in omega arith)
    by Pending is h = lists_hold blocks image page lists pending (let one = marked.pending page ∙ ap {B = ℕ} (λ m. cond (is_pending m) 1 0) is in omega arith)
    by Dead is h = absurd cc

pub live_stand : (v : Values) (image : Image) (visible : List Entry) (lists : Transactions) → AreMarked v visible lists → list_all (has_its_value (device_of v) image) visible ≡ true → are_valued (device_of v) image lists ≡ true → LiveStand v image
live_stand v image visible lists marked shown pending = record { each = λ page live. (live_holds (device_of v) v image visible lists page marked shown pending live).1 }

not_erased : (state : PageState) → is_value state ≡ true → state ≢ Erased
not_erased state is h = absurd (let e : false ≡ true = sym (ap is_value h) ∙ is in cc)

pub fresh_is_dead : (blocks : ℕ) (v : Values) (image : Image) (visible : List Entry) (lists : Transactions) (page : ℕ) → AreMarked v visible lists → list_all (has_its_value blocks image) visible ≡ true → are_valued blocks image lists ≡ true
    → image page ≡ Erased → mark_at v page ≡ Dead
fresh_is_dead blocks v image visible lists page marked shown pending erased = by (mark_at v page) refl
  where
    never : (mark : Mark) → mark_at v page ≡ mark → is_live mark ≡ true → ⊥
    never mark is live = not_erased (image page) (live_holds blocks v image visible lists page marked shown pending (ap is_live is ∙ live)).1 erased

    by : (mark : Mark) → mark_at v page ≡ mark → mark_at v page ≡ Dead
    by Visible is = absurd (never Visible is refl)
    by Pending is = absurd (never Pending is refl)
    by Dead is = is

is_pending_since : (mark : Mark) (m : ℕ) → m ≡ cond (is_pending mark) 1 0 → 1 ≤ m → is_live mark ≡ true
is_pending_since Pending m is some = refl
is_pending_since Visible m is some = absurd (omega arith)
is_pending_since Dead m is some = absurd (omega arith)

is_visible_since : (mark : Mark) (n : ℕ) → n ≡ cond (is_visible mark) 1 0 → 1 ≤ n → is_live mark ≡ true
is_visible_since Visible n is some = refl
is_visible_since Pending n is some = absurd (omega arith)
is_visible_since Dead n is some = absurd (omega arith)

pub pending_stays : (blocks : ℕ) (v : Values) (old new : Image) (visible : List Entry) (lists : Transactions) → AreMarked v visible lists → list_all (has_its_value blocks old) visible ≡ true → are_valued blocks old lists ≡ true
    → KeepsPages v old new → ArePendingSame old new lists
pending_stays blocks v old new visible lists marked shown pending keeps page some =
    let live = is_pending_since (mark_at v page) (times_pending page lists) (marked.pending page) some in
    ap as_counted (keeps.live page live (not_erased (old page) (lists_hold blocks old page lists pending some).1))

-- ---- the objects stay

contains_named : (es : List Entry) (page : ℕ) → Contains (pages_named es) page → 1 ≤ times page es
contains_named [] page c = absurd (let low = c.1 in omega arith)
contains_named (Put key value ∷ es) page c = let some = contains_named es page c in omega (arith, times_first page (Put key value) es)
contains_named (Gone key ∷ es) page c = let some = contains_named es page c in omega (arith, times_first page (Gone key) es)
contains_named (At key at size ∷ es) page c = place (contains_named es page) c.0 c.1 c.2
  where
    place : (Contains (pages_named es) page → 1 ≤ times page es) → (k : ℕ) → k < length (at ∷ pages_named es) → get_or (at ∷ pages_named es) k page ≡ page → 1 ≤ times page (At key at size ∷ es)
    place rest zero low is = let one : as_name page (At key at size) ≡ 1 = ap {B = ℕ} (λ b. cond b 1 0) (eq-eqb at page is) in omega (arith, times_first page (At key at size) es)
    place rest (suc k) low is = let some = rest (k, (let t : k < length (pages_named es) = omega arith in t), is) in omega (arith, times_first page (At key at size) es)

pub objects_stay : (v : Values) (old new : Image) (lists : Transactions) → IsWhole (device_of v) old → AreMarked v (shown_in old) lists → KeepsPages v old new → Stays (device_of v) old new (age_in old)
objects_stay v old new lists whole marked keeps = value_pages_stay (device_of v) old new whole same
  where
    named : (page : ℕ) → 1 ≤ times page (shown_in old) → new page ≡ old page
    named page some =
        let live = is_visible_since (mark_at v page) (times page (shown_in old)) (marked.shown page) some in
        keeps.live page live (not_erased (old page) (list_holds (device_of v) old page (shown_in old) whole.values.pages some).1)

    same : (page : ℕ) → (IsSpareValuePage (device_of v) old page → ⊥) → new page ≡ old page
    same page not_spare = elim (cases_lt 0 (times page (shown_in old))) [
      | inl some ↦ named page (omega arith)
      | inr none ↦ elim (cases_lt (page / 32) (first_value_block_in (device_of v))) [
        | inl low ↦ keeps.outside page (λ b. let first = b.first in absurd (omega arith))
        | inr high ↦ absurd (not_spare (region_of_values (device_of v) (page / 32) high, λ c. let some = contains_named (shown_in old) page c in absurd (omega arith)))
      ]
    ]

-- ---- values of changes

entry_kept : (blocks : ℕ) (old new : Image) (e : Entry) → has_its_value blocks old e ≡ true → ((page : ℕ) → names page e ≡ true → new page ≡ old page) → has_its_value blocks new e ≡ true
entry_kept blocks old new (Put key value) valued same = refl
entry_kept blocks old new (Gone key) valued same = refl
entry_kept blocks old new (At key page size) valued same = ap (λ s. is_value_block blocks (page / 32) && has_value key size s) (same page (eq-eqb page page refl)) ∙ valued

list_kept : (blocks : ℕ) (old new : Image) (es : List Entry) → list_all (has_its_value blocks old) es ≡ true → AllByRecursion (λ e. (page : ℕ) → names page e ≡ true → new page ≡ old page) es → list_all (has_its_value blocks new) es ≡ true
list_kept blocks old new [] valued same = refl
list_kept blocks old new (e ∷ es) valued same =
    let both = and_parts _ _ valued in
    and_from _ _ (entry_kept blocks old new e both.0 same.0) (list_kept blocks old new es both.1 same.1)

pub still_valued : (blocks : ℕ) (old new : Image) (lists : Transactions) → are_valued blocks old lists ≡ true → ((page : ℕ) → 1 ≤ times_pending page lists → new page ≡ old page) → are_valued blocks new lists ≡ true
still_valued blocks old new [] valued same = refl
still_valued blocks old new (t ∷ ts) valued same =
    let both = and_parts (list_all (has_its_value blocks old) (unwrap_or t [])) (are_valued blocks old ts) valued in
    and_from _ _
    (list_kept blocks old new (unwrap_or t []) both.0 (each_named (λ page. new page ≡ old page) (unwrap_or t []) (λ page some. same page (omega (arith, pending_first page t ts)))))
    (still_valued blocks old new ts both.1 (λ page some. same page (omega (arith, pending_first page t ts))))

-- ---- a mount

any_named : (page : ℕ) (es : List Entry) → list_any (λ q. eqb q page) (pages_named es) ≡ is_named page es
any_named page [] = refl
any_named page (e ∷ es) = by e (any_named page es)
  where
    by : (x : Entry) → list_any (λ q. eqb q page) (pages_named es) ≡ is_named page es → list_any (λ q. eqb q page) (page_named x ++ pages_named es) ≡ (names page x || is_named page es)
    by (Put key value) rest = rest
    by (Gone key) rest = rest
    by (At key at size) rest = ap (λ b. eqb at page || b) rest

no_more : (page : ℕ) (es : List Entry) → AllByRecursion (λ q. eqb page q ≡ false) (pages_named es) → times page es ≡ 0
no_more page [] apart = refl
no_more page (Put key value ∷ es) apart = let none = no_more page es apart in omega (arith, times_first page (Put key value) es)
no_more page (Gone key ∷ es) apart = let none = no_more page es apart in omega (arith, times_first page (Gone key) es)
no_more page (At key at size ∷ es) apart =
    let none = no_more page es apart.1 in
    let zero_ : as_name page (At key at size) ≡ 0 = elim (cases_eq at page) [
      | inl same ↦ absurd (let e : true ≡ false = sym (eq-eqb page at (sym same)) ∙ apart.0 in cc)
      | inr not_ ↦ ap {B = ℕ} (λ b. cond b 1 0) (ne_eqb at page not_)
    ] in
    omega (arith, times_first page (At key at size) es)

once_from : (page : ℕ) (es : List Entry) → IsDistinct eqb (pages_named es) → times page es ≤ 1
unfolding IsDistinct
once_from page [] d = omega arith
once_from page (Put key value ∷ es) d = let few = once_from page es d in omega (arith, times_first page (Put key value) es)
once_from page (Gone key ∷ es) d = let few = once_from page es d in omega (arith, times_first page (Gone key) es)
once_from page (At key at size ∷ es) d =
    let few = once_from page es d.1 in
    elim (cases_eq at page) [
      | inl same ↦
          let none = no_more page es (subst (λ (p : ℕ). AllByRecursion (λ q. eqb p q ≡ false) (pages_named es)) same d.0) in
          let one : as_name page (At key at size) ≡ 1 = ap {B = ℕ} (λ b. cond b 1 0) (eq-eqb at page same) in
          omega (arith, times_first page (At key at size) es)
      | inr not_ ↦
          let none : as_name page (At key at size) ≡ 0 = ap {B = ℕ} (λ b. cond b 1 0) (ne_eqb at page not_) in
          omega (arith, times_first page (At key at size) es)
    ]

pub times_once : (blocks : ℕ) (image : Image) (es : List Entry) (page : ℕ) → is_rising es ≡ true → list_all (has_its_value blocks image) es ≡ true → times page es ≤ 1
times_once blocks image es page rising valued = once_from page es (named_once blocks image es rising valued)

pub opened : (blocks : ℕ) (image : Image) (v : Values) (visible : List Entry) → is_rising visible ≡ true → list_all (has_its_value blocks image) visible ≡ true
    → ((page : ℕ) → mark_at v page ≡ cond (list_any (λ q. eqb q page) (pages_named visible)) Visible Dead) → AreMarked v visible no_lists
opened blocks image v visible rising valued marks = marked_from v visible no_lists (λ page. by page (is_named page visible) refl)
  where
    by : (page : ℕ) (b : Bool) → is_named page visible ≡ b → (times page visible ≡ cond (is_visible (mark_at v page)) 1 0) × (times_pending page no_lists ≡ cond (is_pending (mark_at v page)) 1 0)
    by page true is =
        let mark : mark_at v page ≡ Visible = marks page ∙ ap (λ b. cond b Visible Dead) (any_named page visible ∙ is) in
        let some = named_some page visible is in
        let few = times_once blocks image visible page rising valued in
        let one : times page visible ≡ 1 = omega arith in
        (one ∙ sym (ap {B = ℕ} (λ m. cond (is_visible m) 1 0) mark), sym (ap {B = ℕ} (λ m. cond (is_pending m) 1 0) mark))
    by page false is =
        let mark : mark_at v page ≡ Dead = marks page ∙ ap (λ b. cond b Visible Dead) (any_named page visible ∙ is) in
        (named_none page visible is ∙ sym (ap {B = ℕ} (λ m. cond (is_visible m) 1 0) mark), sym (ap {B = ℕ} (λ m. cond (is_pending m) 1 0) mark))
