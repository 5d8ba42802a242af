-- The moves of a collection.
use Rattle.std.proofs.Common.{◌≡◌, ◌∙◌, ℕ, suc, ◌+◌, ◌/◌, ◌%◌, ◌<◌, ◌≤◌, ◌-◌, inl, inr, Bool, true, false, cond, not, ◌||◌, eqb, ltb, List, [], ◌∷◌, ◌++◌, length, get_or, map, Option, Some, None, option_map, refl, sym, ap, subst, arith, length-append}
use Rattle.std.specs.Prelude.{filter}
use Rattle.std.specs.List.{AllByRecursion, list_any, list_all}
use Rattle.std.specs.FinMap as objects
use Rattle.std.specs.declared.cmp.Ordering.{Ordering}
use Rattle.std.specs.declared.cmp.Ordering.TheVariants.{Less, Equal, Greater}
use Rattle.std.proofs.lemmas.Bool.{and_parts, and_from, eqb-true, eq-eqb, ne_eqb, le-leb, lt-ltb, ltb-true, cases_eq, cases_lt, or_left, or_right}
use Rattle.std.proofs.lemmas.Option.{none-some, same_Some}
use Rattle.std.proofs.lemmas.List.{get_or_append_left, get_or-append_right}
use Rattle.kv_nand.specs.Flash.{Flash, Image}
use Rattle.kssd_entry.specs.declared.entry.Entry.{Entry}
use Rattle.kssd_entry.specs.declared.entry.Entry.TheVariants.{Put, At, Gone}
use Rattle.kssd_entry.specs.Spelling.{key_of}
use Rattle.kssd_model.specs.Rising.{key_cmp, by_order, has_key, is_rising, find_entry, put_entry, merged}
use Rattle.kssd_model.proofs.RisingEntries.{has_key_equal, turned, above_same, find_above}
use Rattle.kssd_image.specs.ValuePages.{has_value, first_bytes}
use Rattle.kssd_image.specs.Stages as stages
use Rattle.kssd_image.specs.Stages.{without_marks, shown_in, value_in, change_in}
use Rattle.kssd_image.specs.Whole.{page_named, pages_named, is_value_block, has_its_value, is_unnamed}
use Rattle.kssd_frames.specs.Logging.{shown_after}
use Rattle.kssd_frames.specs.Changing.{IsMove}
use Rattle.kssd_frames.proofs.Lookups.{key_is, has_own}
use Rattle.kssd_frames.proofs.ShownLaws.{shown_in_rises, objects_get}
use Rattle.kssd_tx.specs.Lists.{Transactions, changes_of, repointed, all_repointed}
use Rattle.kssd_values.specs.Marks.{is_live}
use Rattle.kssd_values.specs.declared.mark.Mark.{Mark}
use Rattle.kssd_values.specs.declared.mark.Mark.TheVariants.{Pending, Visible, Dead}
use Rattle.kssd_values.specs.declared.filling.Filling.{Filling}
use Rattle.kssd_values.specs.declared.values.Values.{Values}
use Rattle.kssd_values.specs.Places.{IsValueBlock, is_in, next_in, is_below_in}
use Rattle.kssd_values.specs.Blocks.{Free, Open, Closed, Target, device_of, mark_at, is_live_at, state_at, is_target_page, target_next}
use Rattle.kssd_reclaim.specs.declared.copies.CopyOf.{CopyOf}
use Rattle.kssd_reclaim.specs.declared.reclaim.Reclaim.{Reclaim}
use Rattle.kssd_reclaim.specs.Sources.{is_visible, move_of}
use Rattle.kssd_reclaim.specs.Reclaim.{block_of, next_of, copies_of, moves_of, AllCopied, IsCopy, Collects}
use Rattle.kssd_reclaim.specs.Steps.{Steps, Begins, CopiesNext}
use Rattle.kssd_machine.specs.Names.{names, times, times_pending, are_rising}
use Rattle.kssd_machine.specs.Machines.{pending_in}
use Rattle.kssd_machine.specs.Sizes.{listed, replaced, keys_differ}
use Rattle.kssd_machine.specs.Marked.{is_pending, AreMarked, is_named}
use Rattle.kssd_machine.specs.Collecting.{HasTargets, visible_copies, AreMoves}
use Rattle.kssd_machine.proofs.Naming.{times_first}
use Rattle.kssd_machine.proofs.Transacting.{rising_at}
use Rattle.kssd_machine.proofs.Seeing.{page_read}
use Rattle.kssd_machine.proofs.Weighing.{as_name, name_light, after_sum, rising_differ}
use Rattle.kssd_machine.proofs.Tagging.{named_some, named_none, pending_closed}

-- ---- the entry that names a page

pub record IsFound (blocks : ℕ) (image : Image) (es : List Entry) (page : ℕ) : Type 0 where
  pub key : List ℕ
  pub size : ℕ
  pub entry : find_entry es key ≡ Some (At key page size)
  pub valued : has_its_value blocks image (At key page size) ≡ true

find_named : (blocks : ℕ) (image : Image) (page : ℕ) (es : List Entry) → is_rising es ≡ true → list_all (has_its_value blocks image) es ≡ true → 1 ≤ times page es → IsFound blocks image es page
find_named blocks image page [] rising valued some = absurd (omega arith)
find_named blocks image page (x ∷ xs) rising valued some =
    let r = and_parts _ _ rising in
    let v = and_parts _ _ valued in
    by (names page x) refl (find_named blocks image page xs r.1 v.1)
  where
    first : (x : Entry) → names page x ≡ true → has_its_value blocks image x ≡ true → IsFound blocks image (x ∷ xs) page
    first (Put key value) is h = absurd cc
    first (Gone key) is h = absurd cc
    first (At key at size) is h =
        let same = eqb-true at page is in
        let here : find_entry (At key at size ∷ xs) key ≡ Some (At key at size) = ap (λ b. cond b (Some (At key at size)) (find_entry xs key)) (has_own (At key at size)) in
        record {
          key = key;
          size = size;
          entry = here ∙ ap (λ p. Some (At key p size)) same;
          valued = subst (λ (p : ℕ). has_its_value blocks image (At key p size) ≡ true) same h;
        }

    later : IsFound blocks image xs page → IsFound blocks image (x ∷ xs) page
    later f = record { key = f.key; size = f.size; entry = behind (has_key f.key x) refl; valued = f.valued }
      where
        behind : (b : Bool) → has_key f.key x ≡ b → cond b (Some x) (find_entry xs f.key) ≡ Some (At f.key page f.size)
        behind false is = f.entry
        behind true is =
            let above = above_same f.key (key_of x) xs (turned (key_of x) f.key Equal (has_key_equal f.key x is)) (and_parts _ _ rising).0 in
            absurd (none-some (At f.key page f.size) (sym (find_above f.key xs above) ∙ f.entry))

    by : (b : Bool) → names page x ≡ b → (1 ≤ times page xs → IsFound blocks image xs page) → IsFound blocks image (x ∷ xs) page
    by true is rest = first x is (and_parts _ _ valued).0
    by false is rest = later (rest (let none : as_name page x ≡ 0 = ap {B = ℕ} (λ b. cond b 1 0) is in omega (arith, times_first page x xs)))

-- ---- facts of each copy

each_from : {X : Type 0} (P : X → Type 0) (xs : List X) → ((i : ℕ) (d : X) → i < length xs → P (get_or xs i d)) → AllByRecursion P xs
each_from P [] h = tt
each_from P (x ∷ xs) h = (h 0 x (omega arith), each_from P xs (λ i d low. h (suc i) d (omega arith)))

all_filtered : {X : Type 0} (P : X → Type 0) (p : X → Bool) (xs : List X) → AllByRecursion P xs → AllByRecursion (λ x. P x × (p x ≡ true)) (filter p xs)
all_filtered P p [] h = tt
all_filtered {X} P p (x ∷ xs) h = by (p x) refl (all_filtered P p xs h.1)
  where
    by : (b : Bool) → p x ≡ b → AllByRecursion (λ x. P x × (p x ≡ true)) (filter p xs) → AllByRecursion (λ x. P x × (p x ≡ true)) (cond b (x ∷ filter p xs) (filter p xs))
    by true is rest = ((h.0, is), rest)
    by false is rest = rest

all_given : {X : Type 0} (P Q : X → Type 0) (xs : List X) → ((x : X) → P x → Q x) → AllByRecursion P xs → AllByRecursion Q xs
all_given P Q [] f h = tt
all_given P Q (x ∷ xs) f h = (f x h.0, all_given P Q xs f h.1)

-- sources and targets of later copies are greater
abbrev pub IsBefore : CopyOf → CopyOf → Type 0
IsBefore c d = (c.source < d.source) × (c.target < d.target)

abbrev pub AreApart : List CopyOf → Type 0
AreApart [] = Unit {0}
AreApart (c ∷ cs) = AllByRecursion (IsBefore c) cs × AreApart cs

apart_from : (cs : List CopyOf) → ((i j : ℕ) (d : CopyOf) → i < j → j < length cs → IsBefore (get_or cs i d) (get_or cs j d)) → AreApart cs
apart_from [] h = tt
apart_from (c ∷ cs) h = (each_from (IsBefore c) cs (λ j d low. h 0 (suc j) d (omega arith) (omega arith)), apart_from cs (λ i j d less low. h (suc i) (suc j) d (omega arith) (omega arith)))

apart_filtered : (p : CopyOf → Bool) (cs : List CopyOf) → AreApart cs → AreApart (filter p cs)
apart_filtered p [] h = tt
apart_filtered p (c ∷ cs) h = by (p c) (apart_filtered p cs h.1)
  where
    by : (b : Bool) → AreApart (filter p cs) → AreApart (cond b (c ∷ filter p cs) (filter p cs))
    by true rest = (all_given (λ d. IsBefore c d × (p d ≡ true)) (IsBefore c) (filter p cs) (λ d q. q.0) (all_filtered (IsBefore c) p cs h.0), rest)
    by false rest = rest

-- what holds of a copy of a visible page
pub record IsMoved (v : Values) (image : Image) (c : CopyOf) : Type 0 where
  pub found : find_entry (shown_in image) c.key ≡ Some (At c.key c.source c.length)
  pub same : image c.target ≡ image c.source
  pub valued : has_its_value (device_of v) image (At c.key c.target c.length) ≡ true
  pub dead : mark_at v c.target ≡ Dead
  pub place : state_at v (c.target / 32) ≡ Target

-- the block copied into is in use for that
target_block : (v : Values) (page : ℕ) → is_target_page v page ≡ true → (state_at v (page / 32) ≡ Target) × IsValueBlock (device_of v) (page / 32)
target_block v page is = by v.target refl is
  where
    by : (o : Option Filling) → v.target ≡ o → is_below_in o page ≡ true → (state_at v (page / 32) ≡ Target) × IsValueBlock (device_of v) (page / 32)
    by None e h = absurd cc
    by (Some f) e h =
        let both = and_parts (eqb (page / 32) f.block) (ltb (page % 32) f.next) h in
        let block = eqb-true (page / 32) f.block both.0 in
        let here : is_in v.target (page / 32) ≡ true = ap (λ o. is_in o (page / 32)) e ∙ eq-eqb f.block (page / 32) (sym block) in
        let filling = v.sound.target_is f e in
        let apart : is_in v.opened (page / 32) ≡ false = not_open v.opened refl in (
          ap (λ b. cond b Open (cond (is_in v.target (page / 32)) Target (cond (get_or v.free.items (page / 32) false) Free Closed))) apart ∙ ap (λ b. cond b Target (cond (get_or v.free.items (page / 32) false) Free Closed)) here,
          subst (IsValueBlock (device_of v)) (sym block) filling.value,
        )
      where
        not_open : (o : Option Filling) → v.opened ≡ o → is_in o (page / 32) ≡ false
        not_open None k = refl
        not_open (Some g) k =
            let both = and_parts (eqb (page / 32) f.block) (ltb (page % 32) f.next) h in
            ne_eqb g.block (page / 32) (λ same. v.sound.apart g f k e (same ∙ eqb-true (page / 32) f.block both.0))

is_visible_mark : (m : Mark) → is_visible m ≡ true → m ≡ Visible
is_visible_mark Visible h = refl
is_visible_mark Pending h = absurd cc
is_visible_mark Dead h = absurd cc

moved : (v : Values) (image : Image) (lists : Transactions) (c : CopyOf) → AreMarked v (shown_in image) lists → list_all (has_its_value (device_of v) image) (shown_in image) ≡ true → ((page : ℕ) → state_at v (page / 32) ≡ Target → mark_at v page ≡ Dead)
    → IsCopy v image c → is_visible (mark_at v c.source) ≡ true → IsMoved v image c
moved v image lists c marked valued dead copy visible =
    let mark = is_visible_mark (mark_at v c.source) visible in
    let one : times c.source (shown_in image) ≡ 1 = marked.shown c.source ∙ ap {B = ℕ} (λ b. cond b 1 0) visible in
    let f = find_named (device_of v) image c.source (shown_in image) (shown_in_rises image) valued (omega arith) in
    let live : is_live_at v c.source ≡ true = ap is_live mark in
    let read = page_read (device_of v) image f.key c.source f.size f.valued in
    let key : c.key ≡ f.key = copy.key live ∙ read.named in
    let size : c.length ≡ f.size = copy.size live ∙ read.sized in
    let same = copy.page live in
    let place = target_block v c.target copy.filled in
    let held : has_value c.key c.length (image c.source) ≡ true = (λ i. has_value (key i) (size i) (image c.source)) ∙ (and_parts (is_value_block (device_of v) (c.source / 32)) (has_value f.key f.size (image c.source)) f.valued).1 in
    record {
      found = (λ i. find_entry (shown_in image) (key i)) ∙ f.entry ∙ sym (λ i. Some (At (key i) c.source (size i)));
      same = same;
      valued = and_from _ _ (and_from _ _ (le-leb _ _ place.1.first) (lt-ltb _ _ place.1.last)) (ap (has_value c.key c.length) same ∙ held);
      dead = dead c.target place.0;
      place = place.0;
    }

-- ---- lists of moves

abbrev origin : CopyOf → Entry
origin c = At c.key c.source c.length

replaced_are : (v : Values) (image : Image) (cs : List CopyOf) → AllByRecursion (IsMoved v image) cs → replaced (shown_in image) (map move_of cs) ≡ map origin cs
replaced_are v image [] all = refl
replaced_are v image (c ∷ cs) all = λ i. listed (all.0.found i) ++ replaced_are v image cs all.1 i

named_sources : (page : ℕ) (cs : List CopyOf) → is_named page (map origin cs) ≡ list_any (λ c. eqb c.source page) cs
named_sources page [] = refl
named_sources page (c ∷ cs) = ap (λ b. eqb c.source page || b) (named_sources page cs)

each_moves : (v : Values) (image : Image) (cs : List CopyOf) → AllByRecursion (IsMoved v image) cs → AllByRecursion (IsMove image) (map move_of cs)
each_moves v image [] all = tt
each_moves v image (c ∷ cs) all = (
  record { kept = refl; same = objects_get image c.key ∙ ap (option_map (value_in image)) all.0.found ∙ ap (λ s. Some (first_bytes c.length s)) (sym all.0.same) },
  each_moves v image cs all.1,
)

same_source : (c d : CopyOf) → At c.key c.source c.length ≡ At d.key d.source d.length → c.source ≡ d.source
same_source c d e = cc

differ_from : (v : Values) (image : Image) (c : CopyOf) (cs : List CopyOf) → IsMoved v image c → AllByRecursion (IsMoved v image) cs → AllByRecursion (IsBefore c) cs → list_all (λ other. not (has_key (key_of other) (move_of c))) (map move_of cs) ≡ true
differ_from v image c [] m all before = refl
differ_from v image c (d ∷ cs) m all before = and_from _ _ (by (has_key d.key (move_of c)) refl) (differ_from v image c cs m all.1 before.1)
  where
    by : (b : Bool) → has_key d.key (move_of c) ≡ b → not b ≡ true
    by false is = refl
    by true is =
        let key : c.key ≡ d.key = key_is d.key (move_of c) is in
        let one : At c.key c.source c.length ≡ At d.key d.source d.length = same_Some _ _ (sym m.found ∙ ap (find_entry (shown_in image)) key ∙ all.0.found) in
        let source = same_source c d one in
        let less = before.0.0 in
        absurd (omega arith)

all_differ : (v : Values) (image : Image) (cs : List CopyOf) → AllByRecursion (IsMoved v image) cs → AreApart cs → keys_differ (map move_of cs) ≡ true
all_differ v image [] all apart = refl
all_differ v image (c ∷ cs) all apart = and_from _ _ (differ_from v image c cs all.0 all.1 apart.0) (all_differ v image cs all.1 apart.1)

none_later : (page : ℕ) (c : CopyOf) (cs : List CopyOf) → c.target ≡ page → AllByRecursion (IsBefore c) cs → times page (map move_of cs) ≡ 0
none_later page c [] is before = refl
none_later page c (d ∷ cs) is before =
    let less = before.0.1 in
    let none : as_name page (move_of d) ≡ 0 = ap {B = ℕ} (λ b. cond b 1 0) (ne_eqb d.target page (λ e. absurd (omega arith))) in
    let rest = none_later page c cs is before.1 in
    omega (arith, times_first page (move_of d) (map move_of cs))

all_once : (page : ℕ) (cs : List CopyOf) → AreApart cs → times page (map move_of cs) ≤ 1
all_once page [] apart = omega arith
all_once page (c ∷ cs) apart =
    let rest = all_once page cs apart.1 in
    elim (cases_eq c.target page) [
      | inl same ↦
          let one : as_name page (move_of c) ≡ 1 = ap {B = ℕ} (λ b. cond b 1 0) (eq-eqb c.target page same) in
          let none = none_later page c cs same apart.0 in
          omega (arith, times_first page (move_of c) (map move_of cs))
      | inr not_ ↦
          let none : as_name page (move_of c) ≡ 0 = ap {B = ℕ} (λ b. cond b 1 0) (ne_eqb c.target page not_) in
          omega (arith, times_first page (move_of c) (map move_of cs))
    ]

all_dead : (v : Values) (image : Image) (page : ℕ) (cs : List CopyOf) → AllByRecursion (IsMoved v image) cs → is_named page (map move_of cs) ≡ true → mark_at v page ≡ Dead
all_dead v image page [] all is = absurd cc
all_dead v image page (c ∷ cs) all is = by (eqb c.target page) refl is (all_dead v image page cs all.1)
  where
    by : (b : Bool) → eqb c.target page ≡ b → (b || is_named page (map move_of cs)) ≡ true → (is_named page (map move_of cs) ≡ true → mark_at v page ≡ Dead) → mark_at v page ≡ Dead
    by true e h rest = subst (λ (p : ℕ). mark_at v p ≡ Dead) (eqb-true c.target page e) all.0.dead
    by false e h rest = rest h

all_placed : (v : Values) (image : Image) (page : ℕ) (cs : List CopyOf) → AllByRecursion (IsMoved v image) cs → is_named page (map move_of cs) ≡ true → state_at v (page / 32) ≡ Target
all_placed v image page [] all is = absurd cc
all_placed v image page (c ∷ cs) all is = by (eqb c.target page) refl is (all_placed v image page cs all.1)
  where
    by : (b : Bool) → eqb c.target page ≡ b → (b || is_named page (map move_of cs)) ≡ true → (is_named page (map move_of cs) ≡ true → state_at v (page / 32) ≡ Target) → state_at v (page / 32) ≡ Target
    by true e h rest = subst (λ (p : ℕ). state_at v (p / 32) ≡ Target) (eqb-true c.target page e) all.0.place
    by false e h rest = rest h

all_valued : (v : Values) (image : Image) (cs : List CopyOf) → AllByRecursion (IsMoved v image) cs → list_all (has_its_value (device_of v) image) (map move_of cs) ≡ true
all_valued v image [] all = refl
all_valued v image (c ∷ cs) all = and_from _ _ all.0.valued (all_valued v image cs all.1)

pub moves_are : (r : Reclaim) (v : Values) (image : Image) (lists : Transactions) → AreMarked v (shown_in image) lists → list_all (has_its_value (device_of v) image) (shown_in image) ≡ true → Collects r v image → HasTargets r v → AreMoves r v image (moves_of r v)
moves_are r v image lists marked valued collects targets =
    let copies = copies_of r in
    let test : CopyOf → Bool = λ c. is_visible (mark_at v c.source) in
    let vs = visible_copies r v in
    let good = all_filtered (IsCopy v image) test copies (each_from (IsCopy v image) copies collects.each) in
    let all = all_given (λ c. IsCopy v image c × (test c ≡ true)) (IsMoved v image) vs (λ c h. moved v image lists c marked valued targets.dead h.0 h.1) good in
    let apart = apart_filtered test copies (apart_from copies (λ i j d less low. (r.sound.rising i j d less low, targets.rising i j d less low))) in
    record {
      each = each_moves v image vs all;
      differ = all_differ v image vs all apart;
      once = λ page. all_once page vs apart;
      dead = λ page is. all_dead v image page vs all is;
      targets = λ page is. all_placed v image page vs all is;
      valued = all_valued v image vs all;
      sources = λ page. ap (is_named page) (replaced_are v image vs all) ∙ named_sources page vs;
    }

pub unnamed : (entries : List Entry) (block : ℕ) → ((page : ℕ) → page / 32 ≡ block → times page entries ≡ 0) → is_unnamed entries block ≡ true
unnamed [] block none = refl
unnamed (e ∷ es) block none =
    let rest = unnamed es block (λ page is. let all = none page is in omega (arith, times_first page e es)) in
    first e (λ page is. let all = none page is in omega (arith, times_first page e es)) rest
  where
    first : (x : Entry) → ((page : ℕ) → page / 32 ≡ block → as_name page x ≡ 0) → is_unnamed es block ≡ true → list_all (λ page. not (eqb (page / 32) block)) (page_named x ++ pages_named es) ≡ true
    first (Put key value) free rest = rest
    first (Gone key) free rest = rest
    first (At key at size) free rest = and_from _ _ (ap not (ne_eqb (at / 32) block (λ is.
        let one : as_name at (At key at size) ≡ 1 = ap {B = ℕ} (λ b. cond b 1 0) (eq-eqb at at refl) in
        let zero_ = free at is in
        absurd (omega arith)))) rest

-- a visible page that was copied is among the copies of visible pages
copied_visible : (v : Values) (page : ℕ) (cs : List CopyOf) → list_any (λ c. eqb c.source page) cs ≡ true → is_visible (mark_at v page) ≡ true → list_any (λ c. eqb c.source page) (filter (λ c. is_visible (mark_at v c.source)) cs) ≡ true
copied_visible v page [] is visible = absurd cc
copied_visible v page (c ∷ cs) is visible = by (eqb c.source page) (is_visible (mark_at v c.source)) refl refl is (λ h. copied_visible v page cs h visible)
  where
    by : (a b : Bool) → eqb c.source page ≡ a → is_visible (mark_at v c.source) ≡ b → (a || list_any (λ c. eqb c.source page) cs) ≡ true
        → (list_any (λ c. eqb c.source page) cs ≡ true → list_any (λ c. eqb c.source page) (filter (λ c. is_visible (mark_at v c.source)) cs) ≡ true)
        → list_any (λ c. eqb c.source page) (cond b (c ∷ filter (λ c. is_visible (mark_at v c.source)) cs) (filter (λ c. is_visible (mark_at v c.source)) cs)) ≡ true
    by true true e k h rest = or_left (eqb c.source page) (list_any (λ c. eqb c.source page) (filter (λ c. is_visible (mark_at v c.source)) cs)) e
    by true false e k h rest = absurd (let f : false ≡ true = sym k ∙ ap (λ p. is_visible (mark_at v p)) (eqb-true c.source page e) ∙ visible in cc)
    by false true e k h rest = or_right (eqb c.source page) (list_any (λ c. eqb c.source page) (filter (λ c. is_visible (mark_at v c.source)) cs)) (rest h)
    by false false e k h rest = rest h

pub block_left_empty : (r : Reclaim) (v : Values) (image : Image) (lists : Transactions) (moves : List Entry) → AreMarked v (shown_in image) lists → Collects r v image → AllCopied r v → state_at v (block_of r) ≡ Closed → AreMoves r v image moves
    → is_unnamed (shown_after image moves) (block_of r) ≡ true
block_left_empty r v image lists moves marked collects copied closed are = unnamed (shown_after image moves) (block_of r) each
  where
    none_moved : (page : ℕ) → page / 32 ≡ block_of r → is_named page moves ≡ false
    none_moved page here = by (is_named page moves) refl
      where
        by : (b : Bool) → is_named page moves ≡ b → b ≡ false
        by false is = refl
        by true is = absurd (let e : Closed ≡ Target = sym closed ∙ ap (state_at v) (sym here) ∙ are.targets page is in cc)

    source_of : (page : ℕ) → page / 32 ≡ block_of r → is_visible (mark_at v page) ≡ true → list_any (λ c. eqb c.source page) (copies_of r) ≡ true
    source_of page here visible =
        let live : is_live_at v page ≡ true = ap is_live (is_visible_mark (mark_at v page) visible) in
        elim (cases_lt (page % 32) (next_of r)) [
          | inl low ↦ collects.complete page here low live
          | inr ahead ↦ absurd (let e : true ≡ false = sym live ∙ copied page (record { block_is = here; from = ahead }) in cc)
        ]

    each : (page : ℕ) → page / 32 ≡ block_of r → times page (shown_after image moves) ≡ 0
    each page here = by (is_visible (mark_at v page)) refl
      where
        sum : times page (shown_after image moves) + times page (replaced (shown_in image) moves) ≡ times page (shown_in image) + times page moves
        sum = after_sum (as_name page) (name_light page) moves (shown_in image) (shown_in_rises image) are.differ

        no_moves : times page moves ≡ 0
        no_moves = named_none page moves (none_moved page here)

        by : (b : Bool) → is_visible (mark_at v page) ≡ b → times page (shown_after image moves) ≡ 0
        by true visible =
            let one : times page (shown_in image) ≡ 1 = marked.shown page ∙ ap {B = ℕ} (λ b. cond b 1 0) visible in
            let some = named_some page (replaced (shown_in image) moves) (are.sources page ∙ copied_visible v page (copies_of r) (source_of page here visible) visible) in
            omega (arith, sum, no_moves)
        by false hidden =
            let none : times page (shown_in image) ≡ 0 = marked.shown page ∙ ap {B = ℕ} (λ b. cond b 1 0) hidden in
            omega (arith, sum, no_moves)

-- ---- steps

pub is_free : (v : Values) (block : ℕ) → state_at v block ≡ Free → get_or v.free.items block false ≡ true
is_free v block free = by (is_in v.opened block) (is_in v.target block) (get_or v.free.items block false) free
  where
    by : (o t f : Bool) → cond o Open (cond t Target (cond f Free Closed)) ≡ Free → f ≡ true
    by true t f h = absurd cc
    by false true f h = absurd cc
    by false false true h = refl
    by false false false h = absurd cc

is_dead : (m : Mark) → is_live m ≡ false → m ≡ Dead
is_dead Pending h = absurd cc
is_dead Visible h = absurd cc
is_dead Dead h = refl

is_target : (v : Values) (block : ℕ) → state_at v block ≡ Target → is_in v.target block ≡ true
is_target v block is = by (is_in v.opened block) (is_in v.target block) (get_or v.free.items block false) is
  where
    by : (o t f : Bool) → cond o Open (cond t Target (cond f Free Closed)) ≡ Target → t ≡ true
    by true t f h = absurd cc
    by false true f h = refl
    by false false true h = absurd cc
    by false false false h = absurd cc

kept_by : (old new : Reclaim) (v w : Values) → HasTargets old v → copies_of new ≡ copies_of old → ((page : ℕ) → state_at w (page / 32) ≡ Target → mark_at w page ≡ Dead) → HasTargets new w
kept_by old new v w targets same dead = record {
  dead = dead;
  rising = λ i j d less low. subst (λ (cs : List CopyOf). (get_or cs i d).target < (get_or cs j d).target) (sym same) (targets.rising i j d less (subst (λ (cs : List CopyOf). j < length cs) same low));
}

-- a page below the next one of the block copied into is before the page that is that
before_next : (v : Values) (page next : ℕ) → is_target_page v page ≡ true → state_at v (next / 32) ≡ Target → next % 32 ≡ target_next v → page < next
before_next v page next filled here place = by v.target refl filled place
  where
    by : (o : Option Filling) → v.target ≡ o → is_below_in o page ≡ true → next % 32 ≡ next_in o → page < next
    by None e h n = absurd cc
    by (Some f) e h n =
        let both = and_parts (eqb (page / 32) f.block) (ltb (page % 32) f.next) h in
        let block = eqb-true (page / 32) f.block both.0 in
        let less = ltb-true (page % 32) f.next both.1 in
        let other = eqb-true f.block (next / 32) (subst (λ (o : Option Filling). is_in o (next / 32) ≡ true) e (is_target v (next / 32) here)) in
        omega arith

added : (cs : List CopyOf) (copy : CopyOf) → ((i j : ℕ) (d : CopyOf) → i < j → j < length cs → (get_or cs i d).target < (get_or cs j d).target) → ((i : ℕ) (d : CopyOf) → i < length cs → (get_or cs i d).target < copy.target)
    → (i j : ℕ) (d : CopyOf) → i < j → j < length (cs ++ copy ∷ []) → (get_or (cs ++ copy ∷ []) i d).target < (get_or (cs ++ copy ∷ []) j d).target
added cs copy rising below i j d less low =
    let long = length-append cs (copy ∷ []) in
    let first : get_or (cs ++ copy ∷ []) i d ≡ get_or cs i d = get_or_append_left cs (copy ∷ []) d i (omega arith) in
    elim (cases_lt j (length cs)) [
      | inl within ↦
          let second : get_or (cs ++ copy ∷ []) j d ≡ get_or cs j d = get_or_append_left cs (copy ∷ []) d j within in
          subst (λ (c : CopyOf). c.target < (get_or (cs ++ copy ∷ []) j d).target) (sym first) (subst (λ (c : CopyOf). (get_or cs i d).target < c.target) (sym second) (rising i j d less within))
      | inr last ↦
          let second : get_or (cs ++ copy ∷ []) j d ≡ copy = get_or-append_right cs (copy ∷ []) (length cs) j d refl last ∙ ap (λ k. get_or (copy ∷ []) k d) (let t : j - length cs ≡ 0 = omega arith in t) in
          subst (λ (c : CopyOf). c.target < (get_or (cs ++ copy ∷ []) j d).target) (sym first) (subst (λ (c : CopyOf). (get_or cs i d).target < c.target) (sym second) (below i d (omega arith)))
    ]

pub targets_kept : (old new : Reclaim) (v w : Values) (before after : Flash) → Steps old v before new w after → Collects old v before.image → HasTargets old v → HasTargets new w
targets_kept old new v w before after steps collects targets = elim steps [
  | inl idle ↦ subst (λ (x : Values). HasTargets new x) (sym idle.values) (kept_by old new v v targets idle.waits.copies targets.dead)
  | inr more ↦ elim more [ inl step ↦ begins step | inr step ↦ copies step ]
]
  where
    begins : Begins old v before new w after → HasTargets new w
    begins step =
        let taken = step.values.begins refl in
        let takes = taken.2.2 in
        kept_by old new v w targets step.waits.copies (λ page is. elim (cases_eq (page / 32) taken.2.0) [
          | inl here ↦ step.values.marks page ∙ is_dead (mark_at v page) (v.sound.dead page (ap (λ b. get_or v.free.items b false) here ∙ is_free v taken.2.0 takes.was))
          | inr away ↦ step.values.marks page ∙ targets.dead page (sym (takes.others (page / 32) away) ∙ is)
        ])

    copies : CopiesNext old v before new w after → HasTargets new w
    copies step =
        let copy = step.copy in
        let on = step.values.goes_on copy.target refl in
        record {
          dead = λ page is. step.values.marks page ∙ targets.dead page (sym (on.blocks.states (page / 32)) ∙ is);
          rising = λ i j d less low. subst (λ (cs : List CopyOf). (get_or cs i d).target < (get_or cs j d).target) (sym step.copies)
              (added (copies_of old) copy targets.rising (λ k e within. before_next v (get_or (copies_of old) k e).target copy.target (collects.each k e within).filled on.here on.place) i j d less (subst (λ (cs : List CopyOf). j < length cs) step.copies low));
        }

-- ---- pending changes

change_same : (image : Image) (page other : ℕ) (e : Entry) → image other ≡ image page → change_in image (repointed page other e) ≡ change_in image e
change_same image page other (Put key value) same = refl
change_same image page other (Gone key) same = refl
change_same image page other (At key at size) same = elim (cases_eq at page) [
  | inl here ↦ ap (λ b. change_in image (At key (cond b other at) size)) (eq-eqb at page here) ∙ ap (λ s. (key, Some (first_bytes size s))) (same ∙ ap image (sym here))
  | inr away ↦ ap (λ b. change_in image (At key (cond b other at) size)) (ne_eqb at page away)
]

key_repointed : (page other : ℕ) (e : Entry) → key_of (repointed page other e) ≡ key_of e
key_repointed page other (Put key value) = refl
key_repointed page other (At key at size) = refl
key_repointed page other (Gone key) = refl

put_repointed : (page other : ℕ) (xs : List Entry) (e : Entry) → put_entry (map (repointed page other) xs) (repointed page other e) ≡ map (repointed page other) (put_entry xs e)
put_repointed page other [] e = refl
put_repointed page other (x ∷ xs) e =
    let rest = put_repointed page other xs e in
    (λ i. by_order (key_cmp (key_repointed page other e i) (key_repointed page other x i)) (repointed page other e ∷ repointed page other x ∷ map (repointed page other) xs) (repointed page other e ∷ map (repointed page other) xs) (repointed page other x ∷ rest i))
    ∙ by (key_cmp (key_of e) (key_of x))
  where
    by : (o : Ordering) → by_order o (repointed page other e ∷ repointed page other x ∷ map (repointed page other) xs) (repointed page other e ∷ map (repointed page other) xs) (repointed page other x ∷ map (repointed page other) (put_entry xs e))
        ≡ map (repointed page other) (by_order o (e ∷ x ∷ xs) (e ∷ xs) (x ∷ put_entry xs e))
    by Less = refl
    by Equal = refl
    by Greater = refl

merged_repointed : (page other : ℕ) (es older : List Entry) → merged (map (repointed page other) es) (map (repointed page other) older) ≡ map (repointed page other) (merged es older)
merged_repointed page other [] older = refl
merged_repointed page other (e ∷ es) older = ap (merged (map (repointed page other) es)) (put_repointed page other older e) ∙ merged_repointed page other es (put_entry older e)

list_same : (image : Image) (page other : ℕ) (es : List Entry) → image other ≡ image page → map (change_in image) (map (repointed page other) es) ≡ map (change_in image) es
list_same image page other [] same = refl
list_same image page other (e ∷ es) same = λ i. change_same image page other e same i ∷ list_same image page other es same i

changes_repointed : (image : Image) (page other : ℕ) (es : List Entry) → image other ≡ image page → stages.changes_of image (map (repointed page other) es) ≡ stages.changes_of image es
unfolding stages.changes_of
changes_repointed image page other es same = ap objects.from_sorted (ap (map (change_in image)) (merged_repointed page other es []) ∙ list_same image page other (merged es []) same)

pub repointed_same : (image : Image) (lists : Transactions) (page other : ℕ) → image other ≡ image page → pending_in image (all_repointed page other lists) ≡ pending_in image lists
repointed_same image [] page other same = refl
repointed_same image (None ∷ ts) page other same = let rest = repointed_same image ts page other same in λ i. None ∷ rest i
repointed_same image (Some es ∷ ts) page other same =
    let first = changes_repointed image page other es same in
    let rest = repointed_same image ts page other same in
    λ i. Some (first i) ∷ rest i

-- ---- blocks that are left

pub named_after : (visible entries : List Entry) (page : ℕ) → is_rising visible ≡ true → keys_differ entries ≡ true
    → times page (without_marks (merged entries visible)) + times page (replaced visible entries) ≡ times page visible + times page entries
named_after visible entries page rising differ = after_sum (as_name page) (name_light page) entries visible rising differ

pub free_unnamed : (v : Values) (visible : List Entry) (lists : Transactions) (tx block : ℕ) → is_rising visible ≡ true → are_rising lists ≡ true → AreMarked v visible lists → state_at v block ≡ Free
    → is_unnamed (without_marks (merged (changes_of lists tx) visible)) block ≡ true
free_unnamed v visible lists tx block rises rising marked free = unnamed (without_marks (merged (changes_of lists tx) visible)) block (λ page is.
    let dead : mark_at v page ≡ Dead = is_dead (mark_at v page) (v.sound.dead page (ap (λ b. get_or v.free.items b false) is ∙ is_free v block free)) in
    let none : times page visible ≡ 0 = marked.shown page ∙ ap {B = ℕ} (λ m. cond (is_visible m) 1 0) dead in
    let none_too : times_pending page lists ≡ 0 = marked.pending page ∙ ap {B = ℕ} (λ m. cond (is_pending m) 1 0) dead in
    let closed = pending_closed page lists tx in
    let sum = named_after visible (changes_of lists tx) page rises (rising_differ (changes_of lists tx) (rising_at lists tx rising)) in
    omega arith)
