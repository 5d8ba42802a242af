-- A step of a writer: the next block is erased, or the page that waits is programmed.
use Rattle.std.proofs.Common.{◌≡◌, ◌≢◌, ◌∙◌, ℕ, ◌+◌, ◌*◌, ◌/◌, ◌%◌, ◌<◌, ◌≤◌, ◌^◌, Bool, true, false, List, [], ◌∷◌, ◌++◌, length, get_or, Option, Some, None, cond, refl, sym, ap, subst, arith, inl, inr, add-one, append_assoc}
use Rattle.std.specs.Prelude.{is_some, unwrap_or, nat_eq}
use Rattle.std.proofs.lemmas.Bool.{and_from, cases_lt, eq-eqb, ne_eqb, le-leb, true≢false, false≢true}
use Rattle.std.proofs.lemmas.List.{get_or_append_left, get_or_push, length_push}
use Rattle.std.proofs.lemmas.Map.Keys.{apart_from_distinct}
use Rattle.kv_nand.specs.Flash.{Image, PageState, Erased, Whole, MayProgram, with_page, with_erased}
use Rattle.kssd_entry.specs.declared.entry.Entry.{Entry}
use Rattle.kssd_entry.specs.declared.packer.PageHead.{PageHead}
use Rattle.kssd_entry.specs.Packing.{Packed}
use Rattle.kssd_entry.specs.Spelling.{page_bytes, is_head}
use Rattle.kssd_entry.proofs.Again.{page_again}
use Rattle.kssd_model.specs.declared.runs.RunInfo.{RunInfo}
use Rattle.kssd_model.specs.RunPages.{run_page, of_run, run_page_in, page_of_run, page_entries, joined, first_key, AreRunBlocks}
use Rattle.kssd_run.specs.declared.writer.RunWriter.{RunWriter}
use Rattle.kssd_run.specs.Write.{IsWriter, HoldsPage, waiting_pages}
use Rattle.kssd_run.specs.Writing.{Writes, AreWaiting, IsFullFor, AreFullPages}
use Rattle.kssd_run.proofs.PageSizes.{few_entries}
use Rattle.kssd_run.proofs.Written.{joined_same}

-- ---- places

same_index : (device : ℕ) (blocks : List ℕ) (i j : ℕ) → AreRunBlocks device blocks → i < length blocks → j < length blocks → get_or blocks i 0 ≡ get_or blocks j 0 → i ≡ j
same_index device blocks i j h li lj e =
    elim (cases_lt i j) [
      | inl lt ↦ absurd (apart i j lt lj e)
      | inr le ↦ elim (cases_lt j i) [ inl lt ↦ absurd (apart j i lt li (sym e)) | inr ge ↦ omega arith ]
    ]
  where
    apart : (a b : ℕ) → a < b → b < length blocks → get_or blocks a 0 ≡ get_or blocks b 0 → ⊥
    apart a b lt within same = true≢false (sym (eq-eqb _ _ same) ∙ apart_from_distinct nat_eq blocks a b 0 h.distinct lt within)

-- different pages of a run stand in different places
pub same_place : (device : ℕ) (blocks : List ℕ) (i j : ℕ) → AreRunBlocks device blocks → i < 32 * length blocks → j < 32 * length blocks → run_page blocks i ≡ run_page blocks j → i ≡ j
same_place device blocks i j h li lj e =
    let b : i / 32 ≡ j / 32 = same_index device blocks (i / 32) (j / 32) h (omega arith) (omega arith) (omega (arith, e)) in
    omega (arith, b, e)

pub place_block : (blocks : List ℕ) (i : ℕ) → run_page blocks i / 32 ≡ get_or blocks (i / 32) 0
place_block blocks i = omega arith

-- the place of a page in the block of another
page_there : (blocks : List ℕ) (p q : ℕ) → q / 32 ≡ run_page blocks p / 32 → run_page blocks (32 * (p / 32) + q % 32) ≡ q
page_there blocks p q e =
    let i : (32 * (p / 32) + q % 32) / 32 ≡ p / 32 = omega arith in
    let m : (32 * (p / 32) + q % 32) % 32 ≡ q % 32 = omega arith in
    let whole : 32 * get_or blocks (p / 32) 0 + q % 32 ≡ q = omega (arith, e) in
    (λ t. 32 * get_or blocks (i t) 0 + m t) ∙ whole

not_erased : (number i : ℕ) (state : PageState) → is_some (run_page_in number i state) ≡ true → state ≢ Erased
not_erased number i state h e = false≢true (ap (λ s. is_some (run_page_in number i s)) (sym e) ∙ h)

-- the next page may be programmed
pub may_program : (writer : RunWriter) (image : Image) (fed : List Entry) → Writes writer image fed → writer.info.pages < 32 * writer.begun → MayProgram image (run_page writer.info.blocks writer.info.pages)
may_program writer image fed h lt = record {
  here = h.later writer.info.pages (omega arith) lt;
  earlier = λ q e less. subst (λ (s : ℕ). image s ≢ Erased) (page_there writer.info.blocks writer.info.pages q e) (before (32 * (writer.info.pages / 32) + q % 32) (omega (arith, e, less)));
  later = λ q e more. subst (λ (s : ℕ). image s ≡ Erased) (page_there writer.info.blocks writer.info.pages q e) (h.later (32 * (writer.info.pages / 32) + q % 32) (omega (arith, e, more)) (omega (arith, lt)));
}
  where
    before : (i : ℕ) → i < writer.info.pages → image (run_page writer.info.blocks i) ≢ Erased
    before i less = not_erased writer.info.number i (image (run_page writer.info.blocks i)) (h.pages i less)

-- ---- the page that waits

abbrev pub next_head : RunInfo → PageHead
next_head info = record { kind = 3; flags = 0; number = info.number; index = info.pages }

run_form : (number index n : ℕ) → 0 < n → is_head (record { kind = 3; flags = 0; number = number; index = index }) n ≡ true
unfolding is_head
run_form number index n some = le-leb 1 n (omega arith)

pub holds_page : (writer : RunWriter) (image : Image) (fed : List Entry) → (h : Writes writer image fed) → writer.waits ≡ true → HoldsPage (next_head writer.info) writer.waiting h.waiting
holds_page writer image fed h w =
    let wait : AreWaiting true writer.waiting h.waiting = subst (λ (b : Bool). AreWaiting b writer.waiting h.waiting) w h.waits in
    record {
      page = record {
        kind_is = refl;
        form = run_form writer.info.number writer.info.pages (length h.waiting) wait.1;
        number = writer.sound.number;
        index = omega (arith, writer.sound.few);
        fits = wait.3;
        room = wait.2;
      };
      holds = wait.0;
    }

-- it reads as a page of the run
pub page_reads : (info : RunInfo) (packer : Packed) (entries : List Entry) → HoldsPage (next_head info) packer entries → run_page_in info.number info.pages (Whole (page_bytes (next_head info) packer.bytes packer.count)) ≡ Some entries
page_reads info packer entries h =
    let few : length entries < 2 ^ 16 = omega (arith, few_entries entries, h.page.room) in
    let read = page_again (next_head info) entries (record { number = h.page.number; index = h.page.index }) h.page.fits h.page.room few h.page.form in
    ap (λ (p : Packed). run_page_in info.number info.pages (Whole (page_bytes (next_head info) p.bytes p.count))) h.holds
    ∙ ap (of_run info.number info.pages) read
    ∙ ap (λ (t : Bool). cond t (Some entries) None) (and_from _ _ (eq-eqb info.number info.number refl) (eq-eqb info.pages info.pages refl))

-- ---- the writer

pub less_than : (a b : ℕ) → a ≤ b → a ≢ b → a < b
less_than a b le ne = elim (cases_lt a b) [ inl lt ↦ lt | inr more ↦ absurd (ne (omega (arith, le, more))) ]

-- the numbers of the writer, once its page was programmed
pub writer_programs : (info : RunInfo) (firsts new_firsts : List (List ℕ)) (first : List ℕ) (waiting new_waiting filling : Packed) (waits closed : Bool) (begun : ℕ) → IsWriter info firsts waiting filling waits closed begun → waits ≡ true → info.pages < 32 * begun → info.pages < 65536
    → new_firsts ≡ firsts ++ first ∷ [] → IsWriter (record info { pages = info.pages + 1 }) new_firsts new_waiting filling false closed begun
writer_programs info firsts new_firsts first waiting new_waiting filling waits closed begun h w lt few is = record {
  counted = ap length is ∙ length_push firsts first ∙ ap (λ (n : ℕ). n + 1) h.counted;
  number = h.number;
  begun_first = omega (arith, lt);
  begun_last = omega (arith, h.begun_last);
  housed = h.housed;
  few = omega (arith, few);
  fill_size = h.fill_size;
  fill_count = h.fill_count;
  fill_room = h.fill_room;
  most = omega (arith, h.most, one);
  least = omega (arith, h.least, one);
  full = λ c. omega (arith, h.full c, one);
  some = h.some;
  shut = h.shut;
}
  where
    one : waiting_pages waits ≡ 1
    one = ap waiting_pages w

-- the numbers of the writer, once its next block was erased
pub writer_erases : (info : RunInfo) (firsts : List (List ℕ)) (waiting filling : Packed) (waits closed : Bool) (begun : ℕ) → IsWriter info firsts waiting filling waits closed begun → info.pages ≡ 32 * begun → info.pages < 32 * length info.blocks → IsWriter info firsts waiting filling waits closed (begun + 1)
writer_erases info firsts waiting filling waits closed begun h same room = record {
  counted = h.counted;
  number = h.number;
  begun_first = omega (arith, h.begun_first);
  begun_last = omega (arith, same);
  housed = omega (arith, same, room);
  few = h.few;
  fill_size = h.fill_size;
  fill_count = h.fill_count;
  fill_room = h.fill_room;
  most = h.most;
  least = h.least;
  full = h.full;
  some = h.some;
  shut = h.shut;
}

-- a page that has no room for the first of some entries has none whatever stands behind it
full_for_first : (page xs ys : List Entry) → 0 < length xs → IsFullFor page (xs ++ ys) → IsFullFor page xs
full_for_first page [] ys some h = tt
full_for_first page (x ∷ xs) ys some h = h

-- what was fed stays, with one page more programmed
pub writes_programs : (device : ℕ) (old new : RunWriter) (before after : Image) (fed : List Entry) (first : List ℕ) → AreRunBlocks device old.info.blocks → old.info.pages < 32 * length old.info.blocks → old.waits ≡ true
    → after ≡ with_page before (run_page old.info.blocks old.info.pages) (Whole (page_bytes (next_head old.info) old.waiting.bytes old.waiting.count))
    → ((entries : List Entry) → HoldsPage (next_head old.info) old.waiting entries → first ≡ first_key entries)
    → new.info ≡ record (old.info) { pages = old.info.pages + 1 } → new.firsts ≡ old.firsts ++ first ∷ [] → new.filling ≡ old.filling → new.waits ≡ false → new.begun ≡ old.begun → Writes old before fed → Writes new after fed
writes_programs device old new before after fed first runs room w is first_is info firsts filling waits begun h = record {
  waiting = [];
  filling = h.filling;
  parts = fed_is;
  waits = subst (λ (b : Bool). AreWaiting b new.waiting []) (sym waits) refl;
  fills = filling ∙ h.fills;
  fits = h.fits;
  rising = h.rising;
  count = h.count ∙ sym (ap (λ (f : RunInfo). f.entries) info);
  pages = subst (λ (f : RunInfo). (i : ℕ) → i < f.pages → is_some (page_of_run after f.number f.blocks i) ≡ true) (sym info) pages_stand;
  filled = subst (λ (f : RunInfo). (i : ℕ) → i < f.pages → 0 < length (page_entries after f.number f.blocks i)) (sym info) filled;
  firsts = subst (λ (f : RunInfo). (i : ℕ) → i < f.pages → get_or new.firsts i [] ≡ first_key (page_entries after f.number f.blocks i)) (sym info) first_keys;
  later = subst (λ (f : RunInfo). (i : ℕ) → f.pages ≤ i → i < 32 * new.begun → after (run_page f.blocks i) ≡ Erased) (sym info) later;
  full = subst (λ (f : RunInfo). AreFullPages (page_entries after f.number f.blocks) f.pages) (sym info) full;
  full_last = subst (λ (f : RunInfo). (i : ℕ) → i + 1 ≡ f.pages → IsFullFor (page_entries after f.number f.blocks i) h.filling) (sym info) full_last;
  full_waiting = λ w. absurd (true≢false (sym w ∙ waits));
}
  where
    holds : HoldsPage (next_head old.info) old.waiting h.waiting
    holds = holds_page old before fed h w

    elsewhere : (q : ℕ) → q ≢ run_page old.info.blocks old.info.pages → after q ≡ before q
    elsewhere q ne = ap (λ (f : Image). f q) is ∙ ap (λ (t : Bool). cond t (Whole (page_bytes (next_head old.info) old.waiting.bytes old.waiting.count)) (before q)) (ne_eqb _ _ ne)

    here : after (run_page old.info.blocks old.info.pages) ≡ Whole (page_bytes (next_head old.info) old.waiting.bytes old.waiting.count)
    here = ap (λ (f : Image). f (run_page old.info.blocks old.info.pages)) is ∙ ap (λ (t : Bool). cond t (Whole (page_bytes (next_head old.info) old.waiting.bytes old.waiting.count)) (before (run_page old.info.blocks old.info.pages))) (eq-eqb (run_page old.info.blocks old.info.pages) _ refl)

    stays : (i : ℕ) → i < 32 * length old.info.blocks → i ≢ old.info.pages → after (run_page old.info.blocks i) ≡ before (run_page old.info.blocks i)
    stays i lt ne = elsewhere (run_page old.info.blocks i) (λ e. ne (same_place device old.info.blocks i old.info.pages runs lt room e))

    same_page : (i : ℕ) → i < old.info.pages → page_of_run after old.info.number old.info.blocks i ≡ page_of_run before old.info.number old.info.blocks i
    same_page i lt = ap (run_page_in old.info.number i) (stays i (omega (arith, room)) (λ e. absurd (omega (arith, e, lt))))

    last_page : page_of_run after old.info.number old.info.blocks old.info.pages ≡ Some h.waiting
    last_page = ap (run_page_in old.info.number old.info.pages) here ∙ page_reads old.info old.waiting h.waiting holds

    same_entries : (i : ℕ) → i < old.info.pages → page_entries after old.info.number old.info.blocks i ≡ page_entries before old.info.number old.info.blocks i
    same_entries i lt = ap (λ (o : Option (List Entry)). unwrap_or o []) (same_page i lt)

    last_entries : page_entries after old.info.number old.info.blocks old.info.pages ≡ h.waiting
    last_entries = ap (λ (o : Option (List Entry)). unwrap_or o []) last_page

    some : 0 < length h.waiting
    some = (subst (λ (b : Bool). AreWaiting b old.waiting h.waiting) w h.waits).1

    joined_is : joined (page_entries after old.info.number old.info.blocks) (old.info.pages + 1) ≡ joined (page_entries before old.info.number old.info.blocks) old.info.pages ++ h.waiting
    joined_is =
        ap (joined (page_entries after old.info.number old.info.blocks)) (add-one old.info.pages)
        ∙ (λ t. joined_same (page_entries after old.info.number old.info.blocks) (page_entries before old.info.number old.info.blocks) old.info.pages same_entries t ++ last_entries t)

    fed_is : fed ≡ joined (page_entries after new.info.number new.info.blocks) new.info.pages ++ ([] ++ h.filling)
    fed_is =
        h.parts
        ∙ sym (append_assoc (joined (page_entries before old.info.number old.info.blocks) old.info.pages) h.waiting h.filling)
        ∙ ap (λ (xs : List Entry). xs ++ h.filling) (sym joined_is)
        ∙ ap (λ (f : RunInfo). joined (page_entries after f.number f.blocks) f.pages ++ h.filling) (sym info)

    -- what holds of each page before and of the new one
    each : (P : ℕ → Type 0) → ((i : ℕ) → i < old.info.pages → P i) → P old.info.pages → (i : ℕ) → i < old.info.pages + 1 → P i
    each P earlier last i lt = elim (cases_lt i old.info.pages) [
      | inl less ↦ earlier i less
      | inr more ↦ let e : old.info.pages ≡ i = omega (arith, lt, more) in subst P e last
    ]

    pages_stand : (i : ℕ) → i < old.info.pages + 1 → is_some (page_of_run after old.info.number old.info.blocks i) ≡ true
    pages_stand = each (λ i. is_some (page_of_run after old.info.number old.info.blocks i) ≡ true) (λ i lt. ap is_some (same_page i lt) ∙ h.pages i lt) (ap is_some last_page)

    filled : (i : ℕ) → i < old.info.pages + 1 → 0 < length (page_entries after old.info.number old.info.blocks i)
    filled = each (λ i. 0 < length (page_entries after old.info.number old.info.blocks i)) (λ i lt. subst (λ (es : List Entry). 0 < length es) (sym (same_entries i lt)) (h.filled i lt)) (subst (λ (es : List Entry). 0 < length es) (sym last_entries) some)

    counted : length old.firsts ≡ old.info.pages
    counted = old.sound.counted

    first_keys : (i : ℕ) → i < old.info.pages + 1 → get_or new.firsts i [] ≡ first_key (page_entries after old.info.number old.info.blocks i)
    first_keys = each (λ i. get_or new.firsts i [] ≡ first_key (page_entries after old.info.number old.info.blocks i)) (λ i lt. ap (λ (ks : List (List ℕ)). get_or ks i []) firsts ∙ get_or_append_left old.firsts (first ∷ []) [] i (omega (arith, lt, counted)) ∙ h.firsts i lt ∙ ap first_key (sym (same_entries i lt))) (ap (λ (ks : List (List ℕ)). get_or ks old.info.pages []) firsts ∙ get_or_push old.firsts first [] old.info.pages counted ∙ first_is h.waiting holds ∙ ap first_key (sym last_entries))

    full : AreFullPages (page_entries after old.info.number old.info.blocks) (old.info.pages + 1)
    full i lt = elim (cases_lt (i + 1) old.info.pages) [
      | inl less ↦
          subst (λ (es : List Entry). IsFullFor (page_entries after old.info.number old.info.blocks i) es) (sym (same_entries (i + 1) less))
          (subst (λ (es : List Entry). IsFullFor es (page_entries before old.info.number old.info.blocks (i + 1))) (sym (same_entries i (omega (arith, less)))) (h.full i less))
      | inr more ↦
          let e : i + 1 ≡ old.info.pages = omega (arith, lt, more) in
          subst (λ (es : List Entry). IsFullFor (page_entries after old.info.number old.info.blocks i) es) (sym last_entries ∙ ap (page_entries after old.info.number old.info.blocks) (sym e))
          (subst (λ (es : List Entry). IsFullFor es h.waiting) (sym (same_entries i (omega (arith, e)))) (full_for_first (page_entries before old.info.number old.info.blocks i) h.waiting h.filling some (h.full_last i e)))
    ]

    full_last : (i : ℕ) → i + 1 ≡ old.info.pages + 1 → IsFullFor (page_entries after old.info.number old.info.blocks i) h.filling
    full_last i e =
        subst (λ (es : List Entry). IsFullFor es h.filling) (sym last_entries ∙ ap (page_entries after old.info.number old.info.blocks) (let n : old.info.pages ≡ i = omega (arith, e) in n)) (h.full_waiting w)

    later : (i : ℕ) → old.info.pages + 1 ≤ i → i < 32 * new.begun → after (run_page old.info.blocks i) ≡ Erased
    later i le lt =
        stays i (omega (arith, lt, begun, old.sound.housed)) (λ e. absurd (omega (arith, e, le)))
        ∙ h.later i (omega (arith, le)) (omega (arith, lt, begun))

-- what was fed stays, with one block more erased
pub writes_erases : (device : ℕ) (old new : RunWriter) (before after : Image) (fed : List Entry) → AreRunBlocks device old.info.blocks → old.info.pages < 32 * length old.info.blocks → old.info.pages ≡ 32 * old.begun
    → after ≡ with_erased before (get_or old.info.blocks old.begun 0)
    → new.info ≡ old.info → new.firsts ≡ old.firsts → new.waiting ≡ old.waiting → new.filling ≡ old.filling → new.waits ≡ old.waits → new.begun ≡ old.begun + 1 → Writes old before fed → Writes new after fed
writes_erases device old new before after fed runs room all is info firsts waiting filling waits begun h = record {
  waiting = h.waiting;
  filling = h.filling;
  parts = h.parts ∙ ap (λ (xs : List Entry). xs ++ (h.waiting ++ h.filling)) (sym whole);
  waits = subst (λ (b : Bool). AreWaiting b new.waiting h.waiting) (sym waits) (subst (λ (p : Packed). AreWaiting old.waits p h.waiting) (sym waiting) h.waits);
  fills = filling ∙ h.fills;
  fits = h.fits;
  rising = h.rising;
  count = h.count ∙ sym (ap (λ (f : RunInfo). f.entries) info);
  pages = subst (λ (f : RunInfo). (i : ℕ) → i < f.pages → is_some (page_of_run after f.number f.blocks i) ≡ true) (sym info) (λ i lt. ap is_some (same_page i lt) ∙ h.pages i lt);
  filled = subst (λ (f : RunInfo). (i : ℕ) → i < f.pages → 0 < length (page_entries after f.number f.blocks i)) (sym info) (λ i lt. subst (λ (es : List Entry). 0 < length es) (sym (same_entries i lt)) (h.filled i lt));
  firsts = subst (λ (f : RunInfo). (i : ℕ) → i < f.pages → get_or new.firsts i [] ≡ first_key (page_entries after f.number f.blocks i)) (sym info) (λ i lt. ap (λ (ks : List (List ℕ)). get_or ks i []) firsts ∙ h.firsts i lt ∙ ap first_key (sym (same_entries i lt)));
  later = subst (λ (f : RunInfo). (i : ℕ) → f.pages ≤ i → i < 32 * new.begun → after (run_page f.blocks i) ≡ Erased) (sym info) later;
  full = subst (λ (f : RunInfo). AreFullPages (page_entries after f.number f.blocks) f.pages) (sym info) full;
  full_last = subst (λ (f : RunInfo). (i : ℕ) → i + 1 ≡ f.pages → IsFullFor (page_entries after f.number f.blocks i) (h.waiting ++ h.filling)) (sym info) full_last;
  full_waiting = λ w. h.full_waiting (sym waits ∙ w);
}
  where
    block_of : (q : ℕ) → after q ≡ cond (nat_eq (q / 32) (get_or old.info.blocks old.begun 0)) Erased (before q)
    block_of q = ap (λ (f : Image). f q) is

    stays : (i : ℕ) → i < old.info.pages → after (run_page old.info.blocks i) ≡ before (run_page old.info.blocks i)
    stays i lt =
        block_of (run_page old.info.blocks i)
        ∙ ap (λ (t : Bool). cond t Erased (before (run_page old.info.blocks i))) (ne_eqb _ _ (λ e.
        let same : i / 32 ≡ old.begun = same_index device old.info.blocks (i / 32) old.begun runs (omega (arith, lt, room)) (omega (arith, room, all)) (sym (place_block old.info.blocks i) ∙ e) in
        absurd (omega (arith, same, lt, all))))

    same_page : (i : ℕ) → i < old.info.pages → page_of_run after old.info.number old.info.blocks i ≡ page_of_run before old.info.number old.info.blocks i
    same_page i lt = ap (run_page_in old.info.number i) (stays i lt)

    same_entries : (i : ℕ) → i < old.info.pages → page_entries after old.info.number old.info.blocks i ≡ page_entries before old.info.number old.info.blocks i
    same_entries i lt = ap (λ (o : Option (List Entry)). unwrap_or o []) (same_page i lt)

    whole : joined (page_entries after new.info.number new.info.blocks) new.info.pages ≡ joined (page_entries before old.info.number old.info.blocks) old.info.pages
    whole =
        ap (λ (f : RunInfo). joined (page_entries after f.number f.blocks) f.pages) info
        ∙ joined_same (page_entries after old.info.number old.info.blocks) (page_entries before old.info.number old.info.blocks) old.info.pages same_entries

    full : AreFullPages (page_entries after old.info.number old.info.blocks) old.info.pages
    full i lt =
        subst (λ (es : List Entry). IsFullFor (page_entries after old.info.number old.info.blocks i) es) (sym (same_entries (i + 1) lt))
        (subst (λ (es : List Entry). IsFullFor es (page_entries before old.info.number old.info.blocks (i + 1))) (sym (same_entries i (omega (arith, lt)))) (h.full i lt))

    full_last : (i : ℕ) → i + 1 ≡ old.info.pages → IsFullFor (page_entries after old.info.number old.info.blocks i) (h.waiting ++ h.filling)
    full_last i e = subst (λ (es : List Entry). IsFullFor es (h.waiting ++ h.filling)) (sym (same_entries i (omega (arith, e)))) (h.full_last i e)

    later : (i : ℕ) → old.info.pages ≤ i → i < 32 * new.begun → after (run_page old.info.blocks i) ≡ Erased
    later i le lt =
        let block : i / 32 ≡ old.begun = omega (arith, le, lt, all, begun) in
        block_of (run_page old.info.blocks i)
        ∙ ap (λ (t : Bool). cond t Erased (before (run_page old.info.blocks i))) (eq-eqb _ _ (place_block old.info.blocks i ∙ ap (λ (n : ℕ). get_or old.info.blocks n 0) block))
