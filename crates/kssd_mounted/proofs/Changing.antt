-- Calls on the lists of open transactions leave a device that stands.
use Rattle.std.proofs.Common.{◌≡◌, ◌∙◌, ℕ, inl, inr, ◌+◌, ◌/◌, ◌<◌, Bool, true, false, not, cond, ◌||◌, ◌&&◌, eqb, ltb, ◌≤◌, List, [], ◌∷◌, length, get_or, take, Option, Some, None, option_and_then, unwrap_or, is_some, is_none, option_map, slice_get, refl, sym, ap, subst}
use Rattle.std.specs.List.{list_all}
use Rattle.std.proofs.lemmas.Bool.{eqb-true, eq-eqb, ne_eqb, cases_eq, and_parts, and_from, le-ltb}
use Rattle.std.proofs.lemmas.List.{length-set}
use Rattle.std.proofs.lemmas.List.Folds.{list_any_more}
use Rattle.std.proofs.lemmas.List.Quantifiers.{position-Some}
use Rattle.std.proofs.lemmas.Option.{slice_get-get_or}
use Rattle.kv_nand.specs.Flash.{Flash, Image}
use Rattle.kv_device.specs.Machine.{Machine}
use Rattle.kv_device.specs.Calls.{BeginDone, AbortDone, DeleteDone, DeleteFault, SetDone, SetFault}
use Rattle.kv_device.specs.declared.fault.DeviceFault.{DeviceFault}
use Rattle.kv_device.specs.declared.fault.DeviceFault.TheVariants as faults
use Rattle.kssd_entry.specs.declared.entry.Entry.{Entry}
use Rattle.kssd_entry.specs.declared.entry.Entry.TheVariants.{Put, At, Gone}
use Rattle.kssd_entry.specs.Spelling.{key_of}
use Rattle.kssd_model.specs.Rising.{put_entry}
use Rattle.kssd_image.specs.Stages.{shown_in}
use Rattle.kssd_image.specs.Whole.{has_its_value}
use Rattle.kssd_tx.specs.declared.fault.TxFault.{TxFault}
use Rattle.kssd_tx.specs.declared.fault.TxFault.TheVariants as tx_faults
use Rattle.kssd_tx.specs.Lists.{Transactions, list_of, changes_of, change_of, free_number, with_list}
use Rattle.kssd_tx.specs.Refusals.{tx_refusal, set_refusal, is_full}
use Rattle.kssd_values.specs.declared.mark.Mark.{Mark}
use Rattle.kssd_values.specs.declared.mark.Mark.TheVariants.{Pending, Dead}
use Rattle.kssd_values.specs.declared.values.Values.{Values}
use Rattle.kssd_values.specs.Marks.{is_live}
use Rattle.kssd_values.specs.Places.{IsValueBlock}
use Rattle.kssd_values.specs.Blocks.{device_of, mark_at}
use Rattle.kssd_values.specs.Changes.{SamePlaces}
use Rattle.kssd_machine.specs.Names.{names}
use Rattle.kssd_machine.specs.Machines.{machine_of, resting, no_lists}
use Rattle.kssd_machine.specs.Calling.{tx_fault, with_entry, is_misfit, value_refusal}
use Rattle.kssd_machine.specs.Sizes.{listed}
use Rattle.kssd_machine.specs.Marked.{is_named, remarked, IsRemarked, WereDead}
use Rattle.kssd_machine.proofs.Transacting.{rising_begun, rising_closed, rising_with, begins, aborts as closes, deletes, sets_inline, deleting_refused, deleting_fallen, setting_refused, setting_fallen}
use Rattle.kssd_machine.proofs.Standing.{downs}
use Rattle.kssd_machine.proofs.Valuing.{valued_begun, valued_closed, valued_with}
use Rattle.kssd_machine.proofs.Tagging.{begun, sets, aborts}
use Rattle.kssd_machine.proofs.Seeing.{own_valued, list_valued, page_read}
use Rattle.kssd_mounted.specs.declared.mounted.Mounted.{Mounted}
use Rattle.kssd_mounted.specs.Marking.{MayMark, is_page, IsPageOf}
use Rattle.kssd_mounted.specs.Standing.{Stands, machine_at, machine_after, takes_down}
use Rattle.kssd_mounted.proofs.Bearing.{live_before}
use Rattle.kssd_mounted.proofs.Staying.{restands}

-- ---- faults

-- a fault that leaves the device up
pub refused : (P : DeviceFault → Machine → Type 0) (m : Mounted) (flash : Flash) (lists : Transactions) (result fault : DeviceFault) → result ≡ fault → takes_down fault ≡ false → m.changes ≡ lists → P fault (machine_of flash true lists) → P result (machine_after result flash m)
refused P m flash lists result fault is up same p =
    let at : machine_after fault flash m ≡ machine_of flash true lists = ap (λ b. cond b (resting flash) (machine_at flash m)) up ∙ ap (machine_of flash true) same in
    subst (λ f. P f (machine_after f flash m)) (sym is) (subst (P fault) (sym at) p)

-- a fault that takes it down
pub fallen : (P : DeviceFault → Machine → Type 0) (m : Mounted) (flash : Flash) (result fault : DeviceFault) → result ≡ fault → takes_down fault ≡ true → P fault (resting flash) → P result (machine_after result flash m)
fallen P m flash result fault is down p =
    let at : machine_after fault flash m ≡ resting flash = ap (λ b. cond b (resting flash) (machine_at flash m)) down in
    subst (λ f. P f (machine_after f flash m)) (sym is) (subst (P fault) (sym at) p)

pub tx_refusal_up : (lists : Transactions) (tx : ℕ) (fault : TxFault) → tx_refusal lists tx ≡ Some fault → takes_down (tx_fault fault) ≡ false
tx_refusal_up lists tx fault is = by (is_some (list_of lists tx)) is
  where
    by : (o : Bool) → cond (not o) (Some tx_faults.NoTx) None ≡ Some fault → takes_down (tx_fault fault) ≡ false
    by true is = absurd cc
    by false is = ap (λ o. takes_down (tx_fault (unwrap_or o tx_faults.NoTx))) (sym is)

pub set_refusal_up : (lists : Transactions) (tx : ℕ) (key : List ℕ) (fault : TxFault) → set_refusal lists tx key ≡ Some fault → takes_down (tx_fault fault) ≡ false
set_refusal_up lists tx key fault is = by (is_some (list_of lists tx)) (is_full lists tx key) is
  where
    by : (o f : Bool) → cond (not o) (Some tx_faults.NoTx) (cond f (Some tx_faults.Full) None) ≡ Some fault → takes_down (tx_fault fault) ≡ false
    by true true is = ap (λ o. takes_down (tx_fault (unwrap_or o tx_faults.NoTx))) (sym is)
    by true false is = absurd cc
    by false f is = ap (λ o. takes_down (tx_fault (unwrap_or o tx_faults.NoTx))) (sym is)

-- ---- begin

pub same_places : (v : Values) → SamePlaces v v
same_places v = record {
  device = refl;
  blocks = record { states = λ block. refl; free = refl };
  opened = record { room = refl; next = refl };
  target = record { has = refl; next = refl; pages = λ q. refl };
  fills = λ image fills. fills;
}

none_is : {A : Type 0} (o : Option (Option A)) (x : Option A) → o ≡ Some x → is_none x ≡ true → option_and_then (λ t. t) o ≡ None
none_is o None is none = ap (option_and_then (λ t. t)) is
none_is o (Some x) is none = absurd cc

free_is_closed : (lists : Transactions) (tx : ℕ) → free_number lists ≡ Some tx → list_of lists tx ≡ None
free_is_closed lists tx free =
    let found = position-Some is_none lists tx None free in
    none_is (slice_get lists tx) (get_or lists tx None) (slice_get-get_or lists tx None found.0) found.1

pub begun_stands : (m : Mounted) (flash : Flash) (tx : ℕ) (lists : Transactions) → Stands m flash → free_number m.changes ≡ Some tx → lists ≡ with_list m.changes tx (Some []) → Stands (record m { changes = lists }) flash
begun_stands m flash tx lists stands free is =
    subst (λ l. Stands (record m { changes = l }) flash) (sym is)
    (restands m (record m { changes = with_list m.changes tx (Some []) }) flash stands refl (same_places m.values) (length-set m.changes tx (Some []) ∙ stands.four) (rising_begun m.changes tx stands.rising)
    (valued_begun flash.blocks flash.image m.changes tx stands.valued) (begun m.values (shown_in flash.image) m.changes tx (free_is_closed m.changes tx free) stands.marked) refl refl refl (λ page is. is))

pub begun_done : (m : Mounted) (flash : Flash) (tx : ℕ) (lists : Transactions) → free_number m.changes ≡ Some tx → lists ≡ with_list m.changes tx (Some []) → BeginDone (machine_at flash m) tx (machine_of flash true lists)
begun_done m flash tx lists free is = subst (λ l. BeginDone (machine_at flash m) tx (machine_of flash true l)) (sym is) (begins flash m.changes tx free)

-- ---- pages of entries

entry_region : (blocks : ℕ) (image : Image) (page : ℕ) (e : Entry) → names page e ≡ true → has_its_value blocks image e ≡ true → IsValueBlock blocks (page / 32)
entry_region blocks image page (Put key value) is valued = absurd cc
entry_region blocks image page (Gone key) is valued = absurd cc
entry_region blocks image page (At key at size) is valued = subst (λ p. IsValueBlock blocks (p / 32)) (eqb-true at page is) (page_read blocks image key at size valued).region

-- a page that entries name lies in a block of values
pub named_region : (blocks : ℕ) (image : Image) (page : ℕ) (es : List Entry) → list_all (has_its_value blocks image) es ≡ true → is_named page es ≡ true → IsValueBlock blocks (page / 32)
named_region blocks image page [] valued is = absurd cc
named_region blocks image page (e ∷ es) valued is =
    let both = and_parts _ _ valued in
    by (names page e) refl is (named_region blocks image page es both.1)
  where
    by : (b : Bool) → names page e ≡ b → (b || is_named page es) ≡ true → (is_named page es ≡ true → IsValueBlock blocks (page / 32)) → IsValueBlock blocks (page / 32)
    by true h is rest = entry_region blocks image page e h (and_parts _ _ valued).0
    by false h is rest = rest is

-- pages of a transaction's changes may be marked dead
pub dead_allowed : (m : Mounted) (flash : Flash) (tx : ℕ) (es : List Entry) → Stands m flash → es ≡ changes_of m.changes tx → MayMark m.values es Dead
dead_allowed m flash tx es stands same = record {
  region = λ page is. subst (λ n. IsValueBlock n (page / 32)) (sym stands.device) (named_region flash.blocks flash.image page (changes_of m.changes tx) (list_valued flash.blocks flash.image m.changes tx stands.valued) (sym (ap (is_named page) same) ∙ is));
  taken = λ page is live. absurd cc;
}

eqb-sym : (a b : ℕ) → eqb a b ≡ eqb b a
eqb-sym a b = elim (cases_eq a b) [
  | inl same ↦ eq-eqb a b same ∙ sym (eq-eqb b a (sym same))
  | inr differ ↦ ne_eqb a b differ ∙ sym (ne_eqb b a (λ e. differ (sym e)))
]

-- one more entry whose page has the mark
remarked_by : (a b : Bool) (mark m : Mark) → cond b mark (cond a mark m) ≡ cond (a || b) mark m
remarked_by true true mark m = refl
remarked_by true false mark m = refl
remarked_by false b mark m = refl

pub marked_more : (es : List Entry) (i : ℕ) (e : Entry) (mark : Mark) (before mid after : ℕ → Mark) → i < length es → get_or es i e ≡ e → ((q : ℕ) → mid q ≡ remarked (take i es) mark before q)
    → ((q : ℕ) → after q ≡ cond (names q e) mark (mid q)) → (q : ℕ) → after q ≡ remarked (take (i + 1) es) mark before q
marked_more es i e mark before mid after within is old new q =
    let more : is_named q (take (i + 1) es) ≡ (is_named q (take i es) || names q e) = list_any_more (names q) es i e within ∙ ap (λ x. is_named q (take i es) || names q x) is in
    new q ∙ ap (cond (names q e) mark) (old q) ∙ remarked_by (is_named q (take i es)) (names q e) mark (before q) ∙ ap (λ b. cond b mark (before q)) (sym more)

-- places stay through two calls
pub places_again : (first second third : Values) → SamePlaces first second → SamePlaces second third → SamePlaces first third
places_again first second third a b = record {
  device = b.device ∙ a.device;
  blocks = record { states = λ block. b.blocks.states block ∙ a.blocks.states block; free = b.blocks.free ∙ a.blocks.free };
  opened = record { room = b.opened.room ∙ a.opened.room; next = b.opened.next ∙ a.opened.next };
  target = record { has = b.target.has ∙ a.target.has; next = b.target.next ∙ a.target.next; pages = λ q. b.target.pages q ∙ a.target.pages q };
  fills = λ image fills. b.fills image (a.fills image fills);
}

-- an entry that names a page, and one that doesn't
pub named_step : (e : Entry) (key : List ℕ) (page size : ℕ) (mark : Mark) (mid after : ℕ → Mark) → e ≡ At key page size → ((q : ℕ) → after q ≡ cond (eqb q page) mark (mid q)) → (q : ℕ) → after q ≡ cond (names q e) mark (mid q)
named_step e key page size mark mid after is new q = new q ∙ ap (λ b. cond b mark (mid q)) (eqb-sym q page ∙ sym (ap (names q) is))

pub unnamed_step : (e : Entry) (mark : Mark) (mid after : ℕ → Mark) → ((key : List ℕ) (page size : ℕ) → e ≡ At key page size → ⊥) → ((q : ℕ) → after q ≡ mid q) → (q : ℕ) → after q ≡ cond (names q e) mark (mid q)
unnamed_step (Put key value) mark mid after other same q = same q
unnamed_step (Gone key) mark mid after other same q = same q
unnamed_step (At key page size) mark mid after other same q = absurd (other key page size refl)

-- ---- other changes and marks

pub abort_stands : (m : Mounted) (flash : Flash) (tx : ℕ) (es : List Entry) (values : Values) (lists : Transactions) → Stands m flash → es ≡ changes_of m.changes tx → ((q : ℕ) → mark_at values q ≡ remarked es Dead (mark_at m.values) q) → SamePlaces m.values values
    → lists ≡ with_list m.changes tx None → Stands (record m { values = values; changes = lists }) flash
abort_stands m flash tx es values lists stands same marks places is =
    subst (λ l. Stands (record m { values = values; changes = l }) flash) (sym is)
    (restands m (record m { values = values; changes = with_list m.changes tx None }) flash stands refl places (length-set m.changes tx None ∙ stands.four) (rising_closed m.changes tx stands.rising)
    (valued_closed flash.blocks flash.image m.changes tx stands.valued)
    (aborts m.values values (shown_in flash.image) m.changes tx stands.marked (λ q. marks q ∙ ap (λ l. remarked l Dead (mark_at m.values) q) same)) refl refl refl (λ page is. live_before (is_named page es) (mark_at m.values page) (sym (ap is_live (marks page)) ∙ is)))

pub open_allowed : (lists : Transactions) (tx : ℕ) (key : List ℕ) → set_refusal lists tx key ≡ None → is_some (list_of lists tx) ≡ true
open_allowed lists tx key allowed = by (is_some (list_of lists tx)) (is_full lists tx key) allowed
  where
    by : (o f : Bool) → cond (not o) (Some tx_faults.NoTx) (cond f (Some tx_faults.Full) None) ≡ None → o ≡ true
    by true f is = refl
    by false f is = absurd cc

unnamed_valued : (blocks : ℕ) (image : Image) (e : Entry) → ((page : ℕ) → names page e ≡ false) → has_its_value blocks image e ≡ true
unnamed_valued blocks image (Put key value) none = refl
unnamed_valued blocks image (Gone key) none = refl
unnamed_valued blocks image (At key page size) none = absurd (let e : false ≡ true = sym (none page) ∙ eq-eqb page page refl in cc)

-- the page of the older change of a key lies in a block of values
pub older_region : (m : Mounted) (flash : Flash) (tx page : ℕ) (key : List ℕ) (found : Option Entry) (older : Option ℕ) → Stands m flash → found ≡ change_of m.changes tx key → IsPageOf found older → older ≡ Some page → IsValueBlock (device_of m.values) (page / 32)
older_region m flash tx page key None older stands is same some =
    absurd (let e : true ≡ false = sym (ap (is_page page) some ∙ eq-eqb page page refl) ∙ sym (same page) in cc)
older_region m flash tx page key (Some e) older stands is same some =
    let valued = own_valued flash.blocks flash.image m.changes tx key e stands.valued (sym is) in
    let named : is_named page (e ∷ []) ≡ true = same page ∙ ap (is_page page) some ∙ eq-eqb page page refl in
    subst (λ n. IsValueBlock n (page / 32)) (sym stands.device) (named_region flash.blocks flash.image page (e ∷ []) (and_from _ _ valued refl) named)

pub change_stands : (m : Mounted) (flash : Flash) (tx : ℕ) (entry : Entry) (key : List ℕ) (found : Option Entry) (older : Option ℕ) (values : Values) (lists : Transactions) → Stands m flash → set_refusal m.changes tx (key_of entry) ≡ None → ((page : ℕ) → names page entry ≡ false)
    → key ≡ key_of entry → found ≡ change_of m.changes tx key → IsPageOf found older → ((q : ℕ) → mark_at values q ≡ cond (is_page q older) Dead (mark_at m.values q)) → SamePlaces m.values values → lists ≡ with_entry m.changes tx entry → Stands (record m { values = values; changes = lists }) flash
change_stands m flash tx entry key found older values lists stands allowed unpaged keyed is_there same marks places after =
    let is = is_there ∙ ap (change_of m.changes tx) keyed in
    let unnamed : (q : ℕ) → is_named q (entry ∷ []) ≡ false = λ q. ap (λ b. b || false) (unpaged q) in
    let remark : IsRemarked m.values (listed (change_of m.changes tx (key_of entry))) (entry ∷ []) Pending values = λ q.
    marks q ∙ ap (λ b. cond b Dead (mark_at m.values q)) (sym (same q)) ∙ ap (λ o. remarked (listed o) Dead (mark_at m.values) q) is
    ∙ ap (λ b. cond b Pending (remarked (listed (change_of m.changes tx (key_of entry))) Dead (mark_at m.values) q)) (sym (unnamed q)) in
    let dead : WereDead m.values (entry ∷ []) = λ q named. absurd (let e : false ≡ true = sym (unnamed q) ∙ named in cc) in
    subst (λ l. Stands (record m { values = values; changes = l }) flash) (sym after)
    (restands m (record m { values = values; changes = with_entry m.changes tx entry }) flash stands refl places (length-set m.changes tx (Some (put_entry (changes_of m.changes tx) entry)) ∙ stands.four) (rising_with m.changes tx entry stands.rising)
    (valued_with flash.blocks flash.image m.changes tx entry stands.valued (unnamed_valued flash.blocks flash.image entry unpaged))
    (sets m.values values (shown_in flash.image) m.changes tx entry stands.rising (open_allowed m.changes tx (key_of entry) allowed) stands.marked dead remark) refl refl refl (λ page is. live_before (is_page page older) (mark_at m.values page) (sym (ap is_live (marks page)) ∙ is)))

pub abort_done : (m : Mounted) (flash : Flash) (tx : ℕ) (lists : Transactions) → tx_refusal m.changes tx ≡ None → lists ≡ with_list m.changes tx None → AbortDone (machine_at flash m) tx (machine_of flash true lists)
abort_done m flash tx lists allowed is = subst (λ l. AbortDone (machine_at flash m) tx (machine_of flash true l)) (sym is) (closes flash m.changes tx allowed)

-- the marks after the older page died, where there is one
pub one_page : (older : Option ℕ) (page : ℕ) (v w : Values) → older ≡ Some page → ((q : ℕ) → mark_at w q ≡ cond (eqb q page) Dead (mark_at v q)) → (q : ℕ) → mark_at w q ≡ cond (is_page q older) Dead (mark_at v q)
one_page older page v w is marks q = marks q ∙ ap (λ b. cond b Dead (mark_at v q)) (eqb-sym q page ∙ sym (ap (is_page q) is))

pub no_page : (older : Option ℕ) (v : Values) → ((page : ℕ) → older ≡ Some page → ⊥) → (q : ℕ) → mark_at v q ≡ cond (is_page q older) Dead (mark_at v q)
no_page None v none q = refl
no_page (Some page) v none q = absurd (none page refl)

-- ---- a deletion, and a value in its entry

not_some : {A : Type 0} (o : Option A) → ((x : A) → o ≡ Some x → ⊥) → o ≡ None
not_some None none = refl
not_some (Some x) none = absurd (none x refl)

pub delete_refused : (m : Mounted) (flash : Flash) (tx : ℕ) (key : List ℕ) (refusal : Option TxFault) (fault : TxFault) (result : DeviceFault) → Stands m flash → refusal ≡ set_refusal m.changes tx key → refusal ≡ Some fault → result ≡ tx_fault fault
    → DeleteFault (machine_at flash m) tx key result (machine_after result flash m)
delete_refused m flash tx key refusal fault result stands is some same =
    refused (DeleteFault (machine_at flash m) tx key) m flash m.changes result (tx_fault fault) same (set_refusal_up m.changes tx key fault (sym is ∙ some)) refl (deleting_refused flash m.changes tx key fault stands.rising (sym is ∙ some))

pub delete_memory : (m : Mounted) (flash : Flash) (tx : ℕ) (key : List ℕ) (refusal : Option TxFault) → Stands m flash → refusal ≡ set_refusal m.changes tx key → ((fault : TxFault) → refusal ≡ Some fault → ⊥) → DeleteFault (machine_at flash m) tx key faults.Memory (resting flash)
delete_memory m flash tx key refusal stands is none = deleting_fallen flash m.changes tx key faults.Memory (resting flash) stands.rising (sym is ∙ not_some refusal none) (downs flash true m.changes no_lists)

pub delete_done : (m : Mounted) (flash : Flash) (tx : ℕ) (key copy : List ℕ) (lists : Transactions) (refusal : Option TxFault) → Stands m flash → refusal ≡ set_refusal m.changes tx key → ((fault : TxFault) → refusal ≡ Some fault → ⊥) → copy ≡ key
    → lists ≡ with_entry m.changes tx (Gone copy) → DeleteDone (machine_at flash m) tx key (machine_of flash true lists)
delete_done m flash tx key copy lists refusal stands is none same after =
    subst (λ l. DeleteDone (machine_at flash m) tx key (machine_of flash true l)) (sym (after ∙ ap (λ k. with_entry m.changes tx (Gone k)) same)) (deletes flash m.changes tx key stands.rising (sym is ∙ not_some refusal none))

fits : (key value : List ℕ) → length value ≤ 128 → is_misfit key value ≡ false
fits key value short = ap (λ b. b && ltb 32 (length key)) (le-ltb 128 (length value) short)

value_refused : (lists : Transactions) (tx : ℕ) (key value : List ℕ) (o : Option TxFault) → is_misfit key value ≡ false → o ≡ set_refusal lists tx key → value_refusal lists tx key value (set_refusal lists tx key) ≡ option_map tx_fault o
value_refused lists tx key value o fit is = by (is_some (list_of lists tx)) (is_full lists tx key) (is_misfit key value) fit ∙ ap (option_map tx_fault) (sym is)
  where
    list_refusal : Bool → Bool → Option TxFault
    list_refusal o f = cond (not o) (Some tx_faults.NoTx) (cond f (Some tx_faults.Full) None)

    by : (o f m : Bool) → m ≡ false → cond (not o) (Some faults.NoTx) (cond m (Some faults.BadSize) (option_map tx_fault (list_refusal o f))) ≡ option_map tx_fault (list_refusal o f)
    by true f m fit = ap (λ b. cond b (Some faults.BadSize) (option_map tx_fault (list_refusal true f))) fit
    by false f m fit = refl

pub set_refused : (m : Mounted) (flash : Flash) (tx : ℕ) (key value : List ℕ) (refusal : Option TxFault) (fault : TxFault) (result : DeviceFault) → Stands m flash → length value ≤ 128 → refusal ≡ set_refusal m.changes tx key → refusal ≡ Some fault → result ≡ tx_fault fault
    → SetFault (machine_at flash m) tx key value result (machine_after result flash m)
set_refused m flash tx key value refusal fault result stands short is some same =
    refused (SetFault (machine_at flash m) tx key value) m flash m.changes result (tx_fault fault) same (set_refusal_up m.changes tx key fault (sym is ∙ some)) refl
    (setting_refused flash m.changes tx key value (tx_fault fault) stands.rising (value_refused m.changes tx key value (Some fault) (fits key value short) (sym some ∙ is)))

pub set_memory : (m : Mounted) (flash : Flash) (tx : ℕ) (key value : List ℕ) (refusal : Option TxFault) → Stands m flash → length value ≤ 128 → refusal ≡ set_refusal m.changes tx key → ((fault : TxFault) → refusal ≡ Some fault → ⊥) → SetFault (machine_at flash m) tx key value faults.Memory (resting flash)
set_memory m flash tx key value refusal stands short is none =
    setting_fallen flash m.changes tx key value faults.Memory (resting flash) stands.rising (value_refused m.changes tx key value None (fits key value short) (sym (not_some refusal none) ∙ is)) (downs flash true m.changes no_lists)

pub set_done : (m : Mounted) (flash : Flash) (tx : ℕ) (key value copy same_value : List ℕ) (lists : Transactions) (refusal : Option TxFault) → Stands m flash → length value ≤ 128 → refusal ≡ set_refusal m.changes tx key → ((fault : TxFault) → refusal ≡ Some fault → ⊥) → copy ≡ key → same_value ≡ value
    → lists ≡ with_entry m.changes tx (Put copy same_value) → SetDone (machine_at flash m) tx key value (machine_of flash true lists)
set_done m flash tx key value copy same_value lists refusal stands short is none keyed valued after =
    subst (λ l. SetDone (machine_at flash m) tx key value (machine_of flash true l)) (sym (after ∙ ap (λ k. with_entry m.changes tx (Put k same_value)) keyed ∙ ap (λ v. with_entry m.changes tx (Put key v)) valued)) (sets_inline flash m.changes tx key value stands.rising (sym is ∙ not_some refusal none) (fits key value short))
