-- The page that a change names, instead of the older one of its key.
use Rattle.std.proofs.Common.{◌≡◌, ◌⊎◌, ◌∙◌, ℕ, ◌/◌, Bool, true, false, cond, ◌||◌, eqb, List, [], ◌∷◌, Option, Some, None, option_and_then, unwrap_or, inl, inr, refl, sym, ap, subst, arith}
use Rattle.std.specs.List.{list_all}
use Rattle.std.proofs.lemmas.Bool.{eq-eqb, ne_eqb, eqb-true, cases_eq, and_from}
use Rattle.kv_nand.specs.Flash.{Flash, Image, Erased}
use Rattle.kssd_entry.specs.declared.entry.Entry.{Entry}
use Rattle.kssd_entry.specs.declared.entry.Entry.TheVariants.{At}
use Rattle.kssd_model.specs.Rising.{find_entry}
use Rattle.kssd_image.specs.Stages.{shown_in}
use Rattle.kssd_image.specs.Whole.{has_its_value}
use Rattle.kssd_tx.specs.Lists.{Transactions, list_of, changes_of, change_of}
use Rattle.kssd_values.specs.declared.mark.Mark.{Mark}
use Rattle.kssd_values.specs.declared.mark.Mark.TheVariants.{Pending, Dead}
use Rattle.kssd_values.specs.declared.values.Values.{Values}
use Rattle.kssd_values.specs.Places.{IsValueBlock}
use Rattle.kssd_values.specs.Blocks.{device_of, mark_at}
use Rattle.kssd_values.specs.Changes.{SameMarks}
use Rattle.kssd_reclaim.specs.Sources.{is_visible}
use Rattle.kssd_machine.specs.Names.{times, times_pending, are_valued}
use Rattle.kssd_machine.specs.Sizes.{listed}
use Rattle.kssd_machine.specs.Marked.{is_pending, AreMarked, is_named, remarked}
use Rattle.kssd_machine.proofs.Keeping.{fresh_is_dead}
use Rattle.kssd_machine.proofs.Seeing.{own_valued}
use Rattle.kssd_machine.proofs.Weighing.{as_name, listed_sum, found_sum}
use Rattle.kssd_machine.proofs.Tagging.{named_some, pending_closed}
use Rattle.kssd_mounted.specs.declared.mounted.Mounted.{Mounted}
use Rattle.kssd_mounted.specs.Standing.{Stands}
use Rattle.kssd_mounted.specs.Marking.{MayMark, IsPageOf, is_page}
use Rattle.kssd_mounted.proofs.Changing.{named_region}
use Rattle.kssd_store.specs.Setting.{marks_after}

-- ---- the older page

change_valued : (blocks : ℕ) (image : Image) (lists : Transactions) (tx : ℕ) (key : List ℕ) → are_valued blocks image lists ≡ true → list_all (has_its_value blocks image) (listed (change_of lists tx key)) ≡ true
change_valued blocks image lists tx key valued = by (change_of lists tx key) refl
  where
    by : (o : Option Entry) → change_of lists tx key ≡ o → list_all (has_its_value blocks image) (listed o) ≡ true
    by None found = refl
    by (Some entry) found = and_from _ _ (own_valued blocks image lists tx key entry valued found) refl

-- the page of an older change may be marked dead
pub older_may_die : (m : Mounted) (flash : Flash) (v : Values) (tx : ℕ) (key : List ℕ) → Stands m flash → device_of v ≡ device_of m.values → MayMark v (listed (change_of m.changes tx key)) Dead
older_may_die m flash v tx key stands device = record {
  region = λ page named. subst (λ (blocks : ℕ). IsValueBlock blocks (page / 32)) (sym (device ∙ stands.device))
      (named_region flash.blocks flash.image page (listed (change_of m.changes tx key)) (change_valued flash.blocks flash.image m.changes tx key stands.valued) named);
  taken = λ page named live. absurd cc;
}

change_in_list : (o : Option (List Entry)) (key : List ℕ) → option_and_then (λ list. find_entry list key) o ≡ find_entry (unwrap_or o []) key
change_in_list None key = refl
change_in_list (Some list) key = refl

-- a change names no dead page
pub older_lives : (v : Values) (visible : List Entry) (lists : Transactions) (tx page : ℕ) (key : List ℕ) → AreMarked v visible lists → mark_at v page ≡ Dead → is_named page (listed (change_of lists tx key)) ≡ false
older_lives v visible lists tx page key marked dead = by (is_named page (listed (change_of lists tx key))) refl
  where
    by : (b : Bool) → is_named page (listed (change_of lists tx key)) ≡ b → is_named page (listed (change_of lists tx key)) ≡ false
    by false is = is
    by true is =
        let once = named_some page (listed (change_of lists tx key)) is in
        let found = ap (λ (o : Option Entry). times page (listed o)) (change_in_list (list_of lists tx) key) in
        let sum = listed_sum (as_name page) (find_entry (changes_of lists tx) key) in
        let few = found_sum (as_name page) (changes_of lists tx) key in
        let closed = pending_closed page lists tx in
        let none : times_pending page lists ≡ 0 = marked.pending page ∙ ap {B = ℕ} (λ mark. cond (is_pending mark) 1 0) dead in
        absurd (omega arith)

-- ---- the marks

-- a value was put in a page that no entry names
pub put_on_dead : (m : Mounted) (flash : Flash) (v : Values) (page : ℕ) → Stands m flash → SameMarks m.values v → (mark_at m.values page ≡ Dead) ⊎ (flash.image page ≡ Erased) → mark_at v page ≡ Dead
put_on_dead m flash v page stands same free = same page ∙ elim free [
  | inl dead ↦ dead
  | inr erased ↦ fresh_is_dead flash.blocks m.values flash.image (shown_in flash.image) m.changes page stands.marked stands.whole.values.pages stands.valued erased
]

pub marks_put : (m : Mounted) (flash : Flash) (v : Values) → Stands m flash → SameMarks m.values v → AreMarked v (shown_in flash.image) m.changes
marks_put m flash v stands same = record {
  shown = λ q. stands.marked.shown q ∙ ap {B = ℕ} (λ (k : Mark). cond (is_visible k) 1 0) (sym (same q));
  pending = λ q. stands.marked.pending q ∙ ap {B = ℕ} (λ (k : Mark). cond (is_pending k) 1 0) (sym (same q));
}

eqb_turned : (a b : ℕ) → eqb a b ≡ eqb b a
eqb_turned a b = elim (cases_eq a b) [
  | inl same ↦ eq-eqb a b same ∙ sym (eq-eqb b a (sym same))
  | inr apart ↦ ne_eqb a b apart ∙ sym (ne_eqb b a (λ same. apart (sym same)))
]

settled : (older here : Bool) (mark : Mark) → (older ≡ true → here ≡ true → ⊥) → cond older Dead (cond here Pending mark) ≡ cond (here || false) Pending (cond older Dead mark)
settled true true mark apart = absurd (apart refl refl)
settled true false mark apart = refl
settled false true mark apart = refl
settled false false mark apart = refl

-- of two pages that are apart, whichever got its mark first
pub remarks_are : (gone : List Entry) (older : Option ℕ) (page size q : ℕ) (key : List ℕ) (before : ℕ → Mark) → ((p : ℕ) → is_named p gone ≡ is_page p older) → is_named page gone ≡ false
    → marks_after before page older q ≡ remarked (At key page size ∷ []) Pending (remarked gone Dead before) q
remarks_are gone older page size q key before same alone =
    (λ i. cond (turned i) Dead (cond (eqb_turned q page i) Pending (before q)))
    ∙ settled (is_named q gone) (eqb page q) (before q) (λ named here. let e : true ≡ false = sym (ap (λ (p : ℕ). is_named p gone) (eqb-true page q here) ∙ named) ∙ alone in cc)
  where
    turned : is_page q older ≡ is_named q gone
    turned = sym (same q)

-- the page of an older change is one that it names
pub older_named : (found change : Option Entry) (older : Option ℕ) (page : ℕ) → found ≡ change → IsPageOf found older → older ≡ Some page → is_named page (listed change) ≡ true
older_named found change older page same is some = sym (ap (λ (o : Option Entry). is_named page (listed o)) same) ∙ is page ∙ ap (is_page page) some ∙ eq-eqb page page refl
