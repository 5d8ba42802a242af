-- A device after a value was put in a page, and a change names that.
use Rattle.std.proofs.Common.{◌≡◌, ◌≢◌, ◌⊎◌, ◌∙◌, ℕ, ◌/◌, inl, inr, Bool, true, false, cond, ◌||◌, eqb, List, [], ◌∷◌, length, None, refl, sym, ap, subst, Some, length-set}
use Rattle.std.proofs.lemmas.Bool.{eqb-true}
use Rattle.kv_nand.specs.Flash.{Flash, Erased}
use Rattle.kv_nand.specs.Working.{Works}
use Rattle.kv_nand.proofs.Chaining.{works_blocks, works_powered}
use Rattle.kv_device.specs.Calls.{SetDone}
use Rattle.kv_device.specs.Calls as refusals
use Rattle.kssd_entry.specs.declared.entry.Entry.{Entry}
use Rattle.kssd_entry.specs.declared.entry.Entry.TheVariants.{At}
use Rattle.kssd_image.specs.ValuePages.{HoldsValue}
use Rattle.kssd_image.specs.Stages.{shown_in}
use Rattle.kssd_tx.specs.Lists.{Transactions, change_of, changes_of}
use Rattle.kssd_model.specs.Rising.{put_entry}
use Rattle.kssd_values.specs.declared.mark.Mark.TheVariants.{Pending, Dead}
use Rattle.kssd_values.specs.declared.values.Values.{Values}
use Rattle.kssd_values.specs.Places.{IsValueBlock}
use Rattle.kssd_values.specs.Marks.{is_live}
use Rattle.kssd_values.specs.Blocks.{Open, Closed, Target, mark_at, is_live_at, state_at, free_room}
use Rattle.kssd_values.specs.Pages.{Fills, KeepsPages}
use Rattle.kssd_values.specs.Changes.{SamePlaces, Puts}
use Rattle.kssd_machine.specs.Names.{are_rising, are_valued}
use Rattle.kssd_machine.specs.Machines.{machine_of}
use Rattle.kssd_machine.specs.Marked.{AreMarked, is_named, remarked, IsRemarked, WereDead}
use Rattle.kssd_machine.specs.Sizes.{listed}
use Rattle.kssd_machine.specs.Calling.{with_entry}
use Rattle.kssd_machine.proofs.Standing.{stays, works_same}
use Rattle.kssd_machine.proofs.Transacting.{sets_page, rising_with}
use Rattle.kssd_machine.proofs.Remaining.{block_after_put, block_after_mark}
use Rattle.kssd_machine.proofs.Tagging.{sets}
use Rattle.kssd_machine.proofs.Valuing.{holds, valued_with}
use Rattle.kssd_mounted.specs.declared.mounted.Mounted.{Mounted}
use Rattle.kssd_mounted.specs.Beside.{OnlyValues}
use Rattle.kssd_mounted.specs.Collections.{BearsCollection}
use Rattle.kssd_mounted.proofs.Bearing.{bears_then, bears_put, bears_marks, live_before}
use Rattle.kssd_mounted.proofs.BesideValues.{stands_beside}
use Rattle.kssd_mounted.specs.Standing.{Stands, machine_at}
use Rattle.kssd_store.proofs.Allowed.{may_set}
use Rattle.kssd_store.proofs.Kept.{objects_kept, pending_kept, valued_kept, leaves_kept, stand}
use Rattle.kssd_store.proofs.Renaming.{put_on_dead, marks_put}

-- a change names the page, in place of the older page of its key
pub record IsNamed (m n : Mounted) (v : Values) (tx page size : ℕ) (key : List ℕ) : Type 0 where
  pub changes : n.changes ≡ with_entry m.changes tx (At key page size)
  pub marks : IsRemarked v (listed (change_of m.changes tx key)) (At key page size ∷ []) Pending n.values
  pub places : SamePlaces v n.values
  pub rest : n ≡ record m { values = n.values; changes = n.changes }

-- under an equal key and with an equal size
pub named_again : (m n : Mounted) (v : Values) (tx page size other_size : ℕ) (key other_key : List ℕ) → size ≡ other_size → key ≡ other_key → IsNamed m n v tx page size key → IsNamed m n v tx page other_size other_key
named_again m n v tx page size other_size key other_key sizes keys named = subst (λ (k : List ℕ). IsNamed m n v tx page other_size k) keys (subst (λ (s : ℕ). IsNamed m n v tx page s key) sizes named)

-- a value was put in a page, and that was named in a change
pub record IsPlaced (m n : Mounted) (old new : Flash) (v : Values) (tx page : ℕ) (key value : List ℕ) : Type 0 where
  pub stood : Stands m old
  pub allowed : refusals.set_refusal (machine_at old m) tx key value ≡ None
  pub room : free_room m.values ≢ 0
  pub puts : Puts m.values page v
  pub holds_value : HoldsValue key value (new.image page)
  pub free : (mark_at m.values page ≡ Dead) ⊎ (old.image page ≡ Erased)
  pub fills : Fills v new.image
  pub keeps : KeepsPages m.values old.image new.image
  pub works : Works old new 2 0
  pub named : IsNamed m n v tx page (length value) key

-- ---- the machine

pub set_done : (m n : Mounted) (old new : Flash) (v : Values) (tx page : ℕ) (key value : List ℕ) → IsPlaced m n old new v tx page key value → SetDone (machine_at old m) tx key value (machine_at new n)
set_done m n old new v tx page key value placed =
    let may = may_set m old tx key value placed.stood placed.allowed in
    let same : machine_of new true m.changes ≡ machine_at old m =
    stays old new true m.changes (works_same old new 2 0 placed.works) (objects_kept m old new placed.stood placed.keeps) (pending_kept m old new placed.stood placed.keeps) in
    subst (λ (lists : Transactions). SetDone (machine_at old m) tx key value (machine_of new true lists)) (sym placed.named.changes)
    (sets_page new m.changes tx page key value (machine_at old m) placed.stood.rising may.room may.fits placed.holds_value same)

-- ---- the marks

named_alone : (page size q : ℕ) (key : List ℕ) → is_named q (At key page size ∷ []) ≡ true → page ≡ q
named_alone page size q key is = by (eqb page q) refl is
  where
    by : (b : Bool) → eqb page q ≡ b → (b || false) ≡ true → page ≡ q
    by true same h = eqb-true page q same
    by false apart h = absurd cc

pub marks_named : (m n : Mounted) (old new : Flash) (v : Values) (tx page : ℕ) (key value : List ℕ) → IsPlaced m n old new v tx page key value
    → AreMarked n.values (shown_in old.image) (with_entry m.changes tx (At key page (length value)))
marks_named m n old new v tx page key value placed =
    let may = may_set m old tx key value placed.stood placed.allowed in
    let dead = put_on_dead m old v page placed.stood placed.puts.marks placed.free in
    let marked = marks_put m old v placed.stood placed.puts.marks in
    let were : WereDead v (At key page (length value) ∷ []) = λ q is. subst (λ (p : ℕ). mark_at v p ≡ Dead) (named_alone page (length value) q key is) dead in
    sets v n.values (shown_in old.image) m.changes tx (At key page (length value)) placed.stood.rising may.open_is marked were
    placed.named.marks

-- ---- the device

-- the page that is pending now isn't one of a closed block or of one copied into
apart_marks : (v w : Values) (gone : List Entry) (page size q : ℕ) (key : List ℕ) → state_at v (page / 32) ≡ Open → IsRemarked v gone (At key page size ∷ []) Pending w → (state_at v (q / 32) ≡ Closed) ⊎ (state_at v (q / 32) ≡ Target) → is_live_at w q ≡ true → is_live_at v q ≡ true
apart_marks v w gone page size q key here marks where_ live = by (eqb page q) refl (sym (ap is_live (marks q)) ∙ live)
  where
    by : (b : Bool) → eqb page q ≡ b → is_live (cond (b || false) Pending (remarked gone Dead (mark_at v) q)) ≡ true → is_live_at v q ≡ true
    by true same h =
        let open_ : state_at v (q / 32) ≡ Open = ap (λ (p : ℕ). state_at v (p / 32)) (sym (eqb-true page q same)) ∙ here in
        elim where_ [
          | inl closed ↦ absurd (let e : Closed ≡ Open = sym closed ∙ open_ in cc)
          | inr into ↦ absurd (let e : Target ≡ Open = sym into ∙ open_ in cc)
        ]
    by false away h = live_before (is_named q gone) (mark_at v q) h

bears : (m n : Mounted) (old new : Flash) (v : Values) (tx page : ℕ) (key value : List ℕ) → IsPlaced m n old new v tx page key value → BearsCollection m.values n.values old.image new.image
bears m n old new v tx page key value placed =
    bears_then m.values v n.values old.image new.image new.image (bears_put m.values v page old.image new.image placed.puts placed.keeps (stand m old placed.stood))
    (bears_marks v n.values new.image placed.named.places (λ q where_ live. apart_marks v n.values (listed (change_of m.changes tx key)) page (length value) q key placed.puts.here placed.named.marks where_ live))

pub stands_after : (m n : Mounted) (old new : Flash) (v : Values) (tx page : ℕ) (key value : List ℕ) → IsPlaced m n old new v tx page key value → Stands n new
stands_after m n old new v tx page key value placed =
    let blocks = works_blocks old new 2 0 placed.works in
    let entry = At key page (length value) in
    let only : OnlyValues old.blocks old.image new.image = λ q not_. placed.keeps.outside q (λ b. not_ (subst (λ (d : ℕ). IsValueBlock d (q / 32)) placed.stood.device b)) in
    let region = subst (λ (d : ℕ). IsValueBlock d (page / 32)) (placed.stood.device ∙ sym blocks) placed.puts.value in
    let kept : are_valued new.blocks new.image m.changes ≡ true = subst (λ (b : ℕ). are_valued b new.image m.changes ≡ true) (sym blocks) (valued_kept m old new placed.stood placed.keeps) in
    stands_beside m n old new placed.stood only (works_powered old new 2 0 placed.works ∙ placed.stood.powered) blocks
    (leaves_kept m old new placed.stood placed.keeps blocks).whole
    (ap (λ (x : Mounted). x.index) placed.named.rest) (ap (λ (x : Mounted). x.keys) placed.named.rest) (ap (λ (x : Mounted). x.pages) placed.named.rest)
    (placed.named.places.device ∙ placed.puts.device) (placed.named.places.fills new.image placed.fills) (ap (λ (x : Mounted). x.collection) placed.named.rest) (bears m n old new v tx page key value placed)
    (block_after_mark v n.values placed.named.places (block_after_put m.values v page placed.puts placed.room placed.stood.block))
    (ap (λ (lists : Transactions). length lists) placed.named.changes ∙ length-set m.changes tx (Some (put_entry (changes_of m.changes tx) entry)) ∙ placed.stood.four)
    (subst (λ (lists : Transactions). are_rising lists ≡ true) (sym placed.named.changes) (rising_with m.changes tx entry placed.stood.rising))
    (subst (λ (lists : Transactions). are_valued new.blocks new.image lists ≡ true) (sym placed.named.changes) (valued_with new.blocks new.image m.changes tx entry kept (holds new.blocks new.image key value page region placed.holds_value)))
    (subst (λ (lists : Transactions). AreMarked n.values (shown_in old.image) lists) (sym placed.named.changes) (marks_named m n old new v tx page key value placed))
