-- There is room for a group that is judged to have it.
use Rattle.std.proofs.Common.{◌≡◌, ◌∙◌, ℕ, ◌+◌, ◌/◌, ◌≤◌, Bool, true, false, cond, List, get_or, Option, Some, None, is_some, refl, sym, ap, subst, arith}
use Rattle.std.specs.Prelude.{position}
use Rattle.std.proofs.lemmas.Bool.{and_from, le-leb, lt-ltb}
use Rattle.kv_nand.specs.Flash.{Flash, Image, IsSound}
use Rattle.kv_device.specs.Machine.{view}
use Rattle.kv_device.specs.Calls.{has_room}
use Rattle.kssd_entry.specs.declared.entry.Entry.{Entry}
use Rattle.kssd_model.specs.Rising.{is_rising, merged}
use Rattle.kssd_image.specs.Stages.{without_marks, shown_in}
use Rattle.kssd_image.specs.Whole.{is_value_block, is_unnamed}
use Rattle.kssd_frames.specs.Logging.{IsRoomAfter}
use Rattle.kssd_frames.proofs.ShownLaws.{shown_in_rises}
use Rattle.kssd_tx.specs.Lists.{Transactions, changes_of}
use Rattle.kssd_values.specs.declared.mark.Mark.TheVariants.{Dead}
use Rattle.kssd_values.specs.declared.filling.Filling.{Filling}
use Rattle.kssd_values.specs.declared.values.Values.{Values}
use Rattle.kssd_values.specs.Places.{IsValueBlock, is_in}
use Rattle.kssd_values.specs.Blocks.{device_of, mark_at, state_at, free_count, has_target, Free, Open, Closed, Target}
use Rattle.kssd_values.proofs.Sound.{none_at_all, first_is_free}
use Rattle.kssd_values.proofs.States.{is_in-same, target_alone, free_state}
use Rattle.kssd_reclaim.specs.declared.reclaim.Reclaim.{Reclaim}
use Rattle.kssd_reclaim.specs.Sources.{is_visible}
use Rattle.kssd_machine.specs.Names.{times, times_pending, are_rising}
use Rattle.kssd_machine.specs.Marked.{is_pending, AreMarked, HasBlock}
use Rattle.kssd_machine.proofs.Finishing.{has_room_by, group_room}
use Rattle.kssd_machine.proofs.Moving.{unnamed, named_after, free_unnamed}
use Rattle.kssd_machine.proofs.Tagging.{pending_closed}
use Rattle.kssd_machine.proofs.Transacting.{rising_at}
use Rattle.kssd_machine.proofs.Weighing.{rising_differ}
use Rattle.kssd_mounted.specs.declared.mounted.Mounted.{Mounted}
use Rattle.kssd_mounted.specs.Collections.{CollectsIn}
use Rattle.kssd_mounted.specs.Standing.{Stands, machine_at}
use Rattle.kssd_commit.specs.declared.judging.Judged.{Judged}
use Rattle.kssd_commit.specs.Judging.{IsJudged, HasRoomFor}

-- a free block of values
record IsFreeBlock (v : Values) (block : ℕ) : Type 0 where
  value : IsValueBlock (device_of v) block
  free : state_at v block ≡ Free

-- where there are some, one is the first
one_free : (v : Values) → 1 ≤ free_count v → (block : ℕ) × IsFreeBlock v block
one_free v some = by (position (λ f. f) v.free.items) refl
  where
    by : (o : Option ℕ) → o ≡ position (λ f. f) v.free.items → (block : ℕ) × IsFreeBlock v block
    by None is = absurd (omega (arith, none_at_all v.free.items is, some))
    by (Some block) is =
        let free = first_is_free v.free.items block is in
        (block, record { value = v.sound.region block free; free = free_state v.layout.blocks v.marks.items v.free.items v.opened v.target v.sound block free })

-- a block of values that no entry names after an end
record IsSpare (v : Values) (visible : List Entry) (lists : Transactions) (tx block : ℕ) : Type 0 where
  value : IsValueBlock (device_of v) block
  unnamed : is_unnamed (without_marks (merged (changes_of lists tx) visible)) block ≡ true

-- the block copied into has no page that is named
target_spare : (v : Values) (visible : List Entry) (lists : Transactions) (tx : ℕ) → is_rising visible ≡ true → are_rising lists ≡ true → AreMarked v visible lists → ((page : ℕ) → state_at v (page / 32) ≡ Target → mark_at v page ≡ Dead) → has_target v ≡ true → (block : ℕ) × IsSpare v visible lists tx block
target_spare v visible lists tx rises rising marked dead has = by v.target refl has
  where
    by : (o : Option Filling) → v.target ≡ o → is_some o ≡ true → (block : ℕ) × IsSpare v visible lists tx block
    by None e h = absurd cc
    by (Some f) e h =
        let in_target : is_in v.target f.block ≡ true = ap (λ (o : Option Filling). is_in o f.block) e ∙ is_in-same f in
        let alone = target_alone v.layout.blocks v.marks.items v.free.items v.opened v.target v.sound f.block in_target in
        let state : state_at v f.block ≡ Target =
        ap (λ b. cond b Open (cond (is_in v.target f.block) Target (cond (get_or v.free.items f.block false) Free Closed))) alone.0 ∙ ap (λ b. cond b Target (cond (get_or v.free.items f.block false) Free Closed)) in_target in (
          f.block,
          record {
            value = (v.sound.target_is f e).value;
            unnamed = unnamed (without_marks (merged (changes_of lists tx) visible)) f.block (λ page here.
                let gone : mark_at v page ≡ Dead = dead page (ap (state_at v) here ∙ state) in
                let none : times page visible ≡ 0 = marked.shown page ∙ ap {B = ℕ} (λ m. cond (is_visible m) 1 0) gone in
                let none_too : times_pending page lists ≡ 0 = marked.pending page ∙ ap {B = ℕ} (λ m. cond (is_pending m) 1 0) gone in
                let closed = pending_closed page lists tx in
                let sum = named_after visible (changes_of lists tx) page rises (rising_differ (changes_of lists tx) (rising_at lists tx rising)) in
                omega arith);
          },
        )

-- no block is being copied into, so one is free
some_free : (v : Values) → has_target v ≡ false → HasBlock v → 1 ≤ free_count v
some_free v idle has = let none : cond (has_target v) 1 0 ≡ 0 = ap {B = ℕ} (λ b. cond b 1 0) idle in omega (arith, has, none)

-- no page of the block copied into is named while a collection is under way
target_dead : (c : Option Reclaim) (v : Values) (image : Image) → CollectsIn c v image → has_target v ≡ true → (page : ℕ) → state_at v (page / 32) ≡ Target → mark_at v page ≡ Dead
target_dead None v image none has page into = absurd (let e : true ≡ false = sym has ∙ none in cc)
target_dead (Some r) v image way has page into = way.targets.dead page into

-- a free block, or the one copied into
spare : (m : Mounted) (flash : Flash) (tx : ℕ) → Stands m flash → (block : ℕ) × IsSpare m.values (shown_in flash.image) m.changes tx block
spare m flash tx stands = by (has_target m.values) refl
  where
    by : (b : Bool) → has_target m.values ≡ b → (block : ℕ) × IsSpare m.values (shown_in flash.image) m.changes tx block
    by true has = target_spare m.values (shown_in flash.image) m.changes tx (shown_in_rises flash.image) stands.rising stands.marked (target_dead m.collection m.values flash.image stands.collecting has) has
    by false none =
        let one = one_free m.values (some_free m.values none stands.block) in
        (one.0, record { value = one.1.value; unnamed = free_unnamed m.values (shown_in flash.image) m.changes tx one.0 (shown_in_rises flash.image) stands.rising stands.marked one.1.free })

module _ (m : Mounted) (old : Flash) (tx : ℕ) (judged : Judged) (stands : Stands m old) (is : IsJudged judged m tx old) (room : HasRoomFor judged old.blocks) where
  pub has_room_after : has_room (machine_at old m) (view (machine_at old m) tx) ≡ true
  has_room_after = has_room_by old m.changes tx judged.keys judged.pages is.keys is.pages room

  pub room_after : IsSound old → IsRoomAfter old.blocks old.image (changes_of m.changes tx)
  room_after sound =
      let one = spare m old tx stands in
      let first = one.1.value.first in
      let last = one.1.value.last in
      let device : device_of m.values ≡ old.blocks = stands.device in
      group_room old m.changes tx one.0 sound stands.whole stands.least stands.valued is.fits has_room_after
      (subst (λ n. is_value_block n one.0 ≡ true) device (and_from _ _ (le-leb _ _ first) (lt-ltb _ _ last)))
      one.1.unnamed

  pub room_for_them : IsSound old → (entries : List Entry) → entries ≡ changes_of m.changes tx → IsRoomAfter old.blocks old.image entries
  room_for_them sound entries same = subst (λ (es : List Entry). IsRoomAfter old.blocks old.image es) (sym same) (room_after sound)
