-- What stays of a device while pages of values are copied and erased.
use Rattle.std.proofs.Common.{◌≡◌, ◌≢◌, ◌∙◌, inl, inr, ℕ, ◌+◌, ◌-◌, ◌*◌, ◌/◌, ◌<◌, ◌≤◌, Bool, true, false, cond, List, length, Option, Some, None, refl, sym, ap, subst, arith}
use Rattle.std.proofs.lemmas.Bool.{cases_eq}
use Rattle.kv_nand.specs.Flash.{Flash, Image}
use Rattle.kv_nand.specs.Working.{Works}
use Rattle.kv_nand.proofs.Chaining.{works_blocks, works_powered}
use Rattle.kssd_layout.specs.Numbers.{value_blocks_in}
use Rattle.kssd_entry.specs.declared.entry.Entry.{Entry}
use Rattle.kssd_image.specs.Stages.{shown_in, objects_in}
use Rattle.kssd_image.specs.Whole.{pages_named, has_its_value, IsWhole, age_in}
use Rattle.kssd_frames.specs.Same.{Stays}
use Rattle.kssd_tx.specs.Lists.{Transactions, AreLists, change_count}
use Rattle.kssd_values.specs.Marks.{is_live}
use Rattle.kssd_values.specs.declared.mark.Mark.{Mark}
use Rattle.kssd_values.specs.declared.mark.Mark.TheVariants.{Pending, Visible, Dead}
use Rattle.kssd_values.specs.declared.values.Values.{Values}
use Rattle.kssd_values.specs.Places.{IsValueBlock}
use Rattle.kssd_values.specs.Blocks.{device_of, mark_at, open_room, has_target, free_count, free_room, live_count}
use Rattle.kssd_values.specs.Pages.{Fills, KeepsPages, StandsIn}
use Rattle.kssd_values.specs.Changes.{SameMarks, Clears}
use Rattle.kssd_values.proofs.Standing.{not_erased}
use Rattle.kssd_index.specs.Standing.{IsIndex}
use Rattle.kssd_index.proofs.Anchored.{aged_still}
use Rattle.kssd_reclaim.specs.declared.reclaim.Reclaim.{Reclaim}
use Rattle.kssd_reclaim.specs.Sources.{is_visible}
use Rattle.kssd_machine.specs.Names.{times_pending}
use Rattle.kssd_machine.specs.Machines.{machine_of}
use Rattle.kssd_machine.specs.Marked.{is_pending, AreMarked, HasBlock}
use Rattle.kssd_machine.proofs.Standing.{stays, works_same}
use Rattle.kssd_machine.proofs.Keeping.{objects_stay, live_stand, pending_stays, still_valued}
use Rattle.kssd_machine.proofs.Spacing.{live_most, within_limit, room_collected, room_cleared}
use Rattle.kssd_mounted.specs.declared.mounted.Mounted.{Mounted}
use Rattle.kssd_mounted.specs.Collections.{IsUnderWay, CollectsIn}
use Rattle.kssd_mounted.specs.Standing.{Stands, Leaves, mounted_age}
use Rattle.kssd_mounted.proofs.BesideValues.{index_stands}
use Rattle.kssd_collect.specs.Collecting.{IsBusy, IsCollected, IsEmptied, IsUsedTheSame, FreesBlock}

-- ---- the device

-- the device without its collection
pub busy_from : (m : Mounted) (flash : Flash) → Stands m flash → IsBusy (record m { collection = None }) flash
busy_from m flash h = record {
  powered = h.powered;
  taken = refl;
  least = h.least;
  most = h.most;
  whole = h.whole;
  index = h.index;
  device = h.device;
  fills = h.fills;
  four = h.four;
  rising = h.rising;
  valued = h.valued;
  marked = h.marked;
  block = h.block;
  keys = h.keys;
  pages = h.pages;
}

-- the collection that is taken out
pub collected_from : (m : Mounted) (flash : Flash) (r : Reclaim) → Stands m flash → m.collection ≡ Some r → IsCollected r (record m { collection = None }) flash
collected_from m flash r h is =
    let way : IsUnderWay r m.values flash.image = subst (λ (c : Option Reclaim). CollectsIn c m.values flash.image) is h.collecting in
    record {
      busy = busy_from m flash h;
      copies = record { collects = way.collects; targets = way.targets; few = way.few; closed = way.closed; block = h.block };
    }

-- no block is being copied into where there is none
pub none_into : (m : Mounted) (flash : Flash) → Stands m flash → m.collection ≡ None → has_target m.values ≡ false
none_into m flash h is = subst (λ (c : Option Reclaim). CollectsIn c m.values flash.image) is h.collecting

-- it is put back
pub stands_again : (r : Reclaim) (m : Mounted) (flash : Flash) → IsCollected r m flash → Stands (record m { collection = Some r }) flash
stands_again r m flash h = record {
  powered = h.busy.powered;
  least = h.busy.least;
  most = h.busy.most;
  whole = h.busy.whole;
  index = h.busy.index;
  device = h.busy.device;
  fills = h.busy.fills;
  collecting = record { closed = h.copies.closed; collects = h.copies.collects; targets = h.copies.targets; few = h.copies.few };
  four = h.busy.four;
  rising = h.busy.rising;
  valued = h.busy.valued;
  marked = h.busy.marked;
  block = h.busy.block;
  keys = h.busy.keys;
  pages = h.busy.pages;
}

pub stands_from : (m : Mounted) (flash : Flash) → IsBusy m flash → has_target m.values ≡ false → Stands m flash
stands_from m flash h idle = record {
  powered = h.powered;
  least = h.least;
  most = h.most;
  whole = h.whole;
  index = h.index;
  device = h.device;
  fills = h.fills;
  collecting = subst (λ (c : Option Reclaim). CollectsIn c m.values flash.image) (sym h.taken) idle;
  four = h.four;
  rising = h.rising;
  valued = h.valued;
  marked = h.marked;
  block = h.block;
  keys = h.keys;
  pages = h.pages;
}

-- the visible and pending pages of a device stand
pub values_stand : (m : Mounted) (flash : Flash) → IsBusy m flash → StandsIn m.values flash
values_stand m flash h = record {
  device = h.device;
  fills = h.fills;
  live = live_stand m.values flash.image (shown_in flash.image) m.changes h.marked
      (subst (λ n. Rattle.std.specs.List.list_all (has_its_value n flash.image) (shown_in flash.image) ≡ true) (sym h.device) h.whole.values.pages)
      (subst (λ n. Rattle.kssd_machine.specs.Names.are_valued n flash.image m.changes ≡ true) (sym h.device) h.valued);
}

image_stays : (m : Mounted) (old : Flash) (new : Image) → IsBusy m old → KeepsPages m.values old.image new → Stays old.blocks old.image new (age_in old.image)
image_stays m old new h keeps =
    subst (λ n. Stays n old.image new (age_in old.image)) h.device
    (objects_stay m.values old.image new m.changes (subst (λ n. IsWhole n old.image) (sym h.device) h.whole) h.marked keeps)

-- whatever a call answers that keeps the pages of a device
pub objects_kept : (m : Mounted) (old new : Flash) → IsBusy m old → KeepsPages m.values old.image new.image → objects_in new.image ≡ objects_in old.image
objects_kept m old new h keeps = (image_stays m old new.image h keeps).keeps.objects

pub leaves_kept : (m : Mounted) (old new : Flash) → IsBusy m old → KeepsPages m.values old.image new.image → new.blocks ≡ old.blocks → Leaves old (mounted_age m) new
leaves_kept m old new h keeps same =
    let is = image_stays m old new.image h keeps in
    let aged = aged_still m.index old.blocks old.image h.index in
    record {
      blocks = same;
      whole = subst (λ n. IsWhole n new.image) (sym same) is.keeps.whole;
      age_is = let age = is.age_is in omega arith;
    }

-- a page that a pending change names stays
pending_kept : (m : Mounted) (old : Flash) (new : Image) → IsBusy m old → KeepsPages m.values old.image new → (page : ℕ) → 1 ≤ times_pending page m.changes → new page ≡ old.image page
pending_kept m old new h keeps page some =
    let live = is_live_since (mark_at m.values page) (times_pending page m.changes) (h.marked.pending page) some in
    keeps.live page live (not_erased (old.image page) ((values_stand m old h).live.each page live))
  where
    is_live_since : (mark : Mark) (n : ℕ) → n ≡ cond (is_pending mark) 1 0 → 1 ≤ n → is_live mark ≡ true
    is_live_since Pending n e one = refl
    is_live_since Visible n e one = absurd (omega arith)
    is_live_since Dead n e one = absurd (omega arith)

-- the marks are the same
pub marked_same : (v w : Values) (visible : List Entry) (lists : Transactions) → SameMarks v w → AreMarked v visible lists → AreMarked w visible lists
marked_same v w visible lists same h = record {
  shown = λ page. h.shown page ∙ ap {B = ℕ} (λ mark. cond (is_visible mark) 1 0) (sym (same page));
  pending = λ page. h.pending page ∙ ap {B = ℕ} (λ mark. cond (is_pending mark) 1 0) (sym (same page));
}

-- the device after a call that keeps its pages and marks
pub busy_kept : (m : Mounted) (values : Values) (old new : Flash) (ops reads : ℕ) → IsBusy m old → KeepsPages m.values old.image new.image → device_of values ≡ device_of m.values → SameMarks m.values values → Fills values new.image → HasBlock values
    → Works old new ops reads → IsBusy (record m { values = values }) new
busy_kept m values old new ops reads h keeps device marks fills block works =
    let is = image_stays m old new.image h keeps in
    let blocks = works_blocks old new ops reads works in
    let shown = is.keeps.shown in
    record {
      powered = works_powered old new ops reads works ∙ h.powered;
      taken = h.taken;
      least = subst (λ n. 256 ≤ n) (sym blocks) h.least;
      most = subst (λ n. n ≤ 2048) (sym blocks) h.most;
      whole = subst (λ n. IsWhole n new.image) (sym blocks) is.keeps.whole;
      index = subst (λ n. IsIndex m.index n new.image) (sym blocks) (index_stands m.index old.blocks old.image new.image (λ q none. keeps.outside q (λ value. none (subst (λ n. IsValueBlock n (q / 32)) h.device value))) h.index);
      device = device ∙ h.device ∙ sym blocks;
      fills = fills;
      four = h.four;
      rising = h.rising;
      valued = subst (λ n. Rattle.kssd_machine.specs.Names.are_valued n new.image m.changes ≡ true) (sym blocks) (still_valued old.blocks old.image new.image m.changes h.valued (pending_kept m old new.image h keeps));
      marked = subst (λ (es : List Entry). AreMarked values es m.changes) (sym shown) (marked_same m.values values (shown_in old.image) m.changes marks h.marked);
      block = block;
      keys = h.keys ∙ ap (λ (es : List Entry). length es) (sym shown);
      pages = h.pages ∙ ap (λ (es : List Entry). length (pages_named es)) (sym shown);
    }

pub machine_kept : (m : Mounted) (old new : Flash) (ops reads : ℕ) → IsBusy m old → KeepsPages m.values old.image new.image → Works old new ops reads → machine_of new true m.changes ≡ machine_of old true m.changes
machine_kept m old new ops reads h keeps works =
    stays old new true m.changes (works_same old new ops reads works) (objects_kept m old new h keeps)
    (pending_stays old.blocks m.values old.image new.image (shown_in old.image) m.changes h.marked h.whole.values.pages h.valued keeps)

-- ---- the victim

pub few_live : (m : Mounted) (flash : Flash) → Stands m flash → AreLists m.changes → live_count m.values ≤ 32 * (value_blocks_in (device_of m.values) - 4)
unfolding shown_in
few_live m flash h lists =
    let most = live_most m.values (shown_in flash.image) m.changes h.marked in
    let limit = within_limit flash.blocks (length (pages_named (shown_in flash.image))) (change_count m.changes) h.least h.whole.index.room.pages lists.few in
    subst (λ n. live_count m.values ≤ 32 * (value_blocks_in n - 4)) (sym h.device) (omega arith)

pub few_free : (v : Values) → free_room v ≡ 0 → has_target v ≡ false → free_count v < 3
few_free v none idle = by (has_target v) idle none
  where
    by : (b : Bool) → b ≡ false → open_room v + 32 * (free_count v - cond b 0 1) ≡ 0 → free_count v < 3
    by true e room = absurd cc
    by false e room = omega arith

-- ---- the erase

pub room_after : (r : Reclaim) (m : Mounted) (flash : Flash) (w : Values) (block : ℕ) → IsEmptied r m flash → Clears m.values block w → free_room w ≢ 0
room_after r m flash w block h clears none =
    let some = by (has_target m.values) refl in
    absurd (omega arith)
  where
    by : (b : Bool) → has_target m.values ≡ b → 1 ≤ free_room w
    by true is = room_collected m.values w block clears is h.room
    by false is = room_cleared m.values w block clears is (let one : 1 ≤ free_count m.values + 0 = subst (λ (b : Bool). 1 ≤ free_count m.values + cond b 1 0) is h.busy.block in omega arith)

-- the open block has a page then, or one more block is free
pub frees : (r : Reclaim) (m : Mounted) (flash : Flash) (w : Values) (block : ℕ) → IsEmptied r m flash → Clears m.values block w → FreesBlock m.values w
frees r m flash w block h clears = by (has_target m.values) refl
  where
    room : has_target m.values ≡ true → open_room w ≢ 0
    room has = elim (cases_eq (open_room m.values) 0) [
      | inl none ↦ let opens = clears.opens has none in λ empty. absurd (let low = h.room in let sum = opens.1 in let next = opens.0 in omega arith)
      | inr some ↦ λ empty. some (sym (clears.closes has some).room ∙ empty)
    ]

    by : (b : Bool) → has_target m.values ≡ b → FreesBlock m.values w
    by true is = inl (room is)
    by false is = inr (is, clears.free)

pub frees_since : (u v w : Values) → IsUsedTheSame u v → FreesBlock v w → FreesBlock u w
frees_since u v w same frees = elim frees [
  | inl room ↦ inl room
  | inr both ↦ inr (sym same.target ∙ both.0, both.1 ∙ ap (λ n. n + 1) same.free)
]
