-- A device whose index was opened or settled.
use Rattle.std.proofs.Common.{◌≡◌, ◌∙◌, ℕ, ◌+◌, ◌≤◌, ◌^◌, Bool, true, List, length, None, sym, ap, subst, arith, inl, inr}
use Rattle.kv_nand.specs.Flash.{Flash, Image}
use Rattle.kv_nand.specs.Working.{worked, Stops, StopsBy}
use Rattle.kv_nand.specs.declared.fault.FlashFault.{FlashFault}
use Rattle.kv_nand.specs.declared.fault.FlashFault.TheVariants as flash
use Rattle.kv_device.specs.Machine.{restarted}
use Rattle.kssd_model.specs.declared.anchor.Anchor.{Anchor}
use Rattle.kssd_model.specs.OnlyReading.{OnlyReads}
use Rattle.kssd_model.proofs.ReadingOn.{reads_image, reads_blocks}
use Rattle.kssd_entry.specs.declared.entry.Entry.{Entry}
use Rattle.kssd_image.specs.Stages.{shown_in, objects_in}
use Rattle.kssd_image.specs.Whole.{IsIndexOf, AreValuesWhole, IsWhole, Sound, leaves_a_block, pages_named, age_in}
use Rattle.kssd_image.specs.Damages.{IsAnchorFit}
use Rattle.kssd_frames.proofs.ShownLaws.{objects_len, shown_in_rises}
use Rattle.kssd_tx.specs.Lists.{Transactions}
use Rattle.kssd_values.specs.Places.{IsValueBlock}
use Rattle.kssd_values.specs.Blocks.{device_of}
use Rattle.kssd_index.specs.declared.index.Index.{Index}
use Rattle.kssd_root.specs.Standing.{IsAnchored, AreRuns}
use Rattle.kssd_index.specs.Standing.{IsIndex}
use Rattle.kssd_index.specs.Standing as index
use Rattle.kssd_index.specs.Costs.{zero_runs_in}
use Rattle.kssd_root.specs.Mapping.{IsKept}
use Rattle.kssd_root.proofs.Anchored.{anchor_is}
use Rattle.kssd_machine.specs.Names.{are_rising, are_valued}
use Rattle.kssd_machine.specs.Machines.{machine_of, no_lists, resting, SameCounts}
use Rattle.kssd_machine.proofs.Standing.{stays, reading_stays, mounted}
use Rattle.kssd_machine.specs.Marked.{AreMarked, HasBlock}
use Rattle.kssd_machine.proofs.Finishing.{values_whole, objects_same}
use Rattle.kssd_machine.proofs.Keeping.{opened}
use Rattle.kssd_machine.proofs.Remaining.{block_at_first}
use Rattle.kssd_recover.specs.declared.recovering.Parts.{Parts}
use Rattle.kssd_recover.specs.Parts.{AreParts}
use Rattle.kssd_recover.proofs.Judging.{fit}
use Rattle.kssd_recover.specs.Log.{IsErasedBlock}
use Rattle.kssd_mounted.specs.Standing.{Stands, Leaves}
use Rattle.kssd_mount.specs.Mounting.{IsClean, IsOnlyRead, IsSettled}
use Rattle.kssd_mount.proofs.Opening.{fills_none}

-- ---- the parts of the index

pub index_parts : (blocks : ℕ) (image : Image) (parts : Parts) → AreParts blocks image parts
    → index.AreParts (record { layout = parts.layout; page = parts.anchor_page; anchor = parts.anchor; levels = parts.levels; log = parts.log; clean = parts.clean; last_block = parts.last_block; next_seq = parts.next_seq }) blocks image
index_parts blocks image parts h = record {
  device = h.device;
  anchored = record { newest = h.found; index = subst (IsIndexOf blocks image) (anchor_is parts.anchor_page parts.anchor image h.found) h.sound.whole.index };
  runs = record { named = h.levels.infos_are; stand = h.levels.stand };
  log = h.log;
  last = h.last_block;
  next = h.next_seq;
  clean = λ is. h.clean.0 is;
}

pub parts_fit : (blocks : ℕ) (image : Image) (parts : Parts) → AreParts blocks image parts → IsAnchorFit parts.layout.blocks parts.anchor
parts_fit blocks image parts h = subst (λ (n : ℕ). IsAnchorFit n parts.anchor) (sym h.device) (fit blocks image (record { page = parts.anchor_page; anchor = parts.anchor }) h.found h.sound)

-- ---- what is kept

pub kept_whole : (blocks : ℕ) (old new : Image) → IsWhole blocks old → IsKept blocks old new → IsWhole blocks new
kept_whole blocks old new whole kept = record {
  found = kept.index.found;
  index = kept.index.index;
  values = values_whole blocks old new (shown_in new) (subst (AreValuesWhole blocks old) (sym kept.shown) whole.values) kept.values;
}

pub kept_objects : (blocks : ℕ) (old new : Image) → IsWhole blocks old → IsKept blocks old new → objects_in new ≡ objects_in old
kept_objects blocks old new whole kept = objects_same blocks old new whole.values kept.values kept.shown

-- ---- the device

marked : (blocks : ℕ) (image : Image) (parts : Parts) → AreParts blocks image parts → AreMarked parts.values (shown_in image) no_lists
marked blocks image parts h = opened blocks image parts.values (shown_in image) (shown_in_rises image) h.sound.whole.values.pages h.values.marks

has_block : (blocks : ℕ) (image : Image) (parts : Parts) → AreParts blocks image parts → HasBlock parts.values
has_block blocks image parts h =
    let device = h.values.device in
    block_at_first parts.values (shown_in image) (subst (λ (n : ℕ). leaves_a_block n (shown_in image) ≡ true) (sym device) h.sound.whole.values.spare)
    (λ block in_values. h.values.states block (subst (λ (n : ℕ). IsValueBlock n block) device in_values))

pub stands : (old new : Flash) (parts : Parts) (index : Index) (changes : Transactions) → 256 ≤ old.blocks → old.blocks ≤ 2048 → old.powered ≡ true → AreParts old.blocks old.image parts → changes ≡ no_lists → IsSettled parts.clean old new → new ≡ worked old new
    → IsIndex index new.blocks new.image → Stands (record { index = index; values = parts.values; changes = changes; collection = None; keys = parts.keys; pages = parts.pages }) new
stands old new parts index changes least most on h none settled worked_ standing =
    let same : new.blocks ≡ old.blocks = ap (λ (f : Flash). f.blocks) worked_ in
    let device : device_of parts.values ≡ old.blocks = h.values.device in
    record {
      powered = ap (λ (f : Flash). f.powered) worked_ ∙ on;
      least = subst (λ (n : ℕ). 256 ≤ n) (sym same) least;
      most = subst (λ (n : ℕ). n ≤ 2048) (sym same) most;
      whole = subst (λ (n : ℕ). IsWhole n new.image) (sym same) (kept_whole old.blocks old.image new.image h.sound.whole settled.kept);
      index = standing;
      device = device ∙ sym same;
      fills = fills_none parts.values (pages_named (shown_in old.image)) new.image (λ block in_values. h.values.states block (subst (λ (n : ℕ). IsValueBlock n block) device in_values)) h.values.target;
      collecting = h.values.target;
      four = ap length none;
      rising = ap are_rising none;
      valued = ap (are_valued new.blocks new.image) none;
      marked = subst (AreMarked parts.values (shown_in new.image)) (sym none) (subst (λ (es : List Entry). AreMarked parts.values es no_lists) (sym settled.kept.shown) (marked old.blocks old.image parts h));
      block = has_block old.blocks old.image parts h;
      keys = h.keys ∙ objects_len old.image ∙ ap length (sym settled.kept.shown);
      pages = h.pages ∙ ap (λ (es : List Entry). length (pages_named es)) (sym settled.kept.shown);
    }

-- ---- what a mount leaves

stops_by_blocks : (old new : Flash) (fault : FlashFault) → StopsBy old fault new → new.blocks ≡ old.blocks
stops_by_blocks old new flash.Off stop = elim stop [
  | inl h ↦ ap (λ (f : Flash). f.blocks) h.1
  | inr h ↦ ap (λ (f : Flash). f.blocks) h.1
]
stops_by_blocks old new flash.Failed stop = ap (λ (f : Flash). f.blocks) stop.1
stops_by_blocks old new flash.Memory stop = ap (λ (f : Flash). f.blocks) stop

pub stops_blocks : (old new : Flash) (fault : FlashFault) (ops reads : ℕ) → Stops old fault new ops reads → new.blocks ≡ old.blocks
stops_blocks old new fault ops reads stop = stops_by_blocks old new fault stop.after

-- the same image in a flash that was read
settled_since : (old mid new : Flash) (clean : Bool) → OnlyReads old mid → IsSettled clean mid new → IsSettled clean old new
settled_since old mid new clean read h =
    let blocks = reads_blocks old mid read in
    let image = reads_image old mid read in
    record {
      blocks = h.blocks ∙ blocks;
      kept = subst (λ (p : ℕ × Image). IsKept p.0 p.1 new.image) (λ i. (blocks i, image i)) h.kept;
      age = subst (λ (im : Image). age_in new.image ≤ age_in im + 3) image h.age;
      idle = λ is. let idle = h.idle is in record { image = idle.image ∙ image; ops = idle.ops ∙ ap (λ (f : Flash). f.ops) read.after };
    }

pub leaves : (old mid new : Flash) (clean : Bool) → Sound old.blocks old.image → OnlyReads old mid → IsSettled clean mid new → Leaves old (age_in old.image + 2 ^ 20) new
leaves old mid new clean sound read h =
    let since = settled_since old mid new clean read h in
    let age = since.age in
    record {
      blocks = since.blocks;
      whole = subst (λ (n : ℕ). IsWhole n new.image) (sym since.blocks) (kept_whole old.blocks old.image new.image sound.whole since.kept);
      age_is = omega arith;
    }

pub objects_stay : (old mid new : Flash) (clean : Bool) → Sound old.blocks old.image → OnlyReads old mid → IsSettled clean mid new → objects_in new.image ≡ objects_in old.image
objects_stay old mid new clean sound read h = kept_objects old.blocks old.image new.image sound.whole (settled_since old mid new clean read h).kept

pub idle : (old mid new : Flash) (parts : Parts) → AreParts old.blocks old.image parts → OnlyReads old mid → IsSettled parts.clean mid new → IsClean old.image → IsOnlyRead old new
idle old mid new parts are read h clean =
    let at = anchor_is parts.anchor_page parts.anchor old.image are.found in
    let erased : IsErasedBlock old.image parts.anchor.log_block = subst (λ (a : Anchor). IsErasedBlock old.image a.log_block) at clean in
    (settled_since old mid new parts.clean read h).idle (are.clean.1 erased)

pub machine_is : (old mid new : Flash) (clean : Bool) (changes : Transactions) → Sound old.blocks old.image → OnlyReads old mid → IsSettled clean mid new → SameCounts mid new → changes ≡ no_lists → machine_of new true changes ≡ restarted (resting old)
machine_is old mid new clean changes sound read h counts none =
    let objects = objects_stay old mid new clean sound read h ∙ sym (ap objects_in (reads_image old mid read)) in
    ap (machine_of new true) none ∙ stays mid new true no_lists counts objects (λ page some. absurd (omega arith)) ∙ reading_stays old mid true no_lists read ∙ mounted old

-- ---- its operations

-- few operations where level 0 has place, also behind mere reading
pub usual_then : (old mid new : Flash) (cost : ℕ) → OnlyReads old mid → (zero_runs_in mid.image ≤ 3 → new.ops ≤ mid.ops + cost) → zero_runs_in old.image ≤ 3 → new.ops ≤ old.ops + cost
usual_then old mid new cost reads bound low =
    let first = ap (λ (f : Flash). f.ops) reads.after in
    omega (arith, first, bound (subst (λ (image : Image). zero_runs_in image ≤ 3) (sym (reads_image old mid reads)) low))
