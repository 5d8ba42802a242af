-- What stays of a device that is up.
use Rattle.std.proofs.Common.{◌≡◌, ◌≤◌, ◌∙◌, ℕ, true, false, not, cond, List, length, map, take, Option, Some, None, option_map, is_some, sym, ap, subst, refl}
use Rattle.std.specs.FinMap as objects
use Rattle.kv_base.specs.declared.pairs.Pair.{Pair}
use Rattle.kv_nand.specs.declared.fault.FlashFault.{FlashFault}
use Rattle.kv_nand.specs.declared.fault.FlashFault.TheVariants.{Off, Failed, Memory}
use Rattle.kv_device.specs.Machine.{view}
use Rattle.kv_device.specs.Objects.{pair_of, pairs_from}
use Rattle.kv_device.specs.Calls.{GetDone, IterateDone, ReadFault}
use Rattle.kv_device.specs.declared.fault.DeviceFault.{DeviceFault}
use Rattle.kv_nand.specs.Flash.{Flash, Image, IsSound}
use Rattle.kssd_model.specs.OnlyReading.{OnlyReads, StopsReading}
use Rattle.kssd_image.specs.Stages.{shown_in}
use Rattle.kssd_image.specs.Whole.{age_in, age_of, IsWhole}
use Rattle.kssd_tx.specs.declared.fault.TxFault.TheVariants as tx_faults
use Rattle.kssd_tx.specs.Lists.{Transactions, list_of}
use Rattle.kssd_tx.specs.Refusals.{tx_refusal}
use Rattle.kssd_values.specs.Blocks.{is_live_at}
use Rattle.kssd_values.specs.Changes.{SamePlaces}
use Rattle.kssd_index.specs.declared.index.Index.{Index}
use Rattle.kssd_index.specs.Standing.{IsIndex, index_age}
use Rattle.kssd_machine.specs.Names.{are_rising, are_valued}
use Rattle.kssd_machine.specs.Marked.{AreMarked}
use Rattle.kssd_machine.specs.Machines.{machine_of, resting}
use Rattle.kssd_machine.specs.Faults.{device_fault}
use Rattle.kssd_machine.specs.Calling.{tx_fault}
use Rattle.kssd_machine.proofs.Remaining.{block_after_mark}
use Rattle.kssd_machine.proofs.Standing.{reading_stays}
use Rattle.kssd_machine.proofs.Transacting.{first_is, reading_fallen}
use Rattle.kssd_machine.proofs.Falling.{reading}
use Rattle.kssd_mounted.specs.declared.mounted.Mounted.{Mounted}
use Rattle.kssd_mounted.specs.Collections.{CollectsIn}
use Rattle.kssd_mounted.specs.Standing.{Stands, Leaves, mounted_age, machine_at, machine_after, takes_down}
use Rattle.kssd_mounted.proofs.Bearing.{collection_stays, bears_marks}

-- a flash after mere reading
read_at : (m : Mounted) (old : Flash) (reads : ℕ) → Stands m old → Stands m (record old { reads = reads })
read_at m old reads stands = record {
  powered = stands.powered;
  least = stands.least;
  most = stands.most;
  whole = stands.whole;
  index = stands.index;
  device = stands.device;
  fills = stands.fills;
  collecting = stands.collecting;
  four = stands.four;
  rising = stands.rising;
  valued = stands.valued;
  marked = stands.marked;
  block = stands.block;
  keys = stands.keys;
  pages = stands.pages;
}

pub stands_reading : (m : Mounted) (old new : Flash) → OnlyReads old new → Stands m old → Stands m new
stands_reading m old new reads stands = subst (Stands m) (sym reads.after) (read_at m old new.reads stands)

-- the age of an image is that of its index at most
index_is_old : (index : Index) (blocks : ℕ) (image : Image) → IsIndex index blocks image → age_in image ≤ index_age index
unfolding age_in
index_is_old index blocks image stands = subst (λ n. n ≤ index_age index) (sym (ap (age_of image) stands.root.anchored.newest)) stands.numbers

-- a mount takes what stands, also after calls that leave the image
pub leaves_image : (m : Mounted) (old new : Flash) → new.blocks ≡ old.blocks → new.image ≡ old.image → Stands m old → Leaves old (mounted_age m) new
leaves_image m old new blocks image stands = record {
  blocks = blocks;
  whole = subst (λ n. IsWhole n new.image) (sym blocks) (subst (IsWhole old.blocks) (sym image) stands.whole);
  age_is = subst (λ i. age_in i ≤ mounted_age m) (sym image) (index_is_old m.index old.blocks old.image stands.index);
}

-- other changes, and marks with which no page comes to life, with the same index, counts and collection
pub restands : (old new : Mounted) (flash : Flash) → Stands old flash → new.index ≡ old.index → SamePlaces old.values new.values → length new.changes ≡ 4 → are_rising new.changes ≡ true
    → are_valued flash.blocks flash.image new.changes ≡ true → AreMarked new.values (shown_in flash.image) new.changes → new.keys ≡ old.keys → new.pages ≡ old.pages
    → new.collection ≡ old.collection → ((page : ℕ) → is_live_at new.values page ≡ true → is_live_at old.values page ≡ true) → Stands new flash
restands old new flash stands index places four rising valued marked keys pages under_way less = record {
  powered = stands.powered;
  least = stands.least;
  most = stands.most;
  whole = stands.whole;
  index = subst (λ i. IsIndex i flash.blocks flash.image) (sym index) stands.index;
  device = places.device ∙ stands.device;
  fills = places.fills flash.image stands.fills;
  collecting = subst (λ c. CollectsIn c new.values flash.image) (sym under_way) (collection_stays old.collection old.values new.values flash.image flash.image stands.collecting (bears_marks old.values new.values flash.image places (λ page where_. less page)));
  four = four;
  rising = rising;
  valued = valued;
  marked = marked;
  block = block_after_mark old.values new.values places stands.block;
  keys = keys ∙ stands.keys;
  pages = pages ∙ stands.pages;
}

-- ---- calls that read

-- a call that stopped left the image and the blocks
pub stopped_left : (old new : Flash) (fault : FlashFault) → StopsReading old fault new → (new.image ≡ old.image) × (new.blocks ≡ old.blocks)
stopped_left old new Off stops = (ap (λ f. f.image) stops.after.1, ap (λ f. f.blocks) stops.after.1)
stopped_left old new Failed stops = (ap (λ f. f.image) stops.after.1, ap (λ f. f.blocks) stops.after.1)
stopped_left old new Memory stops = (ap (λ f. f.image) stops.after, ap (λ f. f.blocks) stops.after)

pub device_fault_down : (fault : FlashFault) → takes_down (device_fault fault) ≡ true
device_fault_down Off = refl
device_fault_down Failed = refl
device_fault_down Memory = refl

pub get_done : (m : Mounted) (old new : Flash) (tx : ℕ) (key : List ℕ) (value : Option (List ℕ)) → Stands m old → OnlyReads old new → tx_refusal m.changes tx ≡ None → value ≡ objects.get (view (machine_of old true m.changes) tx) key → GetDone (machine_at old m) tx key value (machine_at new m)
get_done m old new tx key value stands reads allowed found = record {
  allowed = first_is old m.changes tx ∙ ap (option_map tx_fault) allowed;
  found = found;
  after = reading_stays old new true m.changes reads;
}

pub iterate_done : (m : Mounted) (old new : Flash) (tx : ℕ) (from prefix : List ℕ) (at_most : ℕ) (pairs : List Pair) → Stands m old → OnlyReads old new → tx_refusal m.changes tx ≡ None → map pair_of pairs ≡ take at_most (pairs_from (view (machine_of old true m.changes) tx) from prefix)
    → IterateDone (machine_at old m) tx from prefix at_most pairs (machine_at new m)
iterate_done m old new tx from prefix at_most pairs stands reads allowed found = record {
  allowed = first_is old m.changes tx ∙ ap (option_map tx_fault) allowed;
  found = found;
  after = reading_stays old new true m.changes reads;
}

pub open_is_allowed : (lists : Transactions) (tx : ℕ) → is_some (list_of lists tx) ≡ true → tx_refusal lists tx ≡ None
open_is_allowed lists tx is = ap (λ b. cond (not b) (Some tx_faults.NoTx) None) is

pub read_fallen : (m : Mounted) (old new : Flash) (tx : ℕ) (fault : FlashFault) (result : DeviceFault) → IsSound new → Stands m old → tx_refusal m.changes tx ≡ None → StopsReading old fault new → result ≡ device_fault fault → ReadFault (machine_at old m) tx result (machine_after result new m)
read_fallen m old new tx fault result sound stands allowed stops is =
    let at : machine_after (device_fault fault) new m ≡ resting new = ap (λ b. cond b (resting new) (machine_at new m)) (device_fault_down fault) in
    subst (λ f. ReadFault (machine_at old m) tx f (machine_after f new m)) (sym is)
    (subst (ReadFault (machine_at old m) tx (device_fault fault)) (sym at) (reading_fallen old m.changes tx (device_fault fault) (resting new) allowed (reading old new m.changes fault sound stands.powered stops)))

pub down_is_up : {P : Type 0} (fault : FlashFault) (result : DeviceFault) → result ≡ device_fault fault → takes_down result ≡ false → P
down_is_up fault result is up = absurd (let e : true ≡ false = sym (device_fault_down fault) ∙ ap takes_down (sym is) ∙ up in cc)

pub reads_left : (old new : Flash) → OnlyReads old new → (new.image ≡ old.image) × (new.blocks ≡ old.blocks)
reads_left old new reads = (ap (λ f. f.image) reads.after, ap (λ f. f.blocks) reads.after)

-- it did no operation
pub ops_read : (old new : Flash) → OnlyReads old new → new.ops ≡ old.ops
ops_read old new reads = ap (λ f. f.ops) reads.after

pub ops_stopped : (old new : Flash) (fault : FlashFault) → StopsReading old fault new → new.ops ≡ old.ops
ops_stopped old new Off stops = ap (λ f. f.ops) stops.after.1
ops_stopped old new Failed stops = ap (λ f. f.ops) stops.after.1
ops_stopped old new Memory stops = ap (λ f. f.ops) stops.after
