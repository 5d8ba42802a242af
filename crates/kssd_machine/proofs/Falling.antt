-- Faults of the flash as faults of the device.
use Rattle.std.proofs.Common.{◌≡◌, ◌∙◌, ℕ, ◌≤◌, ◌⊎◌, inl, inr, true, false, sym, ap, subst}
use Rattle.kv_base.specs.Counts.{one_more}
use Rattle.kv_nand.specs.declared.fault.FlashFault.{FlashFault}
use Rattle.kv_nand.specs.declared.fault.FlashFault.TheVariants as flash
use Rattle.kv_nand.specs.Flash.{Flash, IsSound}
use Rattle.kv_nand.specs.Working.{Stops, StopsBy}
use Rattle.kssd_model.specs.OnlyReading.{StopsReading, ReadStopsBy}
use Rattle.kssd_layout.specs.Numbers.{max_keys_in, max_pages_in}
use Rattle.kv_device.specs.Machine.{Machine, none_open}
use Rattle.kv_device.specs.Objects.{Objects}
use Rattle.kv_device.specs.Calls.{has_room, IsCutOff, HasFailed, Falls, FallsReading, FallsEnding}
use Rattle.kssd_image.specs.Stages.{objects_in}
use Rattle.kssd_tx.specs.Lists.{Transactions}
use Rattle.kssd_machine.specs.Machines.{machine_of, resting}
use Rattle.kssd_machine.specs.Faults.{device_fault}

-- the device with these objects
abbrev with_objects : Flash → Objects → Transactions → Machine
with_objects flash after lists = record (machine_of flash true lists) { stable = after }

-- power was cut in it
cut_off : (old new : Flash) (lists : Transactions) (after : Objects) → IsSound new → (new.cuts ≡ one_more old.cuts) → new.blocks ≡ old.blocks → new.faults ≡ old.faults → new.most_cuts ≡ old.most_cuts → new.most_faults ≡ old.most_faults
    → objects_in new.image ≡ after → IsCutOff (with_objects old after lists) (resting new)
cut_off old new lists after sound cuts blocks faults most_cuts most_faults same = (
  (subst (λ n. new.cuts ≤ n) most_cuts sound.cuts, cuts),
  λ i. record {
    up = false;
    stable = same i;
    pending = none_open;
    cuts = new.cuts;
    faults = faults i;
    most_cuts = most_cuts i;
    most_faults = most_faults i;
    room_keys = max_keys_in (blocks i);
    room_pages = max_pages_in (blocks i);
  },
)

-- an operation of it failed
has_failed : (old new : Flash) (lists : Transactions) (after : Objects) → IsSound new → (new.faults ≡ one_more old.faults) → new.blocks ≡ old.blocks → new.cuts ≡ old.cuts → new.most_cuts ≡ old.most_cuts → new.most_faults ≡ old.most_faults
    → objects_in new.image ≡ after → HasFailed (with_objects old after lists) (resting new)
has_failed old new lists after sound faults blocks cuts most_cuts most_faults same = (
  (subst (λ n. new.faults ≤ n) most_faults sound.faults, faults),
  λ i. record {
    up = false;
    stable = same i;
    pending = none_open;
    cuts = cuts i;
    faults = new.faults;
    most_cuts = most_cuts i;
    most_faults = most_faults i;
    room_keys = max_keys_in (blocks i);
    room_pages = max_pages_in (blocks i);
  },
)

-- memory ran out in it
ran_out : (old new : Flash) (lists : Transactions) (after : Objects) → new.blocks ≡ old.blocks → new.cuts ≡ old.cuts → new.faults ≡ old.faults → new.most_cuts ≡ old.most_cuts → new.most_faults ≡ old.most_faults
    → objects_in new.image ≡ after → ◌≡◌ {A = Machine} (resting new) (record (with_objects old after lists) { up = false; pending = none_open })
ran_out old new lists after blocks cuts faults most_cuts most_faults same = λ i. record {
  up = false;
  stable = same i;
  pending = none_open;
  cuts = cuts i;
  faults = faults i;
  most_cuts = most_cuts i;
  most_faults = most_faults i;
  room_keys = max_keys_in (blocks i);
  room_pages = max_pages_in (blocks i);
}

unpowered : {P : Type 0} (old : Flash) → old.powered ≡ true → old.powered ≡ false → P
unpowered old on off = absurd (let e : true ≡ false = sym on ∙ off in cc)

pub reading : (old new : Flash) (lists : Transactions) (fault : FlashFault) → IsSound new → old.powered ≡ true → StopsReading old fault new → FallsReading (machine_of old true lists) (device_fault fault) (resting new)
reading old new lists fault sound on stop = by fault stop.after
  where
    by : (fault : FlashFault) → ReadStopsBy old fault new → FallsReading (machine_of old true lists) (device_fault fault) (resting new)
    by flash.Off h = unpowered old on h.0
    by flash.Failed h = has_failed old new lists (objects_in old.image) sound
        (ap (λ (f : Flash). f.faults) h.1) (ap (λ (f : Flash). f.blocks) h.1) (ap (λ (f : Flash). f.cuts) h.1) (ap (λ (f : Flash). f.most_cuts) h.1) (ap (λ (f : Flash). f.most_faults) h.1) (ap (λ (f : Flash). objects_in f.image) h.1)
    by flash.Memory h = ran_out old new lists (objects_in old.image)
        (ap (λ (f : Flash). f.blocks) h) (ap (λ (f : Flash). f.cuts) h) (ap (λ (f : Flash). f.faults) h) (ap (λ (f : Flash). f.most_cuts) h) (ap (λ (f : Flash). f.most_faults) h) (ap (λ (f : Flash). objects_in f.image) h)

-- whatever the objects are after it
falls : (old new : Flash) (lists : Transactions) (after : Objects) (fault : FlashFault) → IsSound new → old.powered ≡ true → StopsBy old fault new → objects_in new.image ≡ after → Falls (with_objects old after lists) (device_fault fault) (resting new)
falls old new lists after flash.Off sound on stop same = elim stop [
  | inl h ↦ unpowered old on h.0
  | inr h ↦ cut_off old new lists after sound (ap (λ (f : Flash). f.cuts) h.1) (ap (λ (f : Flash). f.blocks) h.1) (ap (λ (f : Flash). f.faults) h.1) (ap (λ (f : Flash). f.most_cuts) h.1) (ap (λ (f : Flash). f.most_faults) h.1) same
]
falls old new lists after flash.Failed sound on h same =
    has_failed old new lists after sound (ap (λ (f : Flash). f.faults) h.1) (ap (λ (f : Flash). f.blocks) h.1) (ap (λ (f : Flash). f.cuts) h.1) (ap (λ (f : Flash). f.most_cuts) h.1) (ap (λ (f : Flash). f.most_faults) h.1) same
falls old new lists after flash.Memory sound on h same =
    ran_out old new lists after (ap (λ (f : Flash). f.blocks) h) (ap (λ (f : Flash). f.cuts) h) (ap (λ (f : Flash). f.faults) h) (ap (λ (f : Flash). f.most_cuts) h) (ap (λ (f : Flash). f.most_faults) h) same

pub working : (old new : Flash) (lists : Transactions) (fault : FlashFault) (ops reads : ℕ) → IsSound new → old.powered ≡ true → Stops old fault new ops reads → objects_in new.image ≡ objects_in old.image → Falls (machine_of old true lists) (device_fault fault) (resting new)
working old new lists fault ops reads sound on stop same = falls old new lists (objects_in old.image) fault sound on stop.after same

pub ending : (old new : Flash) (lists : Transactions) (after : Objects) (fault : FlashFault) (ops reads : ℕ) → IsSound new → old.powered ≡ true → Stops old fault new ops reads
    → (objects_in new.image ≡ objects_in old.image) ⊎ (objects_in new.image ≡ after) → has_room (machine_of old true lists) after ≡ true → FallsEnding after (machine_of old true lists) (device_fault fault) (resting new)
ending old new lists after fault ops reads sound on stop which room = elim which [
  | inl same ↦ before fault (falls old new lists (objects_in old.image) fault sound on stop.after same)
  | inr made ↦ later fault (falls old new lists after fault sound on stop.after made)
]
  where
    before : (fault : FlashFault) → Falls (machine_of old true lists) (device_fault fault) (resting new) → FallsEnding after (machine_of old true lists) (device_fault fault) (resting new)
    before flash.Off h = (room, inl h)
    before flash.Failed h = inl h
    before flash.Memory h = inl h

    later : (fault : FlashFault) → Falls (with_objects old after lists) (device_fault fault) (resting new) → FallsEnding after (machine_of old true lists) (device_fault fault) (resting new)
    later flash.Off h = (room, inr h)
    later flash.Failed h = inr (room, h)
    later flash.Memory h = inr (room, h)
