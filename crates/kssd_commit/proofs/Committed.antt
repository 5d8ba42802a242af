-- What a group of a transaction's changes leaves, done or stopped.
use Rattle.std.proofs.Common.{◌≡◌, ◌∙◌, ◌⊎◌, inl, inr, ℕ, ◌≤◌, true, None, List, sym, ap, subst}
use Rattle.kv_nand.specs.declared.fault.FlashFault.{FlashFault}
use Rattle.kv_nand.specs.Flash.{Flash, IsSound}
use Rattle.kv_nand.specs.Working.{Works, Stops}
use Rattle.kv_device.specs.Machine.{view}
use Rattle.kv_device.specs.Calls.{has_room, EndDone, EndFault}
use Rattle.kssd_entry.specs.declared.entry.Entry.{Entry}
use Rattle.kssd_image.specs.Stages.{shown_in, objects_in}
use Rattle.kssd_image.specs.Whole.{IsWhole, age_in}
use Rattle.kssd_frames.specs.Logging.{shown_after, IsRoomAfter}
use Rattle.kssd_root.specs.Mapping.{SameValues, IsBeforeOrAfter}
use Rattle.kssd_tx.specs.Lists.{Transactions, changes_of, with_list}
use Rattle.kssd_tx.specs.Refusals.{tx_refusal}
use Rattle.kssd_machine.specs.Machines.{machine_of, resting}
use Rattle.kssd_machine.specs.Faults.{device_fault}
use Rattle.kssd_machine.proofs.Standing.{works_same}
use Rattle.kssd_machine.proofs.Transacting.{ending_fallen}
use Rattle.kssd_machine.proofs.Seeing.{view_is}
use Rattle.kssd_machine.proofs.Finishing.{objects_after, objects_either, whole_either, pending_kept, ends}
use Rattle.kssd_machine.proofs.Valuing.{valued_closed}
use Rattle.kssd_machine.proofs.Falling.{ending}
use Rattle.kssd_mounted.specs.declared.mounted.Mounted.{Mounted}
use Rattle.kssd_mounted.specs.Standing.{Stands, Leaves, machine_at}

module _ (m : Mounted) (old : Flash) (tx : ℕ) (stands : Stands m old) (room : IsRoomAfter old.blocks old.image (changes_of m.changes tx)) where
  -- a mount takes the image, before the group or after it
  pub whole_then : (new : Flash) (entries : List Entry) → entries ≡ changes_of m.changes tx → IsBeforeOrAfter old.blocks old.image entries new.image → IsWhole old.blocks new.image
  whole_then new entries is either =
      let either_ = subst (λ (es : List Entry). IsBeforeOrAfter old.blocks old.image es new.image) is either in
      record {
        found = either_.index.found;
        index = either_.index.index;
        values = whole_either old.blocks old.image new.image (changes_of m.changes tx) stands.whole.values room.values either_.values either_.shown;
      }

  pub leaves_then : (new : Flash) (entries : List Entry) (age : ℕ) → entries ≡ changes_of m.changes tx → new.blocks ≡ old.blocks → IsBeforeOrAfter old.blocks old.image entries new.image → age_in new.image ≤ age → Leaves old age new
  leaves_then new entries age is blocks either aged = record {
    blocks = blocks;
    whole = subst (λ n. IsWhole n new.image) (sym blocks) (whole_then new entries is either);
    age_is = aged;
  }

  -- a fault of the flash is one of the end
  pub stopped : (new : Flash) (entries : List Entry) (fault : FlashFault) (ops reads : ℕ) → IsSound new → tx_refusal m.changes tx ≡ None → has_room (machine_at old m) (view (machine_at old m) tx) ≡ true → entries ≡ changes_of m.changes tx
      → Stops old fault new ops reads → IsBeforeOrAfter old.blocks old.image entries new.image → EndFault (machine_at old m) tx (device_fault fault) (resting new)
  stopped new entries fault ops reads sound open_ roomy is stops either =
      let either_ = subst (λ (es : List Entry). IsBeforeOrAfter old.blocks old.image es new.image) is either in
      let objects_ = objects_either old.blocks old.image new.image (changes_of m.changes tx) stands.whole.values room.values.pages either_.values either_.shown in
      let which : (objects_in new.image ≡ objects_in old.image) ⊎ (objects_in new.image ≡ view (machine_at old m) tx) = elim objects_ [
        | inl same ↦ inl same
        | inr made ↦ inr (made ∙ sym (view_is old m.changes tx))
      ] in
      ending_fallen old m.changes tx (device_fault fault) (resting new) open_ (ending old new m.changes (view (machine_at old m) tx) fault ops reads sound stands.powered stops which roomy)

  -- the end is done
  pub done : (new : Flash) (entries : List Entry) (lists : Transactions) (ops reads : ℕ) → tx_refusal m.changes tx ≡ None → has_room (machine_at old m) (view (machine_at old m) tx) ≡ true → entries ≡ changes_of m.changes tx → lists ≡ with_list m.changes tx None
      → Works old new ops reads → SameValues old.blocks old.image new.image → shown_in new.image ≡ shown_after old.image entries → EndDone (machine_at old m) tx (machine_of new true lists)
  done new entries lists ops reads open_ roomy is closed works same shown =
      let shown_ = shown ∙ ap (shown_after old.image) is in
      let objects_ = objects_after old.blocks old.image new.image (changes_of m.changes tx) room.values.pages same shown_ ∙ sym (view_is old m.changes tx) in
      let pending = pending_kept old.blocks old.image new.image (with_list m.changes tx None) (valued_closed old.blocks old.image m.changes tx stands.valued) same in
      subst (λ (l : Transactions). EndDone (machine_at old m) tx (machine_of new true l)) (sym closed)
      (ends old new m.changes tx open_ roomy (works_same old new ops reads works) objects_ pending)
