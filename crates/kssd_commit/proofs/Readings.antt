-- An end whose call reads before it writes.
use Rattle.std.proofs.Common.{◌≡◌, ◌∙◌, ℕ, ◌≤◌, false, None, sym, ap, subst}
use Rattle.kv_nand.specs.declared.fault.FlashFault.{FlashFault}
use Rattle.kv_nand.specs.Flash.{Flash}
use Rattle.kv_device.specs.Machine.{Machine}
use Rattle.kv_device.specs.Calls.{EndDone, EndFault}
use Rattle.kv_device.specs.declared.fault.DeviceFault.{DeviceFault}
use Rattle.kv_device.specs.declared.fault.DeviceFault.TheVariants as faults
use Rattle.kssd_model.specs.OnlyReading.{OnlyReads, StopsReading}
use Rattle.kssd_tx.specs.Refusals.{tx_refusal}
use Rattle.kssd_machine.proofs.Finishing.{full}
use Rattle.kssd_mounted.specs.declared.mounted.Mounted.{Mounted}
use Rattle.kssd_mounted.specs.Standing.{Stands, Leaves, mounted_age, machine_at}
use Rattle.kssd_mounted.proofs.Staying.{leaves_image, stopped_left}
use Rattle.kssd_commit.proofs.Leaving.{left_within}
use Rattle.kssd_commit.specs.declared.judging.Judged.{Judged}
use Rattle.kssd_commit.specs.Judging.{IsJudged, is_room_for}

-- a read that stops leaves the image
pub left_reading : (m : Mounted) (old new : Flash) (fault : FlashFault) (age : ℕ) → Stands m old → mounted_age m ≤ age → StopsReading old fault new → Leaves old age new
left_reading m old new fault age stands high stops =
    let same = stopped_left old new fault stops in
    left_within old new (mounted_age m) age (leaves_image m old new same.1 same.0 stands) high

-- ---- what is said of the flash after reads, of that before them

module _ (m : Mounted) (old mid : Flash) (reads : OnlyReads old mid) where
  pub done_before : (tx : ℕ) (new : Machine) → EndDone (machine_at mid m) tx new → EndDone (machine_at old m) tx new
  done_before tx new h = let P : Flash → Type 0 = λ f. EndDone (machine_at f m) tx new in subst P reads.after h

  pub fault_before : (tx : ℕ) (fault : DeviceFault) (new : Machine) → EndFault (machine_at mid m) tx fault new → EndFault (machine_at old m) tx fault new
  fault_before tx fault new h = let P : Flash → Type 0 = λ f. EndFault (machine_at f m) tx fault new in subst P reads.after h

  pub leaves_before : (new : Flash) (age : ℕ) → Leaves mid age new → Leaves old age new
  leaves_before new age h = record { blocks = h.blocks ∙ ap (λ (f : Flash). f.blocks) reads.after; whole = h.whole; age_is = h.age_is }

  -- there is no room
  pub full_before : (tx : ℕ) (judged : Judged) (blocks : ℕ) → tx_refusal m.changes tx ≡ None → IsJudged judged m tx mid → blocks ≡ mid.blocks → is_room_for blocks judged.keys judged.pages ≡ false
      → EndFault (machine_at old m) tx (faults.Full judged.keys judged.pages) (machine_at mid m)
  full_before tx judged blocks open_ is same room =
      fault_before tx (faults.Full judged.keys judged.pages) (machine_at mid m)
      (full mid m.changes tx judged.keys judged.pages open_ is.keys is.pages (ap (λ n. is_room_for n judged.keys judged.pages) (sym same) ∙ room))
