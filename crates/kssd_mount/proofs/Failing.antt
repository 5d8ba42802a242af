-- A fault that met a mount while the log was settled.
use Rattle.std.proofs.Common.{◌≡◌, ◌∙◌, ℕ, true, sym, ap, subst, inr}
use Rattle.kv_nand.specs.declared.fault.FlashFault.{FlashFault}
use Rattle.kv_nand.specs.declared.fault.FlashFault.TheVariants as flash
use Rattle.kv_nand.specs.Faults.{mount_fault}
use Rattle.kv_nand.specs.Flash.{Flash, IsSound}
use Rattle.kv_nand.specs.Working.{Stops}
use Rattle.kv_device.specs.Machine.{Machine}
use Rattle.kv_device.specs.Calls.{Falls}
use Rattle.kssd_model.specs.OnlyReading.{OnlyReads}
use Rattle.kssd_model.proofs.ReadingOn.{reads_image}
use Rattle.kssd_image.specs.Stages.{objects_in}
use Rattle.kssd_machine.specs.Machines.{no_lists, resting}
use Rattle.kssd_machine.specs.Faults.{device_fault}
use Rattle.kssd_machine.proofs.Falling.{working}
use Rattle.kssd_machine.proofs.Standing.{mounted, reading_stays}
use Rattle.kssd_mount.specs.Mounting.{FallsBy, FailsMounting}

fell_working : (old mid new : Flash) (fault : FlashFault) (ops reads : ℕ) → IsSound new → old.powered ≡ true → OnlyReads old mid → Stops mid fault new ops reads → objects_in new.image ≡ objects_in old.image → FallsBy old (device_fault fault) new
fell_working old mid new fault ops reads sound on read stop same =
    let powered : mid.powered ≡ true = ap (λ (f : Flash). f.powered) read.after ∙ on in
    subst (λ (m : Machine). Falls m (device_fault fault) (resting new)) (reading_stays old mid true no_lists read ∙ mounted old) (working mid new no_lists fault ops reads sound powered stop (same ∙ sym (ap objects_in (reads_image old mid read))))

pub settling_fails : (old mid new : Flash) (fault : FlashFault) (ops reads : ℕ) → IsSound new → old.powered ≡ true → OnlyReads old mid → Stops mid fault new ops reads → objects_in new.image ≡ objects_in old.image → FailsMounting old (mount_fault fault) new
settling_fails old mid new flash.Off ops reads sound on read stop same = inr (on, fell_working old mid new flash.Off ops reads sound on read stop same)
settling_fails old mid new flash.Failed ops reads sound on read stop same = (on, fell_working old mid new flash.Failed ops reads sound on read stop same)
settling_fails old mid new flash.Memory ops reads sound on read stop same = fell_working old mid new flash.Memory ops reads sound on read stop same
