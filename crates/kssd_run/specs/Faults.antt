-- A fault of the flash among those of opening a run.
use Rattle.kv_nand.specs.declared.fault.FlashFault.{FlashFault}
use Rattle.kv_nand.specs.declared.fault.FlashFault.TheVariants as flash
use Rattle.kssd_run.specs.declared.fault.RunFault.{RunFault}
use Rattle.kssd_run.specs.declared.fault.RunFault.TheVariants as run

abbrev pub run_fault : FlashFault → RunFault
run_fault flash.Off = run.Off
run_fault flash.Failed = run.Failed
run_fault flash.Memory = run.Memory
