-- A fault of the flash among those of a scan.
use Rattle.kv_nand.specs.declared.fault.FlashFault.{FlashFault}
use Rattle.kv_nand.specs.declared.fault.FlashFault.TheVariants as flash
use Rattle.kssd_log.specs.declared.fault.ScanFault.{ScanFault}
use Rattle.kssd_log.specs.declared.fault.ScanFault.TheVariants as scans

abbrev pub scan_fault : FlashFault → ScanFault
scan_fault flash.Off = scans.Off
scan_fault flash.Failed = scans.Failed
scan_fault flash.Memory = scans.Memory
