-- The error of a path that can't be read.
use Rattle.kfs_path.specs.declared.call.Errno.TheVariants.{ENOENT, ENAMETOOLONG}
use Rattle.kfs_path.specs.declared.path.PathFault.{PathFault}
use Rattle.kfs_path.specs.declared.path.PathFault.TheVariants as paths
use Rattle.kfs_plain.specs.declared.fault.Fault.{Fault}
use Rattle.kfs_plain.specs.declared.fault.Fault.TheVariants.{Memory, No}

-- the fault of a call whose path isn't read
abbrev pub fault_of : PathFault → Fault
fault_of paths.NoEntry = No ENOENT
fault_of paths.NameTooLong = No ENAMETOOLONG
fault_of paths.Memory = Memory
