-- The machine that a flash in memory is.
use Rattle.nand_mem.specs.declared.mem_nand.MemNand.{MemNand}
use Rattle.nand_mem.specs.Machine.{Mem}
use Rattle.nand_mem.specs.State.{mem_of}

-- its flash and its plans
abbrev pub mem : MemNand → Mem
mem nand = mem_of nand.state
