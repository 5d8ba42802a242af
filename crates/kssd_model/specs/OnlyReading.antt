-- What a call leaves of the flash that reads it, and programs and erases nothing.
use Rattle.std.specs.Prelude.{◌≡◌, ◌≤◌, true, false}
use Rattle.kv_nand.specs.declared.fault.FlashFault.{FlashFault}
use Rattle.kv_nand.specs.declared.fault.FlashFault.TheVariants.{Off, Failed, Memory}
use Rattle.kv_nand.specs.Flash.{Flash}
use Rattle.kv_base.specs.Counts.{one_more}

-- it did nothing but read, so that only the count of reads may have risen
pub record OnlyReads (old new : Flash) : Type 0 where
  pub after : new ≡ record old { reads = new.reads }
  pub more : old.reads ≤ new.reads

-- the fault by which it stopped: the power was off before, a read failed, or memory ran out
abbrev pub ReadStopsBy : Flash → FlashFault → Flash → Type 0
ReadStopsBy old Off new = (old.powered ≡ false) × (new ≡ record old { reads = new.reads })
ReadStopsBy old Failed new = (old.powered ≡ true) × (new ≡ record old { reads = new.reads; faults = one_more old.faults })
ReadStopsBy old Memory new = new ≡ record old { reads = new.reads }

-- it did nothing but read, and stopped by this fault
pub record StopsReading (old : Flash) (fault : FlashFault) (new : Flash) : Type 0 where
  pub after : ReadStopsBy old fault new
  pub more : old.reads ≤ new.reads
