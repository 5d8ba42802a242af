-- What a call that makes several operations leaves of the flash, and how many it began.
use Rattle.std.specs.Prelude.{◌≡◌, ◌⊎◌, ◌≤◌, ◌+◌, ◌-◌, ◌^◌, ℕ, min, true, false}
use Rattle.kv_nand.specs.declared.fault.FlashFault.{FlashFault}
use Rattle.kv_nand.specs.declared.fault.FlashFault.TheVariants.{Off, Failed, Memory}
use Rattle.kv_nand.specs.Flash.{Flash}
use Rattle.kv_base.specs.Counts.{one_more}

-- the count of operations after exactly so many more, which stays at 2^64 - 1
abbrev pub ops_more : Flash → ℕ → ℕ
ops_more f n = min (f.ops + n) (2 ^ 64 - 1)

-- the count of reads after exactly so many more, which stays at 2^64 - 1
abbrev pub reads_more : Flash → ℕ → ℕ
reads_more f n = min (f.reads + n) (2 ^ 64 - 1)

-- at most so many operations and reads were begun, and no count fell
pub record Counts (old new : Flash) (ops reads : ℕ) : Type 0 where
  pub ops_at_most : new.ops ≤ old.ops + ops
  pub ops_at_least : old.ops ≤ new.ops
  pub reads_at_most : new.reads ≤ old.reads + reads
  pub reads_at_least : old.reads ≤ new.reads

-- only the image and the counts of reads and operations differ
abbrev pub worked : Flash → Flash → Flash
worked old new = record old { image = new.image; reads = new.reads; ops = new.ops }

-- it worked with at most so many operations and reads, and nothing else changed
pub record Works (old new : Flash) (ops reads : ℕ) : Type 0 where
  pub after : new ≡ worked old new
  pub counts : Counts old new ops reads

-- it worked, and then stopped by this fault
abbrev pub StopsBy : Flash → FlashFault → Flash → Type 0
StopsBy old Off new =
    ((old.powered ≡ false) × (new ≡ worked old new))
    ⊎ ((old.powered ≡ true) × (new ≡ record (worked old new) { powered = false; cuts = one_more old.cuts }))
StopsBy old Failed new = (old.powered ≡ true) × (new ≡ record (worked old new) { faults = one_more old.faults })
StopsBy old Memory new = new ≡ worked old new

-- it stopped by this fault within so many operations and reads, the one that fell counted
pub record Stops (old : Flash) (fault : FlashFault) (new : Flash) (ops reads : ℕ) : Type 0 where
  pub after : StopsBy old fault new
  pub counts : Counts old new ops reads
