-- Reads one after another.
use Rattle.std.proofs.Common.{◌≡◌, ◌∙◌, ℕ, ◌≤◌, ◌<◌, ◌^◌, List, refl, ap, sym, arith}
use Rattle.kv_nand.specs.declared.fault.NandFault.{NandFault}
use Rattle.kv_nand.specs.declared.fault.NandFault.TheVariants as nand_faults
use Rattle.kv_nand.specs.declared.fault.FlashFault.{FlashFault}
use Rattle.kv_nand.specs.declared.fault.FlashFault.TheVariants as flash_faults
use Rattle.kv_nand.specs.Faults.{flash_fault}
use Rattle.kv_nand.specs.Flash.{Flash, IsSound}
use Rattle.kv_base.specs.Counts.{one_more}
use Rattle.kv_nand.specs.Calls.{has_read, ReadFault}
use Rattle.kssd_model.specs.OnlyReading.{OnlyReads, ReadStopsBy, StopsReading}

one_more_at_least : (n : ℕ) → n < 2 ^ 64 → n ≤ one_more n
one_more_at_least n h = omega arith

pub reads_still : (old : Flash) → OnlyReads old old
reads_still old = record { after = refl; more = omega arith }

pub reads_then_reads : (a b c : Flash) → OnlyReads a b → OnlyReads b c → OnlyReads a c
reads_then_reads a b c ab bc = record {
  after = bc.after ∙ (λ i. record (ab.after i) { reads = c.reads });
  more = omega (arith, ab.more, bc.more);
}

pub reads_then_stops : (a b c : Flash) (fault : FlashFault) → OnlyReads a b → StopsReading b fault c → StopsReading a fault c
reads_then_stops a b c fault ab bc = record { after = by fault bc.after; more = omega (arith, ab.more, bc.more) }
  where
    on : b.powered ≡ a.powered
    on = ap (λ f. f.powered) ab.after

    by : (fault : FlashFault) → ReadStopsBy b fault c → ReadStopsBy a fault c
    by flash_faults.Off h = (sym on ∙ h.0, h.1 ∙ (λ i. record (ab.after i) { reads = c.reads }))
    by flash_faults.Failed h = (sym on ∙ h.0, h.1 ∙ (λ i. record (ab.after i) { reads = c.reads; faults = one_more (ab.after i).faults }))
    by flash_faults.Memory h = h ∙ (λ i. record (ab.after i) { reads = c.reads })

-- one page was read
pub one_read : (old new : Flash) → IsSound old → new ≡ has_read old → OnlyReads old new
one_read old new sound e = record {
  after = e ∙ (λ i. record old { reads = (sym e i).reads });
  more = omega (arith, ap (λ f. f.reads) e, one_more_at_least old.reads sound.reads);
}

-- the read of one page fell
pub read_falls : (old new : Flash) (before filled : List ℕ) (fault : NandFault) → IsSound old → ReadFault old before fault filled new → StopsReading old (flash_fault fault) new
read_falls old new before filled nand_faults.Off sound h = record {
  after = (h.0, h.1 ∙ (λ i. record old { reads = (sym h.1 i).reads }));
  more = omega (arith, ap (λ f. f.reads) h.1);
}
read_falls old new before filled nand_faults.Failed sound h = record {
  after = (h.0, h.1 ∙ (λ i. record old { reads = (sym h.1 i).reads; faults = one_more old.faults }));
  more = omega (arith, ap (λ f. f.reads) h.1, one_more_at_least old.reads sound.reads);
}

-- memory ran out, and nothing was read
pub stops_unread : (old : Flash) → StopsReading old flash_faults.Memory old
stops_unread old = record { after = refl; more = omega arith }

-- the image and the blocks are as they were
pub reads_image : (old new : Flash) → OnlyReads old new → new.image ≡ old.image
reads_image old new h = ap (λ f. f.image) h.after

pub reads_blocks : (old new : Flash) → OnlyReads old new → new.blocks ≡ old.blocks
reads_blocks old new h = ap (λ f. f.blocks) h.after

pub stops_image : (old new : Flash) (fault : FlashFault) → StopsReading old fault new → new.image ≡ old.image
stops_image old new fault h = by fault h.after
  where
    by : (fault : FlashFault) → ReadStopsBy old fault new → new.image ≡ old.image
    by flash_faults.Off p = ap (λ f. f.image) p.1
    by flash_faults.Failed p = ap (λ f. f.image) p.1
    by flash_faults.Memory p = ap (λ f. f.image) p
