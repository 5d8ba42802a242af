-- Operations one after another.
use Rattle.std.specs.Prelude.{OnOk, IfErr}
use Rattle.std.proofs.Common.{◌≡◌, ◌∙◌, ℕ, ◌+◌, ◌≤◌, List, Result, Ok, Err, refl, ap, sym, arith, ◌<◌, ◌^◌, inl, inr, true, false}
use Rattle.kv_nand.specs.declared.fault.NandFault.{NandFault}
use Rattle.kv_nand.specs.declared.fault.NandFault.TheVariants as nand_faults
use Rattle.kv_nand.specs.declared.fault.FlashFault.{FlashFault}
use Rattle.kv_nand.specs.declared.fault.FlashFault.TheVariants as flash_faults
use Rattle.kv_nand.specs.Faults.{flash_fault}
use Rattle.kv_nand.specs.Flash.{Flash, IsSound}
use Rattle.kv_base.specs.Counts.{one_more}
use Rattle.kv_nand.specs.Calls.{Falls, programmed, erased, has_read, ReadFault}
use Rattle.kv_nand.specs.Working.{Counts, Works, Stops, StopsBy, worked, ops_more, reads_more}

one_more_at_most : (n : ℕ) → one_more n ≤ n + 1
one_more_at_most n = omega arith

one_more_at_least : (n : ℕ) → n < 2 ^ 64 → n ≤ one_more n
one_more_at_least n h = omega arith

pub counts_then_counts : (a b c : Flash) (ops reads more_ops more_reads : ℕ) → Counts a b ops reads → Counts b c more_ops more_reads → Counts a c (ops + more_ops) (reads + more_reads)
counts_then_counts a b c ops reads more_ops more_reads ab bc = record {
  ops_at_most = omega (arith, ab.ops_at_most, bc.ops_at_most);
  ops_at_least = omega (arith, ab.ops_at_least, bc.ops_at_least);
  reads_at_most = omega (arith, ab.reads_at_most, bc.reads_at_most);
  reads_at_least = omega (arith, ab.reads_at_least, bc.reads_at_least);
}

pub counts_within : (old new : Flash) (ops reads more_ops more_reads : ℕ) → Counts old new ops reads → ops ≤ more_ops → reads ≤ more_reads → Counts old new more_ops more_reads
counts_within old new ops reads more_ops more_reads h o r = record {
  ops_at_most = omega (arith, h.ops_at_most);
  ops_at_least = h.ops_at_least;
  reads_at_most = omega (arith, h.reads_at_most);
  reads_at_least = h.reads_at_least;
}

no_counts : (old new : Flash) → new ≡ old → Counts old new 0 0
no_counts old new e = record {
  ops_at_most = omega (arith, ap (λ f. f.ops) e);
  ops_at_least = omega (arith, ap (λ f. f.ops) e);
  reads_at_most = omega (arith, ap (λ f. f.reads) e);
  reads_at_least = omega (arith, ap (λ f. f.reads) e);
}

one_operation : (old new : Flash) → IsSound old → new.ops ≡ one_more old.ops → new.reads ≡ old.reads → Counts old new 1 0
one_operation old new sound ops reads = record {
  ops_at_most = omega (arith, one_more_at_most old.ops);
  ops_at_least = omega (arith, one_more_at_least old.ops sound.ops);
  reads_at_most = omega arith;
  reads_at_least = omega arith;
}

one_read : (old new : Flash) → IsSound old → new.ops ≡ old.ops → new.reads ≡ one_more old.reads → Counts old new 0 1
one_read old new sound ops reads = record {
  ops_at_most = omega arith;
  ops_at_least = omega arith;
  reads_at_most = omega (arith, one_more_at_most old.reads);
  reads_at_least = omega (arith, one_more_at_least old.reads sound.reads);
}

-- exactly so many operations and then so many more
pub ops_then_ops : (a b c : Flash) (first more : ℕ) → b.ops ≡ ops_more a first → c.ops ≡ ops_more b more → c.ops ≡ ops_more a (first + more)
ops_then_ops a b c first more ab bc = omega (arith, ab, bc)

-- exactly so many reads and then so many more
pub reads_then_reads : (a b c : Flash) (first more : ℕ) → b.reads ≡ reads_more a first → c.reads ≡ reads_more b more → c.reads ≡ reads_more a (first + more)
reads_then_reads a b c first more ab bc = omega (arith, ab, bc)

-- no operation is exactly none more
pub works_no_ops : (old new : Flash) (reads : ℕ) → IsSound old → Works old new 0 reads → new.ops ≡ ops_more old 0
works_no_ops old new reads sound h = omega (arith, h.counts.ops_at_most, h.counts.ops_at_least, sound.ops)

pub works_then_works : (a b c : Flash) (ops reads more_ops more_reads : ℕ) → Works a b ops reads → Works b c more_ops more_reads → Works a c (ops + more_ops) (reads + more_reads)
works_then_works a b c ops reads more_ops more_reads ab bc = record {
  after = bc.after ∙ (λ i. worked (ab.after i) c);
  counts = counts_then_counts a b c ops reads more_ops more_reads ab.counts bc.counts;
}

pub works_then_stops : (a b c : Flash) (fault : FlashFault) (ops reads more_ops more_reads : ℕ) → Works a b ops reads → Stops b fault c more_ops more_reads → Stops a fault c (ops + more_ops) (reads + more_reads)
works_then_stops a b c fault ops reads more_ops more_reads ab bc = record {
  after = by fault bc.after;
  counts = counts_then_counts a b c ops reads more_ops more_reads ab.counts bc.counts;
}
  where
    on : b.powered ≡ a.powered
    on = ap (λ f. f.powered) ab.after

    by : (fault : FlashFault) → StopsBy b fault c → StopsBy a fault c
    by flash_faults.Off h = elim h [
      | inl p ↦ inl (sym on ∙ p.0, p.1 ∙ (λ i. worked (ab.after i) c))
      | inr p ↦ inr (sym on ∙ p.0, p.1 ∙ (λ i. record (worked (ab.after i) c) { powered = false; cuts = one_more (ab.after i).cuts }))
    ]
    by flash_faults.Failed h = (sym on ∙ h.0, h.1 ∙ (λ i. record (worked (ab.after i) c) { faults = one_more (ab.after i).faults }))
    by flash_faults.Memory h = h ∙ (λ i. worked (ab.after i) c)

pub works_within : (old new : Flash) (ops reads more_ops more_reads : ℕ) → Works old new ops reads → ops ≤ more_ops → reads ≤ more_reads → Works old new more_ops more_reads
works_within old new ops reads more_ops more_reads h o r = record { after = h.after; counts = counts_within old new ops reads more_ops more_reads h.counts o r }

pub stops_within : (old new : Flash) (fault : FlashFault) (ops reads more_ops more_reads : ℕ) → Stops old fault new ops reads → ops ≤ more_ops → reads ≤ more_reads → Stops old fault new more_ops more_reads
stops_within old new fault ops reads more_ops more_reads h o r = record { after = h.after; counts = counts_within old new ops reads more_ops more_reads h.counts o r }

pub works_still : (old : Flash) → Works old old 0 0
works_still old = record { after = refl; counts = no_counts old old refl }

-- memory runs out before anything is done
pub stops_at_once : (old : Flash) → Stops old flash_faults.Memory old 0 0
stops_at_once old = record { after = refl; counts = no_counts old old refl }

-- a state that is known names its own image and counts
counted : (old new : Flash) (f : Flash → Flash) → new ≡ f old → f old ≡ worked (f old) new
counted old new f e = λ i. worked (f old) (sym e i)

pub programmed_works : (old new : Flash) (page : ℕ) (bytes : List ℕ) → IsSound old → new ≡ programmed old page bytes → Works old new 1 0
programmed_works old new page bytes sound e = record {
  after = e ∙ counted old new (λ f. programmed f page bytes) e;
  counts = one_operation old new sound (ap (λ f. f.ops) e) (ap (λ f. f.reads) e);
}

pub erased_works : (old new : Flash) (block : ℕ) → IsSound old → new ≡ erased old block → Works old new 1 0
erased_works old new block sound e = record {
  after = e ∙ counted old new (λ f. erased f block) e;
  counts = one_operation old new sound (ap (λ f. f.ops) e) (ap (λ f. f.reads) e);
}

pub read_works : (old new : Flash) → IsSound old → new ≡ has_read old → Works old new 0 1
read_works old new sound e = record {
  after = e ∙ counted old new has_read e;
  counts = one_read old new sound (ap (λ f. f.ops) e) (ap (λ f. f.reads) e);
}

-- a program or an erase that falls stops the call
pub falls_stops : (old new : Flash) (fault : NandFault) → IsSound old → Falls old fault new → Stops old (flash_fault fault) new 1 0
falls_stops old new nand_faults.Off sound h = elim h [
  | inl p ↦ record {
    after = inl (p.0, p.1 ∙ counted old new (λ f. f) p.1);
    counts = counts_within old new 0 0 1 0 (no_counts old new p.1) (omega arith) (omega arith);
  }
  | inr p ↦ record {
    after = inr (p.0, p.1 ∙ counted old new (λ f. record f { image = new.image; powered = false; cuts = one_more f.cuts; ops = one_more f.ops }) p.1);
    counts = one_operation old new sound (ap (λ f. f.ops) p.1) (ap (λ f. f.reads) p.1);
  }
]
falls_stops old new nand_faults.Failed sound h = record {
  after = (h.0, h.1 ∙ counted old new (λ f. record f { image = new.image; faults = one_more f.faults; ops = one_more f.ops }) h.1);
  counts = one_operation old new sound (ap (λ f. f.ops) h.1) (ap (λ f. f.reads) h.1);
}

-- a read that falls stops the call
pub read_stops : (old new : Flash) (before filled : List ℕ) (fault : NandFault) → IsSound old → ReadFault old before fault filled new → Stops old (flash_fault fault) new 0 1
read_stops old new before filled nand_faults.Off sound h = record {
  after = inl (h.0, h.1 ∙ counted old new (λ f. f) h.1);
  counts = counts_within old new 0 0 0 1 (no_counts old new h.1) (omega arith) (omega arith);
}
read_stops old new before filled nand_faults.Failed sound h = record {
  after = (h.0, h.1 ∙ counted old new (λ f. record f { reads = one_more f.reads; faults = one_more f.faults }) h.1);
  counts = one_read old new sound (ap (λ f. f.ops) h.1) (ap (λ f. f.reads) h.1);
}

-- a flash that works keeps its blocks and its power
pub works_blocks : (old new : Flash) (ops reads : ℕ) → Works old new ops reads → new.blocks ≡ old.blocks
works_blocks old new ops reads h = ap (λ f. f.blocks) h.after

pub works_powered : (old new : Flash) (ops reads : ℕ) → Works old new ops reads → new.powered ≡ old.powered
works_powered old new ops reads h = ap (λ f. f.powered) h.after

pub stops_blocks : (old new : Flash) (fault : FlashFault) (ops reads : ℕ) → Stops old fault new ops reads → new.blocks ≡ old.blocks
stops_blocks old new fault ops reads h = by fault h.after
  where
    by : (fault : FlashFault) → StopsBy old fault new → new.blocks ≡ old.blocks
    by flash_faults.Off p = elim p [ inl q ↦ ap (λ f. f.blocks) q.1 | inr q ↦ ap (λ f. f.blocks) q.1 ]
    by flash_faults.Failed p = ap (λ f. f.blocks) p.1
    by flash_faults.Memory p = ap (λ f. f.blocks) p

pub falls_blocks : (old new : Flash) (fault : NandFault) → Falls old fault new → new.blocks ≡ old.blocks
falls_blocks old new nand_faults.Off h = elim h [ inl p ↦ ap (λ f. f.blocks) p.1 | inr p ↦ ap (λ f. f.blocks) p.1 ]
falls_blocks old new nand_faults.Failed h = ap (λ f. f.blocks) h.1

-- whatever a program answers, the flash has its blocks
pub program_blocks : (old new : Flash) (page : ℕ) (bytes : List ℕ) (r : Result (Unit {0}) NandFault) → OnOk r (new ≡ programmed old page bytes) → IfErr r (λ fault. Falls old fault new) → new.blocks ≡ old.blocks
program_blocks old new page bytes (Ok u) ok err = ap (λ f. f.blocks) ok
program_blocks old new page bytes (Err fault) ok err = falls_blocks old new fault err

-- whatever an erase answers, the flash has its blocks
pub erase_blocks : (old new : Flash) (block : ℕ) (r : Result (Unit {0}) NandFault) → OnOk r (new ≡ erased old block) → IfErr r (λ fault. Falls old fault new) → new.blocks ≡ old.blocks
erase_blocks old new block (Ok u) ok err = ap (λ f. f.blocks) ok
erase_blocks old new block (Err fault) ok err = falls_blocks old new fault err

-- where both counts stand at their bounds, a call with power stops for want of memory alone
pub only_memory : (old new : Flash) (fault : FlashFault) (ops reads : ℕ) → Stops old fault new ops reads → IsSound new → old.powered ≡ true → old.cuts ≡ old.most_cuts → old.faults ≡ old.most_faults → old.cuts < 2 ^ 63 → old.faults < 2 ^ 63 → fault ≡ flash_faults.Memory
only_memory old new fault ops reads stops sound on cuts faults few some = by fault stops.after
  where
    by : (fault : FlashFault) → StopsBy old fault new → fault ≡ flash_faults.Memory
    by flash_faults.Off p = absurd (elim p [
      | inl h ↦ let e : true ≡ false = sym on ∙ h.0 in cc
      | inr h ↦ omega (arith, ap (λ f. f.cuts) h.1, ap (λ f. f.most_cuts) h.1, sound.cuts)
    ])
    by flash_faults.Failed p = absurd (omega (arith, ap (λ f. f.faults) p.1, ap (λ f. f.most_faults) p.1, sound.faults))
    by flash_faults.Memory p = refl
