-- A flash in memory as a machine, with the exact places of its plans.
use Rattle.std.specs.Prelude.{◌≡◌, ℕ, false, List, Option, Some, None, IfOk, IfErr, Result, Ok, Err}
use Rattle.kv_nand.specs.declared.fault.NandFault.{NandFault}
use Rattle.kv_nand.specs.declared.fault.NandFault.TheVariants as faults
use Rattle.kv_nand.specs.declared.nand.OpKind.{OpKind}
use Rattle.kv_nand.specs.declared.nand.OpKind.TheVariants.{Read, Program, Erase}
use Rattle.kv_nand.specs.declared.nand.PageKind.{PageKind}
use Rattle.kv_nand.specs.declared.nand.Outcome.{Outcome}
use Rattle.kv_nand.specs.declared.nand.Outcome.TheVariants as outcomes
use Rattle.kv_nand.specs.Flash.{Flash, Image, Erased, with_page}
use Rattle.kv_base.specs.Counts.{one_more}
use Rattle.kv_nand.specs.Calls.{Shows, has_read, read_failed, powered_on, with_most_cuts}
use Rattle.nand_mem.specs.declared.plan.Fate.{Fate}
use Rattle.nand_mem.specs.declared.plan.Fate.TheVariants as fates
use Rattle.nand_mem.specs.declared.plan.CutPlan.{CutPlan}
use Rattle.nand_mem.specs.declared.plan.FailPlan.{FailPlan}
use Rattle.nand_mem.specs.Plans.{fate_of, cut_after, fail_after}
use Rattle.nand_mem.specs.Left.{program_left, erase_left, with_block}

-- the flash, and the plans that are not over
pub record Mem : Type 0 where
  pub flash : Flash
  pub cut : Option CutPlan
  pub fail : Option FailPlan

-- an image with no counts and no plans
abbrev pub made : Image → ℕ → Mem
made image blocks = record {
  flash = record {
    image = image;
    blocks = blocks;
    powered = false;
    cuts = 0;
    faults = 0;
    reads = 0;
    ops = 0;
    most_cuts = 0;
    most_faults = 0;
    fails = None;
  };
  cut = None;
  fail = None;
}

-- all pages erased, with power
abbrev pub fresh : ℕ → Mem
fresh blocks = record (made (λ _. Erased) blocks) { flash = powered_on (made (λ _. Erased) blocks).flash }

-- one more program or erase was begun
abbrev pub begun : Flash → Flash
begun f = record f { ops = one_more f.ops }

-- what a fate does to power and counts
abbrev pub struck : Fate → Flash → Flash
struck fates.Done f = f
struck (fates.Cut outcome) f = record f { powered = false; cuts = one_more f.cuts }
struck fates.Fails f = record f { faults = one_more f.faults }

-- the answer to a program or an erase of this fate
abbrev pub answer_of : Fate → Result (Unit {0}) NandFault
answer_of fates.Done = Ok tt
answer_of (fates.Cut outcome) = Err faults.Off
answer_of fates.Fails = Err faults.Failed

-- how a program of this fate ends: one that fails leaves a cut page
abbrev pub program_outcome : Fate → Outcome
program_outcome fates.Done = outcomes.All
program_outcome (fates.Cut outcome) = outcome
program_outcome fates.Fails = outcomes.Part

-- how an erase of this fate ends: one that fails leaves the odd pages
abbrev pub erase_outcome : Fate → Outcome
erase_outcome fates.Done = outcomes.All
erase_outcome (fates.Cut outcome) = outcome
erase_outcome fates.Fails = outcomes.Mix

-- what a program or an erase leaves of all but the image, and the image
abbrev pub after_operation : OpKind → Mem → Image → Mem
after_operation kind m image = record {
  flash = record (struck (fate_of kind m.cut m.fail) (begun m.flash)) { image = image };
  cut = cut_after m.cut;
  fail = fail_after kind m.fail;
}

-- the image that a program leaves
abbrev pub image_after_program : Mem → ℕ → List ℕ → Image
image_after_program m page bytes =
    with_page m.flash.image page (program_left (program_outcome (fate_of Program m.cut m.fail)) (m.flash.image page) bytes)

-- the image that an erase leaves
abbrev pub image_after_erase : Mem → ℕ → Image
image_after_erase m block = with_block m.flash.image block (erase_left (erase_outcome (fate_of Erase m.cut m.fail)))

-- exactly what a program does with power
pub record ProgramIs (old : Mem) (page : ℕ) (bytes : List ℕ) (result : Result (Unit {0}) NandFault) (new : Mem) : Type 0 where
  pub answer : result ≡ answer_of (fate_of Program old.cut old.fail)
  pub after : new ≡ after_operation Program old (image_after_program old page bytes)

-- exactly what an erase does with power
pub record EraseIs (old : Mem) (block : ℕ) (result : Result (Unit {0}) NandFault) (new : Mem) : Type 0 where
  pub answer : result ≡ answer_of (fate_of Erase old.cut old.fail)
  pub after : new ≡ after_operation Erase old (image_after_erase old block)

-- the plans after a read, of which only one of a fault counts reads
abbrev pub after_read : Mem → Flash → Mem
after_read m flash = record { flash = flash; cut = m.cut; fail = fail_after Read m.fail }

-- exactly what a read does with power
pub record ReadIs (old : Mem) (page : ℕ) (before : List ℕ) (result : Result PageKind NandFault) (filled : List ℕ) (new : Mem) : Type 0 where
  pub done : IfOk result (λ kind. (fate_of Read None old.fail ≡ fates.Done) × Shows (old.flash.image page) before kind filled × (new ≡ after_read old (has_read old.flash)))
  pub failed : IfErr result (λ fault. (fate_of Read None old.fail ≡ fates.Fails) × (fault ≡ faults.Failed) × (filled ≡ before) × (new ≡ after_read old (read_failed old.flash)))

-- without power nothing is done, and no plan passes
pub record IsOff {A : Type 0} (old : Mem) (result : Result A NandFault) (new : Mem) : Type 0 where
  pub answer : result ≡ Err faults.Off
  pub after : new ≡ old

-- a plan of a cut takes the place of the old one
abbrev pub planned_cut : Mem → ℕ → Outcome → Mem
planned_cut m n outcome = record m { flash = with_most_cuts m.flash; cut = Some (record { n = n; outcome = outcome }) }

-- a plan of a fault takes the place of the old one of any kind
abbrev pub planned_fault : Mem → OpKind → ℕ → Mem
planned_fault m kind n = record m {
  flash = record m.flash { most_faults = one_more m.flash.faults; fails = Some kind };
  fail = Some (record { kind = kind; n = n });
}
