use Rattle.std.proofs.Common.{◌∙◌, ◌++◌, sym}
use Rattle.kssd_model.proofs.ReadingOn.{reads_then_reads}
use Rattle.kssd_image.specs.Stages.{shown_in}
use Rattle.kssd_machine.specs.Sizes.{listed}
use Rattle.kssd_commit.proofs.Replaced.{replaced_more, found_before}
use Rattle.kssd_commit.proofs.replacing.replaced_by.Goals as goal

pub loop-entry-preserved : goal.loop-entry-preserved
loop-entry-preserved g c =
    let flash = g.N.Nand.flash in
    let shown = shown_in (flash c.args.nand.now).image in
    let e = c.entry-item.result in
    let found = found_before (flash c.args.nand.now) (flash c.loop-entry.nand) c.key.result.now e c.in_ok-older.older c.loop-entry.invariant.reads c.in_ok-older.ensures.found c.key.ensures in
    record {
      found = c.in_ok-push_found.ensures ∙ (λ j. c.loop-entry.invariant.found j ++ listed (found j)) ∙ sym (replaced_more shown c.args.entries.now c.loop-entry.entry-index e c.loop-entry-test.true c.entry-item.is);
      reads = reads_then_reads (flash c.args.nand.now) (flash c.loop-entry.nand) (flash c.find.new.nand) c.loop-entry.invariant.reads c.in_ok-older.ensures.reads;
    }
