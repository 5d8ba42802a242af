use Rattle.std.proofs.Common.{◌∙◌, Some, ap, subst}
use Rattle.kssd_levels.specs.declared.kind.JobKind.{JobKind}
use Rattle.kssd_root.specs.UnderWay.{IsUnderWay}
use Rattle.kssd_index.specs.Standing.{job_table}
use Rattle.kssd_index.proofs.JobSteps.{due_flush}
use Rattle.kssd_index.proofs.index.Index.name_job.Goals as goal

pub name_flush-requires-clause-frozen : goal.name_flush-requires-clause-frozen
name_flush-requires-clause-frozen g c = (due_flush c.args.self.now (c.requires.due ∙ ap Some c.in-Flush.is)).frozen

pub name_flush-requires-clause-way : goal.name_flush-requires-clause-way
name_flush-requires-clause-way g c =
    let old = g.N.Nand.flash c.args.nand.now in
    let index = c.args.self.now in
    subst (λ (k : JobKind). IsUnderWay k c.args.job (job_table k index.older) index.root old.blocks old.image) c.in-Flush.is c.requires.way
