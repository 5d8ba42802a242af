use Rattle.std.proofs.Common.{◌∙◌, List, Some, ap, sym, subst}
use Rattle.kssd_entry.specs.declared.entry.Entry.{Entry}
use Rattle.kssd_levels.specs.declared.kind.JobKind.{JobKind}
use Rattle.kssd_root.specs.UnderWay.{IsUnderWay}
use Rattle.kssd_index.specs.Standing.{job_table}
use Rattle.kssd_index.proofs.JobSteps.{due_flush}
use Rattle.kssd_index.proofs.NamedJobs.{merge_table}
use Rattle.kssd_index.proofs.index.Index.begin.Goals as goal

pub begin_flush-requires-clause-frozen : goal.begin_flush-requires-clause-frozen
begin_flush-requires-clause-frozen c = (due_flush c.args.self.now (c.requires.due ∙ ap Some c.in-Flush.is)).frozen

pub begin_flush-requires-clause-room : goal.begin_flush-requires-clause-room
begin_flush-requires-clause-room c = (due_flush c.args.self.now (c.requires.due ∙ ap Some c.in-Flush.is)).room

pub returns-in_ok-job-in-Flush : goal.returns-in_ok-job-in-Flush
returns-in_ok-job-in-Flush c blocks image h =
    let index = c.args.self.now in
    subst (λ (k : JobKind). IsUnderWay k c.in_ok-job-in-Flush.job (job_table k index.older) index.root blocks image) (sym c.in-Flush.is) (c.in_ok-job-in-Flush.ensures blocks image h)

pub returns-in_ok-job-in_default : goal.returns-in_ok-job-in_default
returns-in_ok-job-in_default c blocks image h =
    let index = c.args.self.now in
    subst (λ (es : List Entry). IsUnderWay c.args.kind c.in_ok-job-in_default.job es index.root blocks image) (sym (merge_table c.args.kind index.older c.in_default.not-Flush)) (c.in_ok-job-in_default.ensures blocks image h)
