use Rattle.std.proofs.Common.{◌∙◌, sym}
use Rattle.kssd_index.proofs.JobSteps.{taken_up}
use Rattle.kssd_index.proofs.index.Index.take_up.Goals as goal

pub returns-in_default-clause-way : goal.returns-in_default-clause-way
returns-in_default-clause-way c blocks image h = c.in_ok-job.ensures blocks image h.root

pub returns-then-is_same-clause-way : goal.returns-then-is_same-clause-way
returns-then-is_same-clause-way c blocks image h = taken_up c.args.kind c.in-Some.job c.args.self.now blocks image (sym c.take.ensures.value ∙ c.in-Some.is) (sym c.kind.ensures ∙ c.is_same.ensures c.if-is_same.true) h

pub returns-clause-way : goal.returns-clause-way
returns-clause-way c blocks image h = c.in_ok-begun.ensures blocks image h.root
