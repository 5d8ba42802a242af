use Rattle.std.proofs.Common.{Option, sym, subst}
use Rattle.kssd_levels.specs.declared.kind.JobKind.TheVariants.{Flush}
use Rattle.kssd_root.specs.UnderWay.{IsUnderWay}
use Rattle.kssd_index.specs.declared.index.Older.{Older}
use Rattle.kssd_index.specs.Standing.{older_entries}
use Rattle.kssd_index.proofs.index.Index.begin_flush.Goals as goal

pub returns : goal.returns
returns c blocks image h =
    let index = c.args.self.now in
    subst (λ (o : Option Older). IsUnderWay Flush c.in_ok-job-in-Some.job (older_entries o) index.root blocks image) (sym c.in-Some.is) (c.in_ok-job-in-Some.ensures blocks image h)
