use Rattle.std.proofs.Common.{◌∙◌, ap}
use Rattle.kssd_image.specs.Stages.{without_marks}
use Rattle.kssd_index.specs.Standing.{older_entries}
use Rattle.kssd_index.proofs.Looking.{page_shown, stream_rests}
use Rattle.kssd_index.proofs.index.Index.stream_from.Goals as goal

pub returns-clause-visible : goal.returns-clause-visible
returns-clause-visible g c =
    let index = c.args.self.now in
    let rest = stream_rests index.table (older_entries index.older) c.in_ok-entries.entries _ index.root.levels _ _ c.args.key.now c.in_ok-runs.runs c.requires.root.runs.stand c.requires.split.rising c.in_ok-entries.ensures.value c.in_ok-runs.ensures.copies c.in_ok-stream.ensures.rest in
    ap without_marks rest ∙ page_shown index _ _ c.args.key.now c.requires
