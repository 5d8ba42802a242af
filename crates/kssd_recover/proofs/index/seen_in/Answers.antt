use Rattle.std.proofs.Common.{◌∙◌}
use Rattle.std.proofs.lemmas.Result.{IfOk-weaker}
use Rattle.kssd_levels.specs.Streams.{stream_rest}
use Rattle.kssd_model.proofs.ReadingOn.{reads_image, reads_blocks}
use Rattle.kssd_recover.proofs.Streaming.{stream_is}
use Rattle.kssd_recover.proofs.Walked.{seen_as}
use Rattle.kssd_recover.proofs.index.seen_in.Goals as goal

pub returns-clause-ok : goal.returns-clause-ok
returns-clause-ok g c =
    let flash = g.N.Nand.flash in
    let reads = c.in_ok-source.ensures.reads in
    let is = stream_is (flash c.args.nand.now).image (flash c.open.new.nand).image (stream_rest c.in_ok-source.source) c.in_ok-entries.entries c.args.log.now c.in_ok-runs.runs c.args.levels.now (reads_image _ _ reads) c.in_ok-source.ensures.rest (c.in_ok-entries.ensures ∙ c.entries.ensures.value) c.in_ok-runs.ensures.copies in
    IfOk-weaker c.walk.result _ _ (λ visible h. seen_as _ _ _ _ _ _ visible (reads_blocks _ _ reads) (reads_image _ _ reads) is h) c.walk.ensures.ok
