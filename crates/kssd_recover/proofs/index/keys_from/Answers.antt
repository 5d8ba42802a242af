use Rattle.std.specs.Prelude.{nat_le}
use Rattle.std.proofs.lemmas.Result.{IfOk-weaker}
use Rattle.kssd_run.specs.Run.{run_info}
use Rattle.kssd_levels.specs.Streams.{stream_rest}
use Rattle.kssd_model.proofs.ReadingOn.{reads_image}
use Rattle.kssd_recover.proofs.Streaming.{stand_from, count_is}
use Rattle.kssd_recover.proofs.index.keys_from.Goals as goal

pub open-requires-clause-runs : goal.open-requires-clause-runs
open-requires-clause-runs g c =
    let flash = g.N.Nand.flash c.args.nand.now in
    stand_from (λ run. nat_le c.args.least (run_info run).level) flash.blocks flash.image c.args.levels.now c.in_ok-runs.runs c.in_ok-runs.ensures.runs c.requires

pub returns-clause-ok : goal.returns-clause-ok
returns-clause-ok g c =
    let flash = g.N.Nand.flash in
    IfOk-weaker c.count_keys.result _ _
    (λ count h. count_is (flash c.args.nand.now).image (flash c.open.new.nand).image (stream_rest c.in_ok-source.source) c.new.result c.in_ok-runs.runs c.args.levels.now c.args.least count (reads_image _ _ c.in_ok-source.ensures.reads) c.in_ok-source.ensures.rest c.new.ensures c.in_ok-runs.ensures.runs h) c.count_keys.ensures.ok
