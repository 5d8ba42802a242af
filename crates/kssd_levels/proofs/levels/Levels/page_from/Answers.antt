use Rattle.std.proofs.Common.{◌∙◌, [], ap, subst, List, Some}
use Rattle.kv_nand.specs.Flash.{Image}
use Rattle.kssd_entry.specs.declared.entry.Entry.{Entry}
use Rattle.kssd_model.specs.Rising.{merged}
use Rattle.kssd_model.proofs.ReadingOn.{reads_image}
use Rattle.kssd_run.specs.declared.reader.Run.{Run}
use Rattle.kssd_levels.specs.First.{AreFirst}
use Rattle.kssd_levels.specs.Levels.{all_runs}
use Rattle.kssd_levels.specs.Over.{over}
use Rattle.kssd_levels.specs.Streams.{stream_rest}
use Rattle.kssd_levels.proofs.FromKey.{over_from}
use Rattle.kssd_levels.proofs.Layers.{stand_join}
use Rattle.kssd_levels.proofs.levels.Levels.page_from.Goals as goal

pub returns-clause-found : goal.returns-clause-found
returns-clause-found g c =
    let flash = g.N.Nand.flash c.args.nand.now in
    let levels = c.args.self.now in
    let key = c.args.key.now in
    let stand = stand_join levels.zero _ flash.blocks flash.image c.requires.zero (stand_join levels.one levels.base flash.blocks flash.image c.requires.one c.requires.base) in
    let all =
    c.in_ok-stream.ensures.rest
    ∙ ap (λ (entries : List Entry). merged entries (over flash.image (Some key) c.in_ok-runs.runs [])) c.new.ensures
    ∙ ap (λ (runs : List Run). over flash.image (Some key) runs []) c.in_ok-runs.ensures.copies
    ∙ over_from (all_runs levels) key flash.blocks flash.image stand in
    let first = subst (λ (im : Image). AreFirst c.in_ok-found.found (stream_rest c.in_ok-stream.stream im)) (reads_image _ _ c.in_ok-stream.ensures.reads) c.in_ok-found.ensures.first in
    subst (AreFirst c.in_ok-found.found) all first
