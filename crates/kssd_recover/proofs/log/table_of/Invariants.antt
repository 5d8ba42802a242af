use Rattle.std.proofs.Common.{◌≡◌, take, []}
use Rattle.kssd_image.specs.Stages.{entries_of}
use Rattle.kssd_model.specs.Rising.{merged}
use Rattle.kssd_recover.proofs.log.table_of.Given as goal

abbrev pub invariant-loop-group : goal.invariant-loop-group
invariant-loop-group l = l.table ≡ merged (entries_of (take l.group-index l.group-items)) []
