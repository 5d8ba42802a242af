use Rattle.kfs_model.specs.Life.{newborn}
use Rattle.kfs_runner.proofs.PointLaws.{begins}
use Rattle.kfs_runner.proofs.Unplanned.{begins_but_for_memory}
use Rattle.kfs_runner.proofs.mount_point.MountPoint.begin.Goals as goal

pub returns-in-Ok-clause-shows : goal.returns-in-Ok-clause-shows
returns-in-Ok-clause-shows g c =
    (begins (g.S.Device.Device.machine c.args.device) c.in-Ok.session c.requires.new c.requires.least c.in-Ok.ensures.ok c.in-Ok.ensures.begun).0

pub returns-in-Ok-clause-limits : goal.returns-in-Ok-clause-limits
returns-in-Ok-clause-limits g c =
    (begins (g.S.Device.Device.machine c.args.device) c.in-Ok.session c.requires.new c.requires.least c.in-Ok.ensures.ok c.in-Ok.ensures.begun).1

pub returns-in-Ok-clause-known : goal.returns-in-Ok-clause-known
returns-in-Ok-clause-known g c =
    (newborn, (begins (g.S.Device.Device.machine c.args.device) c.in-Ok.session c.requires.new c.requires.least c.in-Ok.ensures.ok c.in-Ok.ensures.begun).0)

pub host_memory-requires : goal.host_memory-requires
host_memory-requires g c =
    let m = g.S.Device.Device.machine c.args.device in
    begins_but_for_memory m _ c.in-Err.fault c.requires.new c.requires.least (g.met.S.Device.Device.sound c.args.device).held c.in-Err.ensures.err
