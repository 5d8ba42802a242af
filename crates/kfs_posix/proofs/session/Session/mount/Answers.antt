use Rattle.std.proofs.Common.{ap, None}
use Rattle.kfs_tx.specs.Tx.{Tx}
use Rattle.kfs_posix.specs.Volume.{volume_of}
use Rattle.kfs_posix.proofs.Mounting.{mounted, mount_showing}
use Rattle.kfs_posix.proofs.session.Session.mount.Goals as goal

pub invariant_of-result : goal.invariant_of-result
invariant_of-result g c =
    let m = g.D.Device.machine c.args.device in
    let sound = g.met.D.Device.sound c.args.device in
    mount_showing m (volume_of c.in-Ok.kfs c.new.result.opens None) sound.held c.in-Ok.ensures.ok.clear (mounted m c.requires.up c.requires.idle c.in-Ok.kfs c.new.result.opens c.new.ensures c.requires.room c.in-Ok.ensures.ok)

pub returns-in-Ok-clause-ok : goal.returns-in-Ok-clause-ok
returns-in-Ok-clause-ok g c = mounted (g.D.Device.machine c.args.device) c.requires.up c.requires.idle c.in-Ok.kfs c.new.result.opens c.new.ensures c.requires.room c.in-Ok.ensures.ok

pub returns-in-Ok-clause-begun : goal.returns-in-Ok-clause-begun
returns-in-Ok-clause-begun g c = ap (λ (r : Tx). r.machine) c.in-Ok.ensures.ok.tx

pub returns-in-Ok-clause-shows : goal.returns-in-Ok-clause-shows
returns-in-Ok-clause-shows g c =
    let m = g.D.Device.machine c.args.device in
    let sound = g.met.D.Device.sound c.args.device in
    mount_showing m (volume_of c.in-Ok.kfs c.new.result.opens None) sound.held c.in-Ok.ensures.ok.clear (mounted m c.requires.up c.requires.idle c.in-Ok.kfs c.new.result.opens c.new.ensures c.requires.room c.in-Ok.ensures.ok)
