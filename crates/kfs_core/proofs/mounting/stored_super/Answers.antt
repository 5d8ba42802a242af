use Rattle.std.proofs.Common.{◌∙◌, sym, ap, option_and_then}
use Rattle.std.specs.FinMap as objects
use Rattle.kfs_objects.specs.Records.{read_super}
use Rattle.kfs_tx.proofs.Opening.{read_alone}
use Rattle.kfs_core.proofs.mounting.stored_super.Goals as goal

pub returns-in-None-clause-gives : goal.returns-in-None-clause-gives
returns-in-None-clause-gives g c =
    let m = g.D.Device.machine c.args.device.now in
    let e = (read_alone m c.requires.up c.requires.idle _ _ _ _ _ _ c.in_ok-tx.ensures.ok c.in_ok-value.ensures.ok c.in_ok-abort.ensures.ok).0 in
    ap (option_and_then read_super) (sym c.in-None.is ∙ e ∙ ap (objects.get m.stable) c.in_ok-key.ensures)

pub returns-clause-gives : goal.returns-clause-gives
returns-clause-gives g c =
    let m = g.D.Device.machine c.args.device.now in
    let e = (read_alone m c.requires.up c.requires.idle _ _ _ _ _ _ c.in_ok-tx.ensures.ok c.in_ok-value.ensures.ok c.in_ok-abort.ensures.ok).0 in
    c.read.ensures.reads ∙ ap (option_and_then read_super) (sym c.in-Some.is ∙ e ∙ ap (objects.get m.stable) c.in_ok-key.ensures)
