use Rattle.std.proofs.Common.{◌∙◌, ap, Ok}
use Rattle.std.proofs.lemmas.Result.{err_from_is_err_and}
use Rattle.kv_device.specs.Objects.{Objects}
use Rattle.kfs_core.specs.Core.{KfsState, tx_in}
use Rattle.kfs_core.specs.Removing.{is_open_in}
use Rattle.kfs_core.specs.Renaming.{rename_in}
use Rattle.kfs_core.specs.Spot.{route_of}
use Rattle.kfs_core.proofs.Moving.{rename_failed}
use Rattle.kfs_core.proofs.kfs.Kfs.rename.Goals as goal

pub returns-in_err-rename_entry-in-Some-clause-does : goal.returns-in_err-rename_entry-in-Some-clause-does
returns-in_err-rename_entry-in-Some-clause-does g c =
    let p = err_from_is_err_and c.from_residual-in_err-rename_entry-in-Some.result c.from_residual-in_err-rename_entry-in-Some.ensures.1 in
    rw (p.1, p.2) (rename_failed c.args.self.now _ c.self.inside.running.tx c.plan_move.new.running.tx (λ (m : Objects). rename_in m (route_of c.args.old.now) (route_of c.args.new.now)) (is_open_in c.args.is_open.now) c.in-Some.moving
    (ap tx_in c.self.view_is) c.in_ok-plan_move.ensures.leaves (c.in_ok-plan_move.ensures.gives ∙ ap Ok c.in-Some.is) c.in_err-rename_entry-in-Some.field-0.0 c.in_err-rename_entry-in-Some.ensures.err
    (ap (λ (s : KfsState). record s { running = c.rename_entry.new.running }) c.self.view_is))
