use Rattle.std.proofs.Common.{ap}
use Rattle.std.proofs.lemmas.Result.{err_from_is_err_and}
use Rattle.kv_device.specs.Objects.{Objects}
use Rattle.kfs_core.specs.Core.{KfsState, tx_in}
use Rattle.kfs_core.specs.Removing.{rmdir_in, is_open_in}
use Rattle.kfs_core.specs.Spot.{route_of}
use Rattle.kfs_core.proofs.Naming.{unlink_failed}
use Rattle.kfs_core.proofs.kfs.Kfs.rmdir.Goals as goal

pub returns-in_err-take_name-clause-does : goal.returns-in_err-take_name-clause-does
returns-in_err-take_name-clause-does g c =
    let p = err_from_is_err_and c.from_residual-in_err-take_name.result c.from_residual-in_err-take_name.ensures.1 in
    rw (p.1, p.2) (unlink_failed c.args.self.now _ c.self.inside.running.tx c.empty_directory.new.running.tx (λ (m : Objects). rmdir_in m (route_of c.args.path.now)) (is_open_in c.args.is_open.now) c.in_ok-leaf.leaf c.is_open_in-open_now.result c.in_err-take_name.field-0.0
    (ap tx_in c.self.view_is) c.in_ok-leaf.ensures.leaves c.in_ok-leaf.ensures.gives c.is_open_in-open_now.ensures c.in_err-take_name.ensures.err
    (ap (λ (s : KfsState). record s { running = c.take_name.new.running }) c.self.view_is))
