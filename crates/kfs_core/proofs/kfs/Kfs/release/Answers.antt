use Rattle.std.proofs.Common.{ap}
use Rattle.std.proofs.lemmas.Result.{err_from_is_err_and}
use Rattle.kfs_core.specs.Core.{KfsState, tx_in}
use Rattle.kfs_core.proofs.Naming.{release_failed}
use Rattle.kfs_core.proofs.kfs.Kfs.release.Goals as goal

pub returns-in_err-remove_node-clause-does : goal.returns-in_err-remove_node-clause-does
returns-in_err-remove_node-clause-does g c =
    let p = err_from_is_err_and c.from_residual-in_err-remove_node.result c.from_residual-in_err-remove_node.ensures.1 in
    rw (p.1, p.2) (release_failed c.args.self.now _ c.self.inside.running.tx c.size_to_go.new.running.tx c.args.node c.in_ok-size.size c.in_err-remove_node.field-0.0
    (ap tx_in c.self.view_is) c.in_ok-size.ensures.leaves c.in_ok-size.ensures.gives c.in_err-remove_node.ensures.err
    (ap (λ (s : KfsState). record s { running = c.remove_node.new.running }) c.self.view_is))
