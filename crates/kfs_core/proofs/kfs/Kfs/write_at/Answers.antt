use Rattle.std.proofs.Common.{◌+◌, ◌-◌, ap}
use Rattle.std.proofs.lemmas.Result.{err_from_is_err_and}
use Rattle.kfs_core.specs.Core.{KfsState, tx_in}
use Rattle.kfs_core.proofs.Writing.{wrote_done, write_failed}
use Rattle.kfs_core.proofs.kfs.Kfs.write_at.Goals as goal

pub returns-in_err-new-clause-does : goal.returns-in_err-new-clause-does
returns-in_err-new-clause-does g c =
    let p = err_from_is_err_and c.from_residual-in_err-new.result c.from_residual-in_err-new.ensures.1 in
    rw (p.1, p.2) (write_failed c.args.self.now _ c.self.inside.running.tx c.writable.new.running.tx c.space-space.result c.args.node c.args.offset c.in_ok-size.size c.fits-some.result c.args.bytes.now
    c.space-space.ensures (ap tx_in c.self.view_is) c.in_ok-size.ensures.leaves c.in_ok-size.ensures.gives c.fits-some.ensures c.in_err-new.field-0.0 c.in_err-new.ensures.err
    (ap (λ (s : KfsState). record s { running = c.put_bytes.new.running }) c.self.view_is))

pub returns-clause-does : goal.returns-clause-does
returns-clause-does g c =
    let more = c.chunks_for.result - c.chunks_for-2.result in
    wrote_done c.args.self.now _ c.self.inside.running.tx c.writable.new.running.tx c.space-space.result c.args.node c.args.offset c.in_ok-size.size c.fits-some.result c.args.bytes.now
    c.space-space.ensures (ap tx_in c.self.view_is) c.in_ok-size.ensures.leaves c.in_ok-size.ensures.gives c.fits-some.ensures c.in_ok-new.new c.chunks_for-2.result c.chunks_for.result c.in_ok-new.ensures.wrote c.in_ok-new.ensures.size c.chunks_for.ensures c.chunks_for-2.ensures
    (ap (λ (s : KfsState). record s { running = c.put_bytes.new.running; charge = s.charge + more; chunks = s.chunks + more }) c.self.view_is)
