use Rattle.std.proofs.Common.{refl, sym, ◌∙◌}
use Rattle.kfs_cache.proofs.Fitting.{fits_closed, fits_idle, fewer_ended, fewer_aborted}
use Rattle.kfs_cache.proofs.known.Known.finish.Goals as goal

pub returns-then-not-has_open-clause-ended : goal.returns-then-not-has_open-clause-ended
returns-then-not-has_open-clause-ended c m fits open_now = fits_idle m _ c.args.tx.0 c.args.self.now c.mark.new.marks c.clear.new.self (fewer_ended m c.args.tx.0 open_now) refl refl fits c.mark.ensures c.if-self.true (sym c.has_open.ensures ∙ c.if-not-has_open.true)

pub returns-then-not-has_open-clause-aborted : goal.returns-then-not-has_open-clause-aborted
returns-then-not-has_open-clause-aborted c m fits open_now = fits_idle m _ c.args.tx.0 c.args.self.now c.mark.new.marks c.clear.new.self (fewer_aborted m c.args.tx.0 open_now) refl refl fits c.mark.ensures c.if-self.true (sym c.has_open.ensures ∙ c.if-not-has_open.true)

pub returns-else-self-clause-ended : goal.returns-else-self-clause-ended
returns-else-self-clause-ended c m fits open_now = fits_closed m _ c.args.tx.0 c.args.self.now c.mark.new.marks (fewer_ended m c.args.tx.0 open_now) refl refl fits c.mark.ensures

pub returns-else-self-clause-aborted : goal.returns-else-self-clause-aborted
returns-else-self-clause-aborted c m fits open_now = fits_closed m _ c.args.tx.0 c.args.self.now c.mark.new.marks (fewer_aborted m c.args.tx.0 open_now) refl refl fits c.mark.ensures
