use Rattle.kfs_cache.proofs.Fitting.{fits_touched, fits_changed}
use Rattle.kfs_cache.proofs.known.Known.touch.Goals as goal

pub returns-clause-same : goal.returns-clause-same
returns-clause-same c m fits = fits_touched m c.args.self.now c.remove.new.self c.add.new.self c.args.key.now fits c.remove.ensures c.add.ensures.others

pub returns-clause-changed : goal.returns-clause-changed
returns-clause-changed c m tx change fits open_now = fits_changed m tx c.args.self.now c.remove.new.self c.add.new.self c.args.key.now change fits open_now c.remove.ensures c.add.ensures.added c.add.ensures.others
