use Rattle.kfs_cache.proofs.Fitting.{fits_failed}
use Rattle.kfs_cache.proofs.known.Known.fail.Goals as goal

pub returns-then-is_outside : goal.returns-then-is_outside
returns-then-is_outside c old new fits left = fits_failed old c.args.fault.now new c.args.self.now fits left
