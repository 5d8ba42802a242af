use Rattle.kfs_cache.proofs.Fitting.{fits_first}
use Rattle.std.proofs.Common.{refl}
use Rattle.kfs_cache.proofs.known.Known.new.Goals as goal

pub returns : goal.returns
returns c m up none = fits_first m _ up none c.in_ok-new.ensures refl
