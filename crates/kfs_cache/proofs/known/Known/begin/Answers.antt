use Rattle.kfs_cache.proofs.Fitting.{fits_begun}
use Rattle.kfs_cache.proofs.known.Known.begin.Goals as goal

pub returns : goal.returns
returns c m fits free = fits_begun m c.args.tx.0 c.args.self.now c.mark.new.marks fits free c.mark.ensures
