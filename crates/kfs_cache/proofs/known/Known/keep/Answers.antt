use Rattle.kfs_cache.proofs.Fitting.{fits_put}
use Rattle.std.proofs.Common.{sym, ◌∙◌}
use Rattle.kfs_cache.proofs.known.Known.keep.Goals as goal

pub returns-then-not-has : goal.returns-then-not-has
returns-then-not-has c m tx fits seen = fits_put m tx c.args.self.now c.put.new.self c.args.key.now c.args.value.now c.put.result c.put.ensures.others c.put.ensures.err (sym c.has.ensures ∙ c.if-not-has.true) fits seen
