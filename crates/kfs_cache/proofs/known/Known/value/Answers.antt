use Rattle.std.proofs.Common.{sym, ◌∙◌}
use Rattle.kfs_cache.proofs.Fitting.{hit_by}
use Rattle.kfs_cache.proofs.known.Known.value.Goals as goal

pub returns-in-Ok-clause-hit : goal.returns-in-Ok-clause-hit
returns-in-Ok-clause-hit c = hit_by c.args.self.now c.args.tx.0 c.args.key.now c.in-Ok.value c.if-not-self.false (sym c.is_marked.ensures ∙ c.if-not-is_marked.false) c.in-Ok.ensures.found
