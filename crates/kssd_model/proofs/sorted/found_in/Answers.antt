use Rattle.std.proofs.Common.{sym}
use Rattle.kssd_model.proofs.RisingEntries.{found, not_found}
use Rattle.kssd_model.proofs.sorted.found_in.Goals as goal

pub returns-then-has_at : goal.returns-then-has_at
returns-then-has_at c = found c.args.entries.now c.place_in-place.result c.args.key.now c.has_at.result c.index-entries-place.result c.place_in-place.ensures c.has_at.ensures c.if-has_at.true c.index-entries-place.is

pub returns-else-has_at : goal.returns-else-has_at
returns-else-has_at c = sym (not_found c.args.entries.now c.place_in-place.result c.args.key.now c.has_at.result c.requires c.place_in-place.ensures c.has_at.ensures c.if-has_at.false)
