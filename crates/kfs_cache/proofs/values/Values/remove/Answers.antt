use Rattle.std.proofs.Common.{◌∙◌, ap, arith}
use Rattle.std.specs.Map.{remove_entry}
use Rattle.kfs_cache.proofs.Entries.{at, taken_away, nothing_there}
use Rattle.kfs_cache.proofs.values.Values.remove.Goals as goal

pub returns-then-len-gt0 : goal.returns-then-len-gt0
returns-then-len-gt0 c =
    let key = c.args.key.now in
    let is = ap (λ k. k.entries) c.pop.ensures.entries ∙ ap (λ b. remove_entry (at b) c.self.inside.cache.entries) c.bytes.ensures.value in
    taken_away key c.self.inside.cache.entries c.pop.new.self.entries _ c.len.ensures.valid.0 is c.self.view_is

pub returns-else-len-gt0 : goal.returns-else-len-gt0
returns-else-len-gt0 c = nothing_there c.args.key.now c.self.inside.cache.entries _ c.len.ensures.valid.0 (omega (arith, c.len.ensures.len)) c.self.view_is
