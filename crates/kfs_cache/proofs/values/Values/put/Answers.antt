use Rattle.std.proofs.Common.{◌∙◌, ap}
use Rattle.kfs_cache.proofs.Entries.{put_found, put_part}
use Rattle.kfs_cache.proofs.values.Values.put.Goals as goal

pub returns-clause-found : goal.returns-clause-found
returns-clause-found c = put_found c.self.inside.cache c.in_ok-name.name _ _ _ _ (ap (λ k. k.entries) c.in_ok-put.ensures.entries) (c.in_ok-name.ensures.items ∙ c.bytes.ensures.value) c.in_ok-copy.ensures

pub returns-clause-others : goal.returns-clause-others
returns-clause-others c = put_part c.self.inside.cache c.in_ok-name.name _ _ _ _ _ (ap (λ k. k.entries) c.in_ok-put.ensures.entries) (c.in_ok-name.ensures.items ∙ c.bytes.ensures.value) c.in_ok-copy.ensures c.self.view_is
