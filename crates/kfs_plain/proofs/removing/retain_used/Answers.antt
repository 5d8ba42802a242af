use Rattle.std.proofs.Common.{rules}
use Rattle.std.specs.Ordering.{nat_cmp}
use Rattle.std.specs.BTreeSet.{contains}
use Rattle.std.proofs.lemmas.Map.Made.{filter_same_pairs}
use Rattle.kfs_plain.proofs.removing.retain_used.Goals as goal

pub returns : goal.returns
returns c = filter_same_pairs _ (λ e. contains nat_cmp c.args.used.now e.0) _ (λ k v b w f' t. search rules) _ _ c.retain.ensures.filtered
