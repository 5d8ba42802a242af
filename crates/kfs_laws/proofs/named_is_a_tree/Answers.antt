use Rattle.kfs_laws.proofs.Keeping.{named_tree, named_kept, named_again}
use Rattle.kfs_laws.proofs.named_is_a_tree.Goals as goal

pub returns : goal.returns
returns c t tree = (named_tree t tree, named_kept t tree, named_again t)
