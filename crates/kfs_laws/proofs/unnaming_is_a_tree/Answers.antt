use Rattle.kfs_laws.proofs.Unnaming.{unnamed_tree, number_gone, number_old}
use Rattle.kfs_laws.proofs.unnaming_is_a_tree.Goals as goal

pub returns : goal.returns
returns c t place tree some leaf = (unnamed_tree t place tree some leaf, number_gone t place, number_old t place)
