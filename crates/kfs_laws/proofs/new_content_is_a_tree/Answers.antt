use Rattle.kfs_laws.proofs.Making.{content_tree}
use Rattle.kfs_laws.proofs.new_content_is_a_tree.Goals as goal

pub returns : goal.returns
returns c t n was bytes tree file short = content_tree t tree n was bytes file short
