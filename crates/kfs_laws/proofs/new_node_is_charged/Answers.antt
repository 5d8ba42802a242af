use Rattle.kfs_laws.proofs.Charging.{charge_new, chunks_new}
use Rattle.kfs_laws.proofs.new_node_is_charged.Goals as goal

pub returns : goal.returns
returns c t place node tree = (charge_new t place node tree, chunks_new t place node tree)
