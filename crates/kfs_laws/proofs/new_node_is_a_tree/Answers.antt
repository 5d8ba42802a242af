use Rattle.kfs_laws.proofs.Making.{IsFreePlace, new_tree, number_new, number_old}
use Rattle.kfs_laws.proofs.new_node_is_a_tree.Goals as goal

pub returns : goal.returns
returns c t place name p node tree at dir free named short =
    let spot : IsFreePlace t place name p = record { at = at; dir = dir; free = free; named = named } in
    (new_tree t tree place name p spot node short, number_new t tree place name p spot node short, number_old t tree place name p spot node short)
