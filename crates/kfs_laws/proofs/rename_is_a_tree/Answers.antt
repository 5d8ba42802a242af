use Rattle.kfs_laws.proofs.Renamed.{IsGoal, renamed_tree, number_moved, number_gone, number_other}
use Rattle.kfs_laws.proofs.rename_is_a_tree.Goals as goal

pub returns : goal.returns
returns c t old place name p tree at dir free named apart =
    let to : IsGoal t old place name p = record { at = at; dir = dir; free = free; named = named; apart = apart } in
    (renamed_tree t tree old place name p to, number_moved t tree old place name p to, number_gone t tree old place name p to, number_other t tree old place name p to)
