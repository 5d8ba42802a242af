-- What a call failed with that takes a name away, by the path's text.
use Rattle.std.proofs.Common.{◌≡◌, ℕ, inl, inr, refl, ◌∙◌, ap, subst, List, Result, Ok}
use Rattle.kfs_path.specs.declared.call.Errno.{Errno}
use Rattle.kfs_model.specs.Ladder.{◌>>=◌}
use Rattle.kfs_model.specs.Step.{Route, syntax}
use Rattle.kfs_core.specs.declared.fault.CoreFault.{CoreFault}
use Rattle.kfs_core.specs.declared.fault.CoreFault.TheVariants.{No, Device}
use Rattle.kfs_core.specs.declared.removing.Leaf.{Leaf}
use Rattle.kfs_core.specs.Core.{KfsState, tx_in}
use Rattle.kfs_core.specs.Removing.{is_open_in, UnlinkFails, UnlinkFault}
use Rattle.kfs_posix.specs.Opens.{Opens, nodes_of}
use Rattle.kfs_posix.specs.Removing.{UnnameFails}

pub unname_not_done : (old new : KfsState) (o : Opens) (path : List ℕ) (route : Route) (judge : Route → Result Leaf Errno) (nodes : List (List ℕ)) (fault : CoreFault) → syntax path ≡ Ok route → nodes ≡ nodes_of o
    → UnlinkFails old (judge route) (is_open_in nodes) fault new → UnnameFails old o (syntax path >>= judge) fault new o
unname_not_done old new o path route judge nodes (No e) read is (judged, same) = (ap (λ r. r >>= judge) read ∙ judged, same, refl)
unname_not_done old new o path route judge nodes (Device f) read is (stays, inl unread) = (stays, refl, inl unread)
unname_not_done old new o path route judge nodes (Device f) read is (stays, inr (leaf, judged, fell)) =
    (stays, refl, inr (leaf, ap (λ r. r >>= judge) read ∙ judged, subst (λ ns. UnlinkFault (tx_in old) leaf (is_open_in ns leaf.node) f (tx_in new).machine) is fell))
