use Rattle.std.proofs.Common.{ℕ, List}
use Rattle.kssd_machine.proofs.Seeing.{iterate_all, iterate_piece, iterate_last, take_both}
use Rattle.kssd_machine.proofs.viewing.iterates_are_views.Goals as goal

pub returns : goal.returns
returns c = record { all = iterate_all; piece = iterate_piece; last = iterate_last; few = take_both {X = List ℕ × List ℕ} }
