-- One reply more is counted.
use Rattle.std.proofs.Common.{◌≡◌, ◌+◌, ℕ, Bool, true, false, not, cond, List, ◌∷◌}
use Rattle.std.proofs.lemmas.List.Sums.{sum_by-cons}
use Rattle.kfs_path.specs.declared.call.Reply.{Reply}
use Rattle.kfs_load.specs.Coming.{is_error, errors_in, dones_in}

pub dones_more : (reply : Reply) (given : List Reply) → dones_in (reply ∷ given) ≡ cond (not (is_error reply)) 1 0 + dones_in given
dones_more reply given = sum_by-cons (λ r. cond (not (is_error r)) 1 0) reply given

pub errors_more : (reply : Reply) (given : List Reply) → errors_in (reply ∷ given) ≡ cond (is_error reply) 1 0 + errors_in given
errors_more reply given = sum_by-cons (λ r. cond (is_error r) 1 0) reply given
