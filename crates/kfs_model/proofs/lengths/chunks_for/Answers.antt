use Rattle.std.proofs.Common.{◌≡◌, ℕ, ◌+◌, ◌/◌, ◌%◌, min, ◌∙◌, arith}
use Rattle.kfs_model.proofs.lengths.chunks_for.Goals as goal

-- rounded up, as a sum that is rounded down
up_is_down : (n : ℕ) → n / 4096 + min 1 (n % 4096) ≡ (n + 4095) / 4096
up_is_down n = omega arith

pub returns : goal.returns
returns c = c.div_ceil.ensures ∙ up_is_down c.args.size
