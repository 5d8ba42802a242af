-- How large a map of objects is: sums of weights over its values.
use Rattle.std.specs.Prelude.{ℕ, ◌+◌, cond, nat_lt, List, [], ◌∷◌, length, Option, Some, None}
use Rattle.std.specs.FinMap as objects
use Rattle.kv_device.specs.Objects.{Objects}

-- each value counts as one key
abbrev pub one : List ℕ → ℕ
one v = 1

-- and as one page where it needs a page of its own
abbrev pub large : List ℕ → ℕ
large v = cond (nat_lt 128 (length v)) 1 0

abbrev pub weight_at : (List ℕ → ℕ) → Option (List ℕ) → ℕ
weight_at w None = 0
weight_at w (Some v) = w v

-- the weights of what these changes put
abbrev pub new_total : (List ℕ → ℕ) → List (List ℕ × Option (List ℕ)) → ℕ
new_total w [] = 0
new_total w (e ∷ es) = weight_at w e.1 + new_total w es

-- the weights of what stands at the changed keys
abbrev pub old_total : (List ℕ → ℕ) → Objects → List (List ℕ × Option (List ℕ)) → ℕ
old_total w m [] = 0
old_total w m (e ∷ es) = weight_at w (objects.get m e.0) + old_total w m es
