-- The pieces of a path.
use Rattle.std.specs.Prelude.{ℕ, List, length, ◌<◌, ◌≤◌, ◌≢◌, All}

-- 1 to 255 bytes, and none is a slash
abbrev pub IsPiece : List ℕ → Type 0
IsPiece piece = (0 < length piece) × (length piece ≤ 255) × All (λ b. b ≢ 47) piece
