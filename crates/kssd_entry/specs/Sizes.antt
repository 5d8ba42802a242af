-- Which values stand in their entry, and which have a page of their own.
use Rattle.std.specs.Prelude.{◌≤◌, ℕ, List, length}

-- a value that stands in its entry
abbrev pub IsInline : List ℕ → Type 0
IsInline value = length value ≤ 128

-- the length of a value in a page of its own
abbrev pub IsPageLength : ℕ → Type 0
IsPageLength n = (129 ≤ n) × (n ≤ 4096)
