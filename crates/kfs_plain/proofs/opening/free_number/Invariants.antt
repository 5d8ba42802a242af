use Rattle.std.proofs.Common.{◌≡◌, ◌+◌, length}
use Rattle.kfs_plain.specs.Tables.{first_gap}
use Rattle.kfs_plain.proofs.opening.free_number.Given as goal

-- each lower number is taken, and so many descriptions are passed
abbrev pub invariant-loop-number : goal.invariant-loop-number
invariant-loop-number l = record {
  gap : first_gap l.lowest l.number-iterator ≡ first_gap 0 l.descriptions.entries;
  passed : l.lowest + length l.number-iterator ≡ length l.descriptions.entries;
}
