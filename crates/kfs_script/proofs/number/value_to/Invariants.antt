use Rattle.std.proofs.Common.{◌≡◌, drop}
use Rattle.kfs_script.specs.Script.{number_on}
use Rattle.kfs_script.proofs.number.value_to.Given as goal

-- the value so far, and what the digits that are left make of it
abbrev pub invariant-loop-digit : goal.invariant-loop-digit
invariant-loop-digit l = number_on l.value (drop l.digit-index l.digits) ≡ number_on 0 l.digits
