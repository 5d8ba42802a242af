use Rattle.std.proofs.Common.{arith, ap, sym, ◌∙◌}
use Rattle.std.proofs.lemmas.Bool.Decides.{nat_tests}
use Rattle.kfs_path.specs.Pieces.{has_long}
use Rattle.kfs_path.proofs.Whole.{pieces_whole}
use Rattle.kfs_path.proofs.path.Path.read.Goals as goal

pub invariant_of-result : goal.invariant_of-result
invariant_of-result c = record { whole = rw c.in_ok-pieces.ensures (pieces_whole c.args.bytes.now (ap has_long (sym c.in_ok-pieces.ensures) ∙ sym c.has_long_name.ensures ∙ c.if-has_long_name.false)) }

pub returns : goal.returns
returns c = grind (arith, nat_tests)
