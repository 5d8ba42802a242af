use Rattle.std.proofs.Common.{◌≡◌, None, ap, sym, ◌∙◌, refl, List, ℕ}
use Rattle.std.specs.Option.{option_copied}
use Rattle.kfs_script.specs.declared.command.BareCommand.{BareCommand}
use Rattle.kfs_script.specs.Script.{pieces_at, bare_form}
use Rattle.kfs_script.specs.Reading.{pieces_left}
use Rattle.kfs_script.proofs.CutLaws.{some_piece}
use Rattle.kfs_script.proofs.line.bare_form.Goals as goal

one_too_many : (command : BareCommand) (xs : List ℕ) → bare_form command (pieces_at 32 xs) ≡ None
unfolding bare_form
one_too_many command xs = some_piece (bare_form command) None 32 xs (λ v more. refl)

pub returns-in-Some-clause-read : goal.returns-in-Some-clause-read
returns-in-Some-clause-read c = sym (ap (λ w. bare_form c.args.command (pieces_left 32 (option_copied w))) c.in-Some.is ∙ one_too_many c.args.command c.in-Some.field-0.now)
