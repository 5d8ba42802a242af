use Rattle.std.proofs.Common.{◌≡◌, take}
use Rattle.kssd_image.specs.AnchorForm.{run_numbers}
use Rattle.kssd_recover.proofs.anchor.numbers_of.Given as goal

abbrev pub invariant-loop-run : goal.invariant-loop-run
invariant-loop-run l = l.numbers.items ≡ run_numbers (take l.run-index l.runs)
