use Rattle.std.proofs.Common.{◌≡◌, take, false}
use Rattle.kssd_image.specs.AnchorForm.{run_numbers}
use Rattle.kssd_levels.specs.Runs.{has_block}
use Rattle.kssd_parts.proofs.compact.has_number.Given as goal

abbrev pub invariant-loop-info : goal.invariant-loop-info
invariant-loop-info l = has_block (run_numbers (take l.info-index l.infos)) l.number ≡ false
