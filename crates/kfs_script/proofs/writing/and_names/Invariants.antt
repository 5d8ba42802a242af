use Rattle.std.proofs.Common.{◌≡◌, ◌++◌, take}
use Rattle.std.specs.List.{flat_map}
use Rattle.kfs_script.specs.AnswerText.{and_name}
use Rattle.kfs_script.proofs.writing.and_names.Given as goal

abbrev pub invariant-loop-name : goal.invariant-loop-name
invariant-loop-name l = l.out ≡ l.initial.out ++ flat_map and_name (take l.name-index l.name-items)
