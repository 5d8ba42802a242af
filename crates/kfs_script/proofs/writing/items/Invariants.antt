use Rattle.std.proofs.Common.{◌≡◌, ◌++◌, take}
use Rattle.std.specs.List.{flat_map}
use Rattle.kfs_script.specs.AnswerText.{item_text}
use Rattle.kfs_script.proofs.writing.items.Given as goal

abbrev pub invariant-loop-next : goal.invariant-loop-next
invariant-loop-next l = l.out ≡ l.initial.out ++ flat_map item_text (take l.next-index l.next-items)
