use Rattle.std.proofs.Common.{◌≡◌, ◌++◌, take}
use Rattle.std.specs.List.{flat_map}
use Rattle.kfs_script.specs.AnswerText.{esc_byte}
use Rattle.kfs_script.proofs.writing.escape.Given as goal

abbrev pub invariant-loop-byte : goal.invariant-loop-byte
invariant-loop-byte l = l.out ≡ l.initial.out ++ flat_map esc_byte (take l.byte-index l.bytes)
