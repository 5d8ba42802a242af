use Rattle.std.proofs.Common.{◌≡◌, ◌≤◌, ◌+◌, length}
use Rattle.std.specs.Option.{option_copied}
use Rattle.kfs_script.specs.Script.{with_front, lines_from, has_none, script_of}
use Rattle.kfs_script.specs.Reading.{pieces_left, room_left}
use Rattle.kfs_script.proofs.script.read_script.Given as goal

-- the lines so far, and those of what is left behind them
abbrev pub invariant-loop-rest : goal.invariant-loop-rest
invariant-loop-rest l = record {
  told : with_front l.script (lines_from l.number (has_none l.script) (pieces_left 10 (option_copied l.rest))) ≡ script_of l.bytes;
  small : l.number + room_left (option_copied l.rest) ≤ length l.bytes + 2;
}

abbrev pub decreases-loop-rest : goal.decreases-loop-rest
decreases-loop-rest l = room_left (option_copied l.rest)
