use Rattle.std.proofs.Common.{◌≤◌, ◌-◌, ◌^◌}
use Rattle.kevin.proofs.word_at.Given as goal

-- there is room for something
abbrev pub invariant-rooms : goal.invariant-rooms
invariant-rooms g l = 1 ≤ l.room

-- no list in memory is longer
abbrev pub decreases-rooms : goal.decreases-rooms
decreases-rooms g l = 2 ^ 64 - l.room
