use Rattle.std.proofs.Common.{◌≤◌, ◌+◌, ◌*◌, ◌^◌, drop}
use Rattle.kfs_runner.specs.Numbers.{line_age}
use Rattle.kfs_runner.specs.MountPoints.{Known, IsPointWhole, mount_state, point_limits, point_age, device_age}
use Rattle.kfs_runner.proofs.LoadRuns.{IsAt}
use Rattle.kfs_runner.proofs.load.run_lines.Given as goal

abbrev pub invariant-loop-line : goal.invariant-loop-line
invariant-loop-line g l = record {
  at : IsAt (point_limits (mount_state g.S.Store.machine g.S.Store.age g.S.Store.rested l.initial.point)) (mount_state g.S.Store.machine g.S.Store.age g.S.Store.rested l.point) l.plain l.tally (drop l.line-index l.lines) l.lines;
  known : Known (mount_state g.S.Store.machine g.S.Store.age g.S.Store.rested l.point);
  whole : IsPointWhole (mount_state g.S.Store.machine g.S.Store.age g.S.Store.rested l.point);
  age : point_age (mount_state g.S.Store.machine g.S.Store.age g.S.Store.rested l.point) ≤ 2 ^ 62 + line_age * l.line-index;
  device : device_age (mount_state g.S.Store.machine g.S.Store.age g.S.Store.rested l.point) ≤ 2 ^ 60 + line_age * l.line-index;
  next : l.plain.world.tree.next ≤ 2 + l.line-index;
  few : l.tally.dones + l.tally.errors ≤ l.line-index;
}
