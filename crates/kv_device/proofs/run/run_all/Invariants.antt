use Rattle.std.proofs.Common.{take, length, ◌+◌, ◌-◌, ◌*◌, ◌^◌, ◌<◌, ◌≤◌}
use Rattle.kv_device.specs.Run.{Run}
use Rattle.kv_device.proofs.run.run_all.Given as goal

-- the answers so far are those to the commands so far
abbrev pub invariant-loop-command : goal.invariant-loop-command
invariant-loop-command g l = record {
  run : Run (g.D.Device.machine l.fn.device) (take l.command-index l.commands) l.answers.items (g.D.Device.machine l.device);
  age : g.D.Device.age l.device + (length l.commands - l.command-index) * 2 ^ 20 < 2 ^ 63 - 2 ^ 38;
  later : g.D.Device.age l.fn.device ≤ g.D.Device.age l.device;
  bounded : g.D.Device.age l.device ≤ g.D.Device.age l.fn.device + l.command-index * 2 ^ 20;
}
