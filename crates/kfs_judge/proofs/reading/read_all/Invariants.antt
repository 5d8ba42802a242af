use Rattle.std.proofs.Common.{◌≡◌, filter, None}
use Rattle.std.specs.FinMap as objects
use Rattle.kv_device.specs.Machine.{view}
use Rattle.kv_device.specs.Calls.{Ages, first_of}
use Rattle.kfs_judge.specs.Rows.{AreRows}
use Rattle.kfs_judge.proofs.Fronts.{is_below}
use Rattle.kfs_judge.proofs.reading.read_all.Given as goal

-- the rows of the objects whose keys begin with a lower byte
abbrev pub invariant-loop-first : goal.invariant-loop-first
invariant-loop-first g l = record {
  rows : AreRows (filter (is_below l.first) (objects.entries (view (g.D.Device.machine l.fn.device) l.fn.tx.0))) l.rows.items;
  open' : first_of (g.D.Device.machine l.fn.device) l.fn.tx.0 None ≡ None;
  same : g.D.Device.machine l.device ≡ g.D.Device.machine l.fn.device;
  age : Ages (g.D.Device.age l.fn.device) (g.D.Device.age l.device) 0;
}
