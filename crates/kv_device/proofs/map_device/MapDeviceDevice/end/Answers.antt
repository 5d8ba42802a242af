use Rattle.std.proofs.Common.{◌∙◌, sym}
use Rattle.kv_device.specs.MapDevice.{machine_of}
use Rattle.kv_device.proofs.ViewLaws.{idle_end}
use Rattle.kv_device.proofs.map_device.MapDeviceDevice.end.Goals as goal

pub returns-in-Ok-true-clause-ok : goal.returns-in-Ok-true-clause-ok
returns-in-Ok-true-clause-ok c = record {
  allowed = c.in-Ok-true.ensures.ok.0;
  room = c.in-Ok-true.ensures.ok.1;
  after = c.close.ensures.machine ∙ idle_end (machine_of c.args.self.now) c.args.tx.0 (sym c.in-Ok-true.ensures.idle ∙ c.in-Ok-true.field-0-test);
}
