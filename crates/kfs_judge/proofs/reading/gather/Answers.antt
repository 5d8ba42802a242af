use Rattle.std.proofs.Common.{ap, subst, arith}
use Rattle.std.specs.FinMap as objects
use Rattle.kv_device.specs.Objects.{Objects}
use Rattle.kfs_judge.specs.Judging.{heard}
use Rattle.kfs_judge.specs.Rows.{AreRows}
use Rattle.kfs_judge.proofs.Gathered.{begun_view, few_rows}
use Rattle.kfs_judge.proofs.reading.gather.Goals as goal

pub read_all-requires-clause-few : goal.read_all-requires-clause-few
read_all-requires-clause-few g c =
    let m = g.D.Device.machine c.args.device.now in
    let sound = g.met.D.Device.sound c.args.device.now in
    let same = ap (λ (o : Objects). objects.len o) (begun_view m c.requires.up c.requires.idle c.in_ok-tx.tx.0 (g.D.Device.machine c.begin.new.self) c.in_ok-tx.ensures.ok) in
    let stored = sound.keys in
    omega arith

pub returns-clause-rows : goal.returns-clause-rows
returns-clause-rows g c =
    let m = g.D.Device.machine c.args.device.now in
    subst (λ (o : Objects). AreRows (objects.entries (heard o)) c.in_ok-rows.rows.items) (begun_view m c.requires.up c.requires.idle c.in_ok-tx.tx.0 (g.D.Device.machine c.begin.new.self) c.in_ok-tx.ensures.ok) c.in_ok-rows.ensures.rows

pub returns-clause-few : goal.returns-clause-few
returns-clause-few g c =
    let m = g.D.Device.machine c.args.device.now in
    let sound = g.met.D.Device.sound c.args.device.now in
    let stored = sound.keys in
    let few = few_rows m.stable c.in_ok-rows.rows.items (subst (λ (o : Objects). AreRows (objects.entries (heard o)) c.in_ok-rows.rows.items) (begun_view m c.requires.up c.requires.idle c.in_ok-tx.tx.0 (g.D.Device.machine c.begin.new.self) c.in_ok-tx.ensures.ok) c.in_ok-rows.ensures.rows) in
    omega arith
