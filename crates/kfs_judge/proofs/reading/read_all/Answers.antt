use Rattle.std.proofs.Common.{◌≡◌, ◌∙◌, filter, ◌∷◌, [], subst, arith}
use Rattle.std.specs.FinMap as objects
use Rattle.kv_device.specs.Machine.{Machine, view}
use Rattle.kv_device.specs.Objects.{pairs_from}
use Rattle.kfs_judge.specs.Rows.{AreRows, Extends}
use Rattle.kfs_judge.proofs.Fronts.{is_below, all_read}
use Rattle.kfs_judge.proofs.Gathered.{more_front, first_front}
use Rattle.kfs_judge.proofs.reading.read_all.Goals as goal

pub loop-first-init : goal.loop-first-init
loop-first-init g c = record {
  rows = first_front (view (g.D.Device.machine c.args.device.now) c.args.tx.0) c.new-rows.result.items c.read_front.new.rows.items c.new-rows.ensures.items c.in_ok-read_front.ensures.rows;
  open' = c.in_ok-read_front.ensures.open;
  same = c.in_ok-read_front.ensures.same;
  age = c.in_ok-read_front.ensures.age;
}

pub loop-first-preserved : goal.loop-first-preserved
loop-first-preserved g c =
    let m = g.D.Device.machine c.args.device.now in
    let new = c.read_front-in-loop-first.new.rows.items in
    let more : Extends (pairs_from (view m c.args.tx.0) (c.loop-first.first ∷ []) (c.loop-first.first ∷ [])) c.loop-first.rows.items new =
    subst (λ (mm : Machine). Extends (pairs_from (view mm c.args.tx.0) (c.loop-first.first ∷ []) (c.loop-first.first ∷ [])) c.loop-first.rows.items new) c.loop-first.invariant.same c.in_ok-read_front-2.ensures.rows in
    let a = c.loop-first.invariant.age in
    let b = c.in_ok-read_front-2.ensures.age in
    record {
      rows = more_front (view m c.args.tx.0) c.loop-first.first c.loop-first.rows.items new c.loop-first-test.true c.loop-first.invariant.rows more;
      open' = c.loop-first.invariant.open';
      same = c.in_ok-read_front-2.ensures.same ∙ c.loop-first.invariant.same;
      age = record { later = omega (arith, a.later, b.later); bounded = omega (arith, a.bounded, b.bounded) };
    }

pub returns-clause-rows : goal.returns-clause-rows
returns-clause-rows g c = all_read (view (g.D.Device.machine c.args.device.now) c.args.tx.0) c.loop-first.rows.items
    (let done : c.loop-first.first ≡ 256 = omega arith in subst (λ n. AreRows (filter (is_below n) (objects.entries (view (g.D.Device.machine c.args.device.now) c.args.tx.0))) c.loop-first.rows.items) done c.loop-first.invariant.rows)
