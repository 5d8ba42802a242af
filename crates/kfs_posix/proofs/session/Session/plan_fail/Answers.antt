use Rattle.std.proofs.Common.{◌+◌, ◌<◌, ◌^◌, sym, ◌≤◌, ◌∙◌, ap, subst}
use Rattle.kv_base.specs.Counts.{one_more}
use Rattle.kv_device.specs.Asked.{asks_fault}
use Rattle.kv_device.specs.Machine.{with_most_faults}
use Rattle.kfs_tx.specs.Tx.{Tx}
use Rattle.kfs_model.specs.declared.Line.TheVariants as lines
use Rattle.kfs_posix.specs.Volume.{SessionState, volume_of}
use Rattle.kfs_posix.proofs.Planning.{fail_goes, plan_by, plan_showing, plan_numbers}
use Rattle.kfs_posix.proofs.session.Session.plan_fail.Goals as goal

pub invariant_of-self : goal.invariant_of-self
invariant_of-self g c = plan_showing c.self.inside.kfs c.plan_fail.new.self c.self.inside.files.opens c.self.inside.down c.self.inside.kfs.running.tx.machine.most_cuts c.plan_fail.new.self.running.tx.machine.most_faults c.plan_fail.ensures.rest c.plan_fail.ensures.planned c.self.invariant

pub returns-clause-goes_on : goal.returns-clause-goes_on
returns-clause-goes_on g c = λ few. plan_by c.self.inside.kfs c.plan_fail.new.self c.self.inside.files.opens c.self.inside.down c.self.inside.kfs.running.tx.machine.most_cuts c.plan_fail.new.self.running.tx.machine.most_faults c.plan_fail.ensures.rest c.plan_fail.ensures.planned c.args.self.now (lines.Fail c.args.kind c.args.n) c.self.view_is (fail_goes (volume_of c.self.inside.kfs c.self.inside.files.opens c.self.inside.down) c.args.kind c.args.n c.plan_fail.new.self.running.tx.machine.most_faults c.plan_fail.ensures.fewest c.plan_fail.ensures.most (subst (λ (s : SessionState). s.volume.tx.machine.faults + 1 < 2 ^ 63) (sym c.self.view_is) few))

pub returns-clause-planned : goal.returns-clause-planned
returns-clause-planned g c = ap (λ (r : Tx). r.machine) c.plan_fail.ensures.planned ∙ ap (λ (s : SessionState). with_most_faults s.volume.tx.machine c.plan_fail.new.self.running.tx.machine.most_faults) c.self.view_is

pub returns-clause-fewest : goal.returns-clause-fewest
returns-clause-fewest g c = subst (λ (s : SessionState). s.volume.tx.machine.faults ≤ c.plan_fail.new.self.running.tx.machine.most_faults) c.self.view_is c.plan_fail.ensures.fewest

pub returns-clause-most : goal.returns-clause-most
returns-clause-most g c = subst (λ (s : SessionState). c.plan_fail.new.self.running.tx.machine.most_faults ≤ one_more s.volume.tx.machine.faults) c.self.view_is c.plan_fail.ensures.most

pub returns-clause-down : goal.returns-clause-down
returns-clause-down g c = ap (λ (s : SessionState). s.volume.down) c.self.view_is

pub returns-clause-age : goal.returns-clause-age
returns-clause-age g c = c.plan_fail.ensures.age ∙ ap (λ (s : SessionState). s.device_age) c.self.view_is

pub returns-clause-numbers : goal.returns-clause-numbers
returns-clause-numbers g c = plan_numbers c.self.inside.kfs c.plan_fail.new.self c.self.inside.files.opens c.self.inside.down c.self.inside.kfs.running.tx.machine.most_cuts c.plan_fail.new.self.running.tx.machine.most_faults c.plan_fail.ensures.rest c.plan_fail.ensures.planned c.args.self.now c.self.view_is c.plan_fail.ensures.age

pub returns-clause-asked : goal.returns-clause-asked
returns-clause-asked g c = c.plan_fail.ensures.asked ∙ ap (λ (s : SessionState). asks_fault s.asked c.args.kind c.args.n) c.self.view_is
