use Rattle.std.proofs.Common.{◌+◌, ◌<◌, ◌^◌, sym, subst, ◌∙◌, ap}
use Rattle.kv_device.specs.Asked.{asks_cut}
use Rattle.kv_device.specs.Machine.{with_most_cuts}
use Rattle.kfs_tx.specs.Tx.{Tx}
use Rattle.kfs_model.specs.declared.Line.TheVariants as lines
use Rattle.kfs_posix.specs.Volume.{SessionState, volume_of}
use Rattle.kfs_posix.proofs.Planning.{plan_goes, plan_by, plan_showing, plan_numbers}
use Rattle.kfs_posix.proofs.session.Session.plan_cut.Goals as goal

pub invariant_of-self : goal.invariant_of-self
invariant_of-self g c = plan_showing c.self.inside.kfs c.plan_cut.new.self c.self.inside.files.opens c.self.inside.down (with_most_cuts c.self.inside.kfs.running.tx.machine).most_cuts c.self.inside.kfs.running.tx.machine.most_faults c.plan_cut.ensures.rest c.plan_cut.ensures.planned c.self.invariant

pub returns-clause-goes_on : goal.returns-clause-goes_on
returns-clause-goes_on g c = λ few. plan_by c.self.inside.kfs c.plan_cut.new.self c.self.inside.files.opens c.self.inside.down (with_most_cuts c.self.inside.kfs.running.tx.machine).most_cuts c.self.inside.kfs.running.tx.machine.most_faults c.plan_cut.ensures.rest c.plan_cut.ensures.planned c.args.self.now (lines.Cut c.args.n c.args.how) c.self.view_is (plan_goes (volume_of c.self.inside.kfs c.self.inside.files.opens c.self.inside.down) c.args.n c.args.how (subst (λ (s : SessionState). s.volume.tx.machine.cuts + 1 < 2 ^ 63) (sym c.self.view_is) few))

pub returns-clause-planned : goal.returns-clause-planned
returns-clause-planned g c = ap (λ (r : Tx). r.machine) c.plan_cut.ensures.planned ∙ ap (λ (s : SessionState). with_most_cuts s.volume.tx.machine) c.self.view_is

pub returns-clause-down : goal.returns-clause-down
returns-clause-down g c = ap (λ (s : SessionState). s.volume.down) c.self.view_is

pub returns-clause-age : goal.returns-clause-age
returns-clause-age g c = c.plan_cut.ensures.age ∙ ap (λ (s : SessionState). s.device_age) c.self.view_is

pub returns-clause-numbers : goal.returns-clause-numbers
returns-clause-numbers g c = plan_numbers c.self.inside.kfs c.plan_cut.new.self c.self.inside.files.opens c.self.inside.down (with_most_cuts c.self.inside.kfs.running.tx.machine).most_cuts c.self.inside.kfs.running.tx.machine.most_faults c.plan_cut.ensures.rest c.plan_cut.ensures.planned c.args.self.now c.self.view_is c.plan_cut.ensures.age

pub returns-clause-asked : goal.returns-clause-asked
returns-clause-asked g c = c.plan_cut.ensures.asked ∙ ap (λ (s : SessionState). asks_cut s.asked c.args.n c.args.how) c.self.view_is
