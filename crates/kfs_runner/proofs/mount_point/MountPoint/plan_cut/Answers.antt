use Rattle.std.proofs.Common.{◌<◌, ◌-◌, ◌^◌, ap, sym, subst}
use Rattle.kfs_path.specs.declared.call.Reply.TheVariants as replies
use Rattle.kfs_model.specs.declared.Line.TheVariants as lines
use Rattle.kfs_model.specs.declared.Answer.TheVariants as answers
use Rattle.kfs_runner.specs.MountPoints.{MountState, Bare, Mounted, Known, PointGoes, mount_state, point_age}
use Rattle.kfs_runner.proofs.PointLaws.{bare_cut, cut_goes}
use Rattle.kfs_runner.proofs.mount_point.MountPoint.plan_cut.Goals as goal

pub returns-in-Bare-clause-goes : goal.returns-in-Bare-clause-goes
returns-in-Bare-clause-goes g c =
    let machine = g.S.Store.machine in
    let age = g.S.Store.age in
    let rested = g.S.Store.rested in
    let old = c.in-Bare.store in
    let new = c.plan_cut-in-Bare.new.self in
    let is = ap (mount_state machine age rested) c.in-Bare.is in
    let P : MountState → Type 0 = λ point. PointGoes point (lines.Cut c.args.n c.args.how) (answers.Reply replies.Done) (Bare (machine new) (age new) (rested new)) in
    let A : MountState → Type 0 = λ point. point_age point < 2 ^ 63 - 2 ^ 40 in
    subst P (sym is) (bare_cut (machine old) (machine new) (age old) (age new) (rested old) (rested new) c.args.n c.args.how (subst Known is c.requires.known) c.plan_cut-in-Bare.ensures.planned c.plan_cut-in-Bare.ensures.age c.plan_cut-in-Bare.ensures.rested (subst A is c.requires.age))

pub returns-in-Mounted-clause-goes : goal.returns-in-Mounted-clause-goes
returns-in-Mounted-clause-goes g c =
    let done = c.plan_cut.ensures in
    let is = ap (mount_state g.S.Store.machine g.S.Store.age g.S.Store.rested) c.in-Mounted.is in
    let P : MountState → Type 0 = λ point. PointGoes point (lines.Cut c.args.n c.args.how) (answers.Reply replies.Done) (Mounted c.plan_cut.new.self) in
    let A : MountState → Type 0 = λ point. point_age point < 2 ^ 63 - 2 ^ 40 in
    subst P (sym is) (cut_goes c.in-Mounted.session c.plan_cut.new.self c.args.n c.args.how (subst Known is c.requires.known) done.goes_on done.planned done.room done.numbers done.age (subst A is c.requires.age))
