use Rattle.std.proofs.Common.{ap, sym, subst}
use Rattle.kfs_model.specs.declared.Line.TheVariants as lines
use Rattle.kfs_model.specs.declared.Answer.TheVariants as answers
use Rattle.kfs_runner.specs.MountPoints.{MountState, Mounted, Known, PointGoes, mount_state}
use Rattle.kfs_runner.proofs.PointLaws.{call_goes}
use Rattle.kfs_runner.proofs.mount_point.MountPoint.call.Goals as goal

pub returns-in-Mounted-clause-goes : goal.returns-in-Mounted-clause-goes
returns-in-Mounted-clause-goes g c =
    let is = ap (mount_state g.S.Store.machine g.S.Store.age g.S.Store.rested) c.in-Mounted.is in
    let P : MountState → Type 0 = λ point. PointGoes point (lines.Call c.args.call.now) (answers.Reply c.step-reply.result) (Mounted c.step-reply.new.self) in
    subst P (sym is) (call_goes c.in-Mounted.session c.step-reply.new.self c.args.call.now c.step-reply.result (subst Known is c.requires.known) c.step-reply.ensures.answers.goes_on c.step-reply.ensures.answers.counts c.step-reply.ensures.answers.room c.step-reply.ensures.answers.age)
