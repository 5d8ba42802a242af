use Rattle.std.proofs.Common.{◌^◌, arith, refl}
use Rattle.kfs_path.specs.declared.call.Call.TheVariants as calls
use Rattle.kfs_posix.proofs.Calls.{none_of}
use Rattle.kfs_posix.proofs.Answered.{age_in, answers_of, off_answers}
use Rattle.kfs_posix.proofs.Asking.{work_asked}
use Rattle.kfs_posix.proofs.WholeAnswers.{work_answered, work_failed}
use Rattle.kfs_posix.proofs.session.Session.work.Goals as goal
use Rattle.kfs_posix.proofs.Shown.{showing_after, showing_in, awake_in}
use Rattle.kfs_posix.specs.Volume.{volume_of}
use Rattle.kfs_posix.specs.Answering.{refusal, down_after}

pub returns-then-is_some-clause-answers : goal.returns-then-is_some-clause-answers
returns-then-is_some-clause-answers g c = off_answers c.args.self.now c.self.inside.kfs c.self.inside.files.opens c.self.inside.down (calls.Work c.args.operations) c.self.view_is c.if-is_some.ensures

pub work-requires : goal.work-requires
work-requires g c = age_in c.args.self.now c.self.inside.kfs c.self.inside.files.opens c.self.inside.down c.self.view_is c.requires

pub refuse-requires : goal.refuse-requires
refuse-requires g c = (work_failed c.args.self.now c.self.inside.kfs c.work.new.self c.self.inside.files.opens c.self.inside.down c.self.view_is (none_of c.self.inside.down c.if-is_some.ensures) (awake_in (volume_of c.self.inside.kfs c.self.inside.files.opens c.self.inside.down) c.self.invariant (none_of c.self.inside.down c.if-is_some.ensures)) c.in-Err.ensures.rest c.args.operations c.in-Err.fault (refusal c.in-Err.fault) (down_after c.self.inside.down c.in-Err.fault) c.in-Err.ensures.err refl refl).answerable (showing_in c.args.self.now c.self.inside.kfs c.self.inside.files.opens c.self.inside.down c.self.view_is c.self.invariant)

pub invariant_of-self-in-Err : goal.invariant_of-self-in-Err
invariant_of-self-in-Err g c = showing_after c.args.self.now c.self.inside.kfs c.self.inside.files.opens c.self.inside.down c.self.view_is (none_of c.self.inside.down c.if-is_some.ensures) c.self.invariant _ _ _ (work_failed c.args.self.now c.self.inside.kfs c.work.new.self c.self.inside.files.opens c.self.inside.down c.self.view_is (none_of c.self.inside.down c.if-is_some.ensures) (awake_in (volume_of c.self.inside.kfs c.self.inside.files.opens c.self.inside.down) c.self.invariant (none_of c.self.inside.down c.if-is_some.ensures)) c.in-Err.ensures.rest c.args.operations c.in-Err.fault c.refuse.result c.refuse.new.down c.in-Err.ensures.err c.refuse.ensures.reply c.refuse.ensures.down).happens.goes

pub returns-in-Err-clause-answers : goal.returns-in-Err-clause-answers
returns-in-Err-clause-answers g c = answers_of c.args.self.now c.self.inside.kfs c.work.new.self c.self.inside.files.opens _ c.self.inside.down _ _ _ (2 ^ 20) (omega arith) c.self.view_is c.in-Err.ensures.age (work_failed c.args.self.now c.self.inside.kfs c.work.new.self c.self.inside.files.opens c.self.inside.down c.self.view_is (none_of c.self.inside.down c.if-is_some.ensures) (awake_in (volume_of c.self.inside.kfs c.self.inside.files.opens c.self.inside.down) c.self.invariant (none_of c.self.inside.down c.if-is_some.ensures)) c.in-Err.ensures.rest c.args.operations c.in-Err.fault c.refuse.result c.refuse.new.down c.in-Err.ensures.err c.refuse.ensures.reply c.refuse.ensures.down).happens

pub invariant_of-self : goal.invariant_of-self
invariant_of-self g c = showing_after c.args.self.now c.self.inside.kfs c.self.inside.files.opens c.self.inside.down c.self.view_is (none_of c.self.inside.down c.if-is_some.ensures) c.self.invariant _ _ _ (work_answered c.args.self.now c.self.inside.kfs c.work.new.self c.self.inside.files.opens c.self.inside.down c.self.view_is (none_of c.self.inside.down c.if-is_some.ensures) (awake_in (volume_of c.self.inside.kfs c.self.inside.files.opens c.self.inside.down) c.self.invariant (none_of c.self.inside.down c.if-is_some.ensures)) c.in-Ok.ensures.rest c.args.operations c.in-Ok.ensures.same).goes

pub returns-in-Ok-clause-answers : goal.returns-in-Ok-clause-answers
returns-in-Ok-clause-answers g c = answers_of c.args.self.now c.self.inside.kfs c.work.new.self c.self.inside.files.opens _ c.self.inside.down _ _ _ (2 ^ 20) (omega arith) c.self.view_is c.in-Ok.ensures.age (work_answered c.args.self.now c.self.inside.kfs c.work.new.self c.self.inside.files.opens c.self.inside.down c.self.view_is (none_of c.self.inside.down c.if-is_some.ensures) (awake_in (volume_of c.self.inside.kfs c.self.inside.files.opens c.self.inside.down) c.self.invariant (none_of c.self.inside.down c.if-is_some.ensures)) c.in-Ok.ensures.rest c.args.operations c.in-Ok.ensures.same)

pub returns-in-Err-clause-asked : goal.returns-in-Err-clause-asked
returns-in-Err-clause-asked g c = work_asked c.args.operations c.refuse.result c.work.new.self.running.asked c.work.ensures.asked
