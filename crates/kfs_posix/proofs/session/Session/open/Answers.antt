use Rattle.std.proofs.Common.{◌^◌, arith, subst, sym, refl}
use Rattle.kfs_path.specs.declared.call.Call.TheVariants as calls
use Rattle.kfs_path.specs.declared.call.Reply.TheVariants as replies
use Rattle.kfs_model.specs.declared.Line.TheVariants as lines
use Rattle.kfs_model.specs.declared.Answer.TheVariants as answers
use Rattle.kfs_posix.specs.Volume.{volume_of, state_of}
use Rattle.kfs_posix.specs.Showing.{GoesOn}
use Rattle.kfs_posix.proofs.Calls.{none_of}
use Rattle.kfs_posix.proofs.Answered.{age_in, answers_of, off_answers}
use Rattle.kfs_posix.proofs.OpenAnswers.{open_answered, open_failed}
use Rattle.kfs_posix.proofs.session.Session.open.Goals as goal
use Rattle.kfs_posix.proofs.Shown.{showing_after, showing_in, awake_in}
use Rattle.kfs_posix.specs.Answering.{Answers, refusal, down_after}

pub returns-then-is_some : goal.returns-then-is_some
returns-then-is_some g c = off_answers c.args.self.now c.self.inside.kfs c.self.inside.files.opens c.self.inside.down (calls.Open c.args.path.now c.args.flags) c.self.view_is c.if-is_some.ensures

pub open-requires : goal.open-requires
open-requires g c = record { age = age_in c.args.self.now c.self.inside.kfs c.self.inside.files.opens c.self.inside.down c.self.view_is c.requires }

pub refuse-requires : goal.refuse-requires
refuse-requires g c = (open_failed c.args.self.now c.self.inside.kfs c.open.new.kfs c.self.inside.files.opens c.open.new.files.opens c.self.inside.down c.self.view_is (none_of c.self.inside.down c.if-is_some.ensures) (awake_in (volume_of c.self.inside.kfs c.self.inside.files.opens c.self.inside.down) c.self.invariant (none_of c.self.inside.down c.if-is_some.ensures)) c.requires c.in-Err.ensures.keys c.in-Err.ensures.pages c.args.path.now c.args.flags c.in-Err.fault (refusal c.in-Err.fault) (down_after c.self.inside.down c.in-Err.fault) c.in-Err.ensures.does refl refl).answerable (showing_in c.args.self.now c.self.inside.kfs c.self.inside.files.opens c.self.inside.down c.self.view_is c.self.invariant)

pub invariant_of-self-in-Err : goal.invariant_of-self-in-Err
invariant_of-self-in-Err g c = showing_after c.args.self.now c.self.inside.kfs c.self.inside.files.opens c.self.inside.down c.self.view_is (none_of c.self.inside.down c.if-is_some.ensures) c.self.invariant _ _ _ (open_failed c.args.self.now c.self.inside.kfs c.open.new.kfs c.self.inside.files.opens c.open.new.files.opens c.self.inside.down c.self.view_is (none_of c.self.inside.down c.if-is_some.ensures) (awake_in (volume_of c.self.inside.kfs c.self.inside.files.opens c.self.inside.down) c.self.invariant (none_of c.self.inside.down c.if-is_some.ensures)) c.requires c.in-Err.ensures.keys c.in-Err.ensures.pages c.args.path.now c.args.flags c.in-Err.fault c.refuse.result c.refuse.new.down c.in-Err.ensures.does c.refuse.ensures.reply c.refuse.ensures.down).happens.goes

pub returns-in-Err : goal.returns-in-Err
returns-in-Err g c = answers_of c.args.self.now c.self.inside.kfs c.open.new.kfs c.self.inside.files.opens _ c.self.inside.down _ _ _ (2 ^ 17) (omega arith) c.self.view_is c.in-Err.ensures.age (open_failed c.args.self.now c.self.inside.kfs c.open.new.kfs c.self.inside.files.opens c.open.new.files.opens c.self.inside.down c.self.view_is (none_of c.self.inside.down c.if-is_some.ensures) (awake_in (volume_of c.self.inside.kfs c.self.inside.files.opens c.self.inside.down) c.self.invariant (none_of c.self.inside.down c.if-is_some.ensures)) c.requires c.in-Err.ensures.keys c.in-Err.ensures.pages c.args.path.now c.args.flags c.in-Err.fault c.refuse.result c.refuse.new.down c.in-Err.ensures.does c.refuse.ensures.reply c.refuse.ensures.down).happens

pub invariant_of-self : goal.invariant_of-self
invariant_of-self g c = showing_after c.args.self.now c.self.inside.kfs c.self.inside.files.opens c.self.inside.down c.self.view_is (none_of c.self.inside.down c.if-is_some.ensures) c.self.invariant _ _ _ (subst (λ n. GoesOn c.args.self.now.volume (lines.Call (calls.Open c.args.path.now c.args.flags)) (answers.Reply (replies.Number n)) (volume_of c.open.new.kfs c.open.new.files.opens c.self.inside.down)) (sym c.from.ensures) (open_answered c.args.self.now c.self.inside.kfs c.open.new.kfs c.self.inside.files.opens c.open.new.files.opens c.self.inside.down c.self.view_is (none_of c.self.inside.down c.if-is_some.ensures) (awake_in (volume_of c.self.inside.kfs c.self.inside.files.opens c.self.inside.down) c.self.invariant (none_of c.self.inside.down c.if-is_some.ensures)) c.requires c.in-Ok.ensures.keys c.in-Ok.ensures.pages c.args.path.now c.args.flags c.in-Ok.fd c.in-Ok.ensures.does).goes)

pub returns-in-Ok : goal.returns-in-Ok
returns-in-Ok g c = subst (λ n. Answers c.args.self.now (calls.Open c.args.path.now c.args.flags) (replies.Number n) (state_of c.open.new.kfs c.open.new.files.opens c.self.inside.down)) (sym c.from.ensures) (answers_of c.args.self.now c.self.inside.kfs c.open.new.kfs c.self.inside.files.opens _ c.self.inside.down _ _ _ (2 ^ 17) (omega arith) c.self.view_is c.in-Ok.ensures.age (open_answered c.args.self.now c.self.inside.kfs c.open.new.kfs c.self.inside.files.opens c.open.new.files.opens c.self.inside.down c.self.view_is (none_of c.self.inside.down c.if-is_some.ensures) (awake_in (volume_of c.self.inside.kfs c.self.inside.files.opens c.self.inside.down) c.self.invariant (none_of c.self.inside.down c.if-is_some.ensures)) c.requires c.in-Ok.ensures.keys c.in-Ok.ensures.pages c.args.path.now c.args.flags c.in-Ok.fd c.in-Ok.ensures.does))
