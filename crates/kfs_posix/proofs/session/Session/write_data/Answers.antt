use Rattle.std.proofs.Common.{◌^◌, ◌∙◌, refl, sym, ap, subst, arith}
use Rattle.kfs_path.specs.declared.call.Call.TheVariants as calls
use Rattle.kfs_path.specs.declared.call.Data.TheVariants.{Plain}
use Rattle.kfs_model.specs.declared.Line.TheVariants as lines
use Rattle.kfs_model.specs.declared.Answer.TheVariants as answers
use Rattle.kfs_posix.specs.Showing.{GoesOn}
use Rattle.kfs_posix.proofs.Calls.{none_of, any_cause}
use Rattle.kfs_posix.proofs.Answered.{off_answers, aged_none, answers_of, named_answers, goes_answers}
use Rattle.kfs_posix.proofs.Filling.{filled_goes}
use Rattle.kfs_posix.proofs.WriteAnswers.{no_memory}
use Rattle.kfs_posix.proofs.session.Session.write_data.Goals as goal
use Rattle.kfs_posix.proofs.Shown.{showing_after, showing_in, awake_in}
use Rattle.kfs_posix.specs.Volume.{volume_of}
use Rattle.kfs_posix.specs.Answering.{refusal, down_after}

pub returns-in-Plain : goal.returns-in-Plain
returns-in-Plain g c = named_answers c.args.self.now c.write.new.self (calls.Write c.args.fd (Plain c.bytes.result.now)) (calls.Write c.args.fd c.args.given.now) c.write.result (ap (λ x. (calls.Write c.args.fd x)) (ap Plain c.bytes.ensures ∙ sym c.in-Plain.is)) c.write.ensures

pub returns-then-is_some : goal.returns-then-is_some
returns-then-is_some g c = off_answers c.args.self.now c.self.inside.kfs c.self.inside.files.opens c.self.inside.down (calls.Write c.args.fd c.args.given.now) c.self.view_is c.if-is_some.ensures

pub returns-in-Ok : goal.returns-in-Ok
returns-in-Ok g c = goes_answers c.args.self.now c.write-in-Ok.new.self _ (calls.Write c.args.fd c.args.given.now) c.write-in-Ok.result (subst (λ x. GoesOn c.args.self.now.volume (lines.Call (calls.Write c.args.fd x)) (answers.Reply c.write-in-Ok.result) c.write-in-Ok.new.self.volume) (sym c.in-Fill.is) (filled_goes c.args.self.now.volume c.write-in-Ok.new.self.volume c.args.fd c.in-Fill.count c.in-Fill.byte c.bytes-in-Ok.result.now c.write-in-Ok.result (c.bytes-in-Ok.ensures ∙ c.in-Ok.ensures.ok) c.write-in-Ok.ensures.goes_on)) c.write-in-Ok.ensures

pub refuse-requires : goal.refuse-requires
refuse-requires g c = (no_memory c.args.self.now c.self.inside.kfs c.self.inside.files.opens c.self.inside.down c.self.view_is (none_of c.self.inside.down c.if-is_some.ensures) (awake_in (volume_of c.self.inside.kfs c.self.inside.files.opens c.self.inside.down) c.self.invariant (none_of c.self.inside.down c.if-is_some.ensures)) c.requires (calls.Write c.args.fd c.args.given.now) (λ w cause. any_cause w (calls.Write c.args.fd c.args.given.now) refl refl refl cause) c.in-Err.fault (refusal c.in-Err.fault) (down_after c.self.inside.down c.in-Err.fault) c.in-Err.ensures.err refl refl).answerable (showing_in c.args.self.now c.self.inside.kfs c.self.inside.files.opens c.self.inside.down c.self.view_is c.self.invariant)

pub invariant_of-self : goal.invariant_of-self
invariant_of-self g c = showing_after c.args.self.now c.self.inside.kfs c.self.inside.files.opens c.self.inside.down c.self.view_is (none_of c.self.inside.down c.if-is_some.ensures) c.self.invariant _ _ _ (no_memory c.args.self.now c.self.inside.kfs c.self.inside.files.opens c.self.inside.down c.self.view_is (none_of c.self.inside.down c.if-is_some.ensures) (awake_in (volume_of c.self.inside.kfs c.self.inside.files.opens c.self.inside.down) c.self.invariant (none_of c.self.inside.down c.if-is_some.ensures)) c.requires (calls.Write c.args.fd c.args.given.now) (λ w cause. any_cause w (calls.Write c.args.fd c.args.given.now) refl refl refl cause) c.in-Err.fault c.refuse.result c.refuse.new.down c.in-Err.ensures.err c.refuse.ensures.reply c.refuse.ensures.down).happens.goes

pub returns-in-Err : goal.returns-in-Err
returns-in-Err g c = answers_of c.args.self.now c.self.inside.kfs c.self.inside.kfs c.self.inside.files.opens _ c.self.inside.down _ _ _ (2 ^ 38) (omega arith) c.self.view_is (aged_none _) (no_memory c.args.self.now c.self.inside.kfs c.self.inside.files.opens c.self.inside.down c.self.view_is (none_of c.self.inside.down c.if-is_some.ensures) (awake_in (volume_of c.self.inside.kfs c.self.inside.files.opens c.self.inside.down) c.self.invariant (none_of c.self.inside.down c.if-is_some.ensures)) c.requires (calls.Write c.args.fd c.args.given.now) (λ w cause. any_cause w (calls.Write c.args.fd c.args.given.now) refl refl refl cause) c.in-Err.fault c.refuse.result c.refuse.new.down c.in-Err.ensures.err c.refuse.ensures.reply c.refuse.ensures.down).happens
