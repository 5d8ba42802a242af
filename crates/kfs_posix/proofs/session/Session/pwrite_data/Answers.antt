use Rattle.std.proofs.Common.{◌^◌, ◌∙◌, refl, sym, ap, subst, arith, w64}
use Rattle.std.proofs.lemmas.Int.{to_z-of_z}
use Rattle.kfs_path.specs.declared.call.Call.TheVariants as calls
use Rattle.kfs_path.specs.declared.call.Data.TheVariants.{Plain}
use Rattle.kfs_model.specs.declared.Line.TheVariants as lines
use Rattle.kfs_model.specs.declared.Answer.TheVariants as answers
use Rattle.kfs_posix.specs.Showing.{GoesOn}
use Rattle.kfs_posix.proofs.Calls.{none_of, any_cause}
use Rattle.kfs_posix.proofs.Answered.{off_answers, aged_none, answers_of, named_answers, goes_answers}
use Rattle.kfs_posix.proofs.Filling.{pfilled_goes}
use Rattle.kfs_posix.proofs.WriteAnswers.{no_memory}
use Rattle.kfs_posix.proofs.session.Session.pwrite_data.Goals as goal
use Rattle.kfs_posix.proofs.Shown.{showing_after, showing_in, awake_in}
use Rattle.kfs_posix.specs.Volume.{volume_of}
use Rattle.kfs_posix.specs.Answering.{Answers, refusal, down_after}

pub returns-in-Plain : goal.returns-in-Plain
returns-in-Plain g c = named_answers c.args.self.now c.pwrite.new.self (calls.Pwrite c.args.fd (Plain c.bytes.result.now) c.args.offset) (calls.Pwrite c.args.fd c.args.given.now c.args.offset) c.pwrite.result (ap (λ x. (calls.Pwrite c.args.fd x c.args.offset)) (ap Plain c.bytes.ensures ∙ sym c.in-Plain.is)) (subst (λ z. Answers c.args.self.now (calls.Pwrite c.args.fd (Plain c.bytes.result.now) z) c.pwrite.result c.pwrite.new.self) (to_z-of_z w64 c.args.offset c.ranges.offset) c.pwrite.ensures)

pub returns-then-is_some : goal.returns-then-is_some
returns-then-is_some g c = off_answers c.args.self.now c.self.inside.kfs c.self.inside.files.opens c.self.inside.down (calls.Pwrite c.args.fd c.args.given.now c.args.offset) c.self.view_is c.if-is_some.ensures

pub returns-in-Ok : goal.returns-in-Ok
returns-in-Ok g c = goes_answers c.args.self.now c.pwrite-in-Ok.new.self _ (calls.Pwrite c.args.fd c.args.given.now c.args.offset) c.pwrite-in-Ok.result (subst (λ x. GoesOn c.args.self.now.volume (lines.Call (calls.Pwrite c.args.fd x c.args.offset)) (answers.Reply c.pwrite-in-Ok.result) c.pwrite-in-Ok.new.self.volume) (sym c.in-Fill.is) (pfilled_goes c.args.self.now.volume c.pwrite-in-Ok.new.self.volume c.args.fd c.in-Fill.count c.in-Fill.byte c.args.offset c.bytes-in-Ok.result.now c.pwrite-in-Ok.result (c.bytes-in-Ok.ensures ∙ c.in-Ok.ensures.ok) (subst (λ z. GoesOn c.args.self.now.volume (lines.Call (calls.Pwrite c.args.fd (Plain c.bytes-in-Ok.result.now) z)) (answers.Reply c.pwrite-in-Ok.result) c.pwrite-in-Ok.new.self.volume) (to_z-of_z w64 c.args.offset c.ranges.offset) c.pwrite-in-Ok.ensures.goes_on))) c.pwrite-in-Ok.ensures

pub refuse-requires : goal.refuse-requires
refuse-requires g c = (no_memory c.args.self.now c.self.inside.kfs c.self.inside.files.opens c.self.inside.down c.self.view_is (none_of c.self.inside.down c.if-is_some.ensures) (awake_in (volume_of c.self.inside.kfs c.self.inside.files.opens c.self.inside.down) c.self.invariant (none_of c.self.inside.down c.if-is_some.ensures)) c.requires (calls.Pwrite c.args.fd c.args.given.now c.args.offset) (λ w cause. any_cause w (calls.Pwrite c.args.fd c.args.given.now c.args.offset) refl refl refl cause) c.in-Err.fault (refusal c.in-Err.fault) (down_after c.self.inside.down c.in-Err.fault) c.in-Err.ensures.err refl refl).answerable (showing_in c.args.self.now c.self.inside.kfs c.self.inside.files.opens c.self.inside.down c.self.view_is c.self.invariant)

pub invariant_of-self : goal.invariant_of-self
invariant_of-self g c = showing_after c.args.self.now c.self.inside.kfs c.self.inside.files.opens c.self.inside.down c.self.view_is (none_of c.self.inside.down c.if-is_some.ensures) c.self.invariant _ _ _ (no_memory c.args.self.now c.self.inside.kfs c.self.inside.files.opens c.self.inside.down c.self.view_is (none_of c.self.inside.down c.if-is_some.ensures) (awake_in (volume_of c.self.inside.kfs c.self.inside.files.opens c.self.inside.down) c.self.invariant (none_of c.self.inside.down c.if-is_some.ensures)) c.requires (calls.Pwrite c.args.fd c.args.given.now c.args.offset) (λ w cause. any_cause w (calls.Pwrite c.args.fd c.args.given.now c.args.offset) refl refl refl cause) c.in-Err.fault c.refuse.result c.refuse.new.down c.in-Err.ensures.err c.refuse.ensures.reply c.refuse.ensures.down).happens.goes

pub returns-in-Err : goal.returns-in-Err
returns-in-Err g c = answers_of c.args.self.now c.self.inside.kfs c.self.inside.kfs c.self.inside.files.opens _ c.self.inside.down _ _ _ (2 ^ 38) (omega arith) c.self.view_is (aged_none _) (no_memory c.args.self.now c.self.inside.kfs c.self.inside.files.opens c.self.inside.down c.self.view_is (none_of c.self.inside.down c.if-is_some.ensures) (awake_in (volume_of c.self.inside.kfs c.self.inside.files.opens c.self.inside.down) c.self.invariant (none_of c.self.inside.down c.if-is_some.ensures)) c.requires (calls.Pwrite c.args.fd c.args.given.now c.args.offset) (λ w cause. any_cause w (calls.Pwrite c.args.fd c.args.given.now c.args.offset) refl refl refl cause) c.in-Err.fault c.refuse.result c.refuse.new.down c.in-Err.ensures.err c.refuse.ensures.reply c.refuse.ensures.down).happens
