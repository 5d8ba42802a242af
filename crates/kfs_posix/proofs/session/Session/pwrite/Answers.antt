use Rattle.std.proofs.Common.{◌^◌, subst, arith, w64, refl}
use Rattle.std.proofs.lemmas.Int.{to_z-of_z}
use Rattle.kfs_path.specs.declared.call.Call.TheVariants as calls
use Rattle.kfs_posix.proofs.Calls.{none_of}
use Rattle.kfs_posix.proofs.Answered.{age_in, answers_of, off_answers}
use Rattle.std.proofs.Common.{Ok, Err}
use Rattle.kfs_path.specs.declared.call.Data.TheVariants.{Plain}
use Rattle.kfs_model.specs.Step.{natural}
use Rattle.kfs_posix.specs.Writing.{PwriteDoes, writable_at}
use Rattle.kfs_posix.proofs.WriteAnswers.{pwrite_answered, pwrite_failed}
use Rattle.kfs_posix.proofs.session.Session.pwrite.Goals as goal
use Rattle.kfs_posix.proofs.Shown.{showing_after, showing_in, awake_in}
use Rattle.kfs_posix.specs.Volume.{volume_of}
use Rattle.kfs_posix.specs.Answering.{refusal, down_after}

pub returns-then-is_some : goal.returns-then-is_some
returns-then-is_some g c = off_answers c.args.self.now c.self.inside.kfs c.self.inside.files.opens c.self.inside.down (calls.Pwrite c.args.fd (Plain c.args.bytes.now) c.args.offset) c.self.view_is c.if-is_some.ensures

pub pwrite-requires : goal.pwrite-requires
pwrite-requires g c = age_in c.args.self.now c.self.inside.kfs c.self.inside.files.opens c.self.inside.down c.self.view_is c.requires

pub refuse-requires : goal.refuse-requires
refuse-requires g c = (pwrite_failed c.args.self.now c.self.inside.kfs c.pwrite.new.kfs c.self.inside.files.opens c.pwrite.new.files.opens c.self.inside.down c.self.view_is (none_of c.self.inside.down c.if-is_some.ensures) (awake_in (volume_of c.self.inside.kfs c.self.inside.files.opens c.self.inside.down) c.self.invariant (none_of c.self.inside.down c.if-is_some.ensures)) c.requires c.args.fd c.args.bytes.now c.args.offset c.in-Err.fault (refusal c.in-Err.fault) (down_after c.self.inside.down c.in-Err.fault) (subst (λ z. PwriteDoes c.self.inside.kfs c.self.inside.files.opens (writable_at c.self.inside.files.opens c.args.fd z) (natural z) c.args.bytes.now (Err c.in-Err.fault) c.pwrite.new.kfs c.pwrite.new.files.opens) (to_z-of_z w64 c.args.offset c.ranges.offset) c.in-Err.ensures.does) refl refl).answerable (showing_in c.args.self.now c.self.inside.kfs c.self.inside.files.opens c.self.inside.down c.self.view_is c.self.invariant)

pub invariant_of-self-in-Err : goal.invariant_of-self-in-Err
invariant_of-self-in-Err g c = showing_after c.args.self.now c.self.inside.kfs c.self.inside.files.opens c.self.inside.down c.self.view_is (none_of c.self.inside.down c.if-is_some.ensures) c.self.invariant _ _ _ (pwrite_failed c.args.self.now c.self.inside.kfs c.pwrite.new.kfs c.self.inside.files.opens c.pwrite.new.files.opens c.self.inside.down c.self.view_is (none_of c.self.inside.down c.if-is_some.ensures) (awake_in (volume_of c.self.inside.kfs c.self.inside.files.opens c.self.inside.down) c.self.invariant (none_of c.self.inside.down c.if-is_some.ensures)) c.requires c.args.fd c.args.bytes.now c.args.offset c.in-Err.fault c.refuse.result c.refuse.new.down (subst (λ z. PwriteDoes c.self.inside.kfs c.self.inside.files.opens (writable_at c.self.inside.files.opens c.args.fd z) (natural z) c.args.bytes.now (Err c.in-Err.fault) c.pwrite.new.kfs c.pwrite.new.files.opens) (to_z-of_z w64 c.args.offset c.ranges.offset) c.in-Err.ensures.does) c.refuse.ensures.reply c.refuse.ensures.down).happens.goes

pub returns-in-Err : goal.returns-in-Err
returns-in-Err g c = answers_of c.args.self.now c.self.inside.kfs c.pwrite.new.kfs c.self.inside.files.opens _ c.self.inside.down _ _ _ (2 ^ 25) (omega arith) c.self.view_is c.in-Err.ensures.age (pwrite_failed c.args.self.now c.self.inside.kfs c.pwrite.new.kfs c.self.inside.files.opens c.pwrite.new.files.opens c.self.inside.down c.self.view_is (none_of c.self.inside.down c.if-is_some.ensures) (awake_in (volume_of c.self.inside.kfs c.self.inside.files.opens c.self.inside.down) c.self.invariant (none_of c.self.inside.down c.if-is_some.ensures)) c.requires c.args.fd c.args.bytes.now c.args.offset c.in-Err.fault c.refuse.result c.refuse.new.down (subst (λ z. PwriteDoes c.self.inside.kfs c.self.inside.files.opens (writable_at c.self.inside.files.opens c.args.fd z) (natural z) c.args.bytes.now (Err c.in-Err.fault) c.pwrite.new.kfs c.pwrite.new.files.opens) (to_z-of_z w64 c.args.offset c.ranges.offset) c.in-Err.ensures.does) c.refuse.ensures.reply c.refuse.ensures.down).happens

pub invariant_of-self : goal.invariant_of-self
invariant_of-self g c = showing_after c.args.self.now c.self.inside.kfs c.self.inside.files.opens c.self.inside.down c.self.view_is (none_of c.self.inside.down c.if-is_some.ensures) c.self.invariant _ _ _ (pwrite_answered c.args.self.now c.self.inside.kfs c.pwrite.new.kfs c.self.inside.files.opens c.pwrite.new.files.opens c.self.inside.down c.self.view_is (none_of c.self.inside.down c.if-is_some.ensures) (awake_in (volume_of c.self.inside.kfs c.self.inside.files.opens c.self.inside.down) c.self.invariant (none_of c.self.inside.down c.if-is_some.ensures)) c.requires c.args.fd c.args.bytes.now c.args.offset c.in-Ok.count (subst (λ z. PwriteDoes c.self.inside.kfs c.self.inside.files.opens (writable_at c.self.inside.files.opens c.args.fd z) (natural z) c.args.bytes.now (Ok c.in-Ok.count) c.pwrite.new.kfs c.pwrite.new.files.opens) (to_z-of_z w64 c.args.offset c.ranges.offset) c.in-Ok.ensures.does)).goes

pub returns-in-Ok : goal.returns-in-Ok
returns-in-Ok g c = answers_of c.args.self.now c.self.inside.kfs c.pwrite.new.kfs c.self.inside.files.opens _ c.self.inside.down _ _ _ (2 ^ 25) (omega arith) c.self.view_is c.in-Ok.ensures.age (pwrite_answered c.args.self.now c.self.inside.kfs c.pwrite.new.kfs c.self.inside.files.opens c.pwrite.new.files.opens c.self.inside.down c.self.view_is (none_of c.self.inside.down c.if-is_some.ensures) (awake_in (volume_of c.self.inside.kfs c.self.inside.files.opens c.self.inside.down) c.self.invariant (none_of c.self.inside.down c.if-is_some.ensures)) c.requires c.args.fd c.args.bytes.now c.args.offset c.in-Ok.count (subst (λ z. PwriteDoes c.self.inside.kfs c.self.inside.files.opens (writable_at c.self.inside.files.opens c.args.fd z) (natural z) c.args.bytes.now (Ok c.in-Ok.count) c.pwrite.new.kfs c.pwrite.new.files.opens) (to_z-of_z w64 c.args.offset c.ranges.offset) c.in-Ok.ensures.does))
