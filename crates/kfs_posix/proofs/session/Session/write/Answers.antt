use Rattle.std.proofs.Common.{◌^◌, arith, refl}
use Rattle.kfs_path.specs.declared.call.Call.TheVariants as calls
use Rattle.kfs_posix.proofs.Calls.{none_of}
use Rattle.kfs_posix.proofs.Answered.{age_in, answers_of, off_answers}
use Rattle.kfs_path.specs.declared.call.Data.TheVariants.{Plain}
use Rattle.kfs_posix.proofs.WriteAnswers.{write_answered, write_failed}
use Rattle.kfs_posix.proofs.session.Session.write.Goals as goal
use Rattle.kfs_posix.proofs.Shown.{showing_after, showing_in, awake_in}
use Rattle.kfs_posix.specs.Volume.{volume_of}
use Rattle.kfs_posix.specs.Answering.{refusal, down_after}

pub returns-then-is_some : goal.returns-then-is_some
returns-then-is_some g c = off_answers c.args.self.now c.self.inside.kfs c.self.inside.files.opens c.self.inside.down (calls.Write c.args.fd (Plain c.args.bytes.now)) c.self.view_is c.if-is_some.ensures

pub write-requires : goal.write-requires
write-requires g c = age_in c.args.self.now c.self.inside.kfs c.self.inside.files.opens c.self.inside.down c.self.view_is c.requires

pub refuse-requires : goal.refuse-requires
refuse-requires g c = (write_failed c.args.self.now c.self.inside.kfs c.write.new.kfs c.self.inside.files.opens c.write.new.files.opens c.self.inside.down c.self.view_is (none_of c.self.inside.down c.if-is_some.ensures) (awake_in (volume_of c.self.inside.kfs c.self.inside.files.opens c.self.inside.down) c.self.invariant (none_of c.self.inside.down c.if-is_some.ensures)) c.requires c.args.fd c.args.bytes.now c.in-Err.fault (refusal c.in-Err.fault) (down_after c.self.inside.down c.in-Err.fault) c.in-Err.ensures.does refl refl).answerable (showing_in c.args.self.now c.self.inside.kfs c.self.inside.files.opens c.self.inside.down c.self.view_is c.self.invariant)

pub invariant_of-self-in-Err : goal.invariant_of-self-in-Err
invariant_of-self-in-Err g c = showing_after c.args.self.now c.self.inside.kfs c.self.inside.files.opens c.self.inside.down c.self.view_is (none_of c.self.inside.down c.if-is_some.ensures) c.self.invariant _ _ _ (write_failed c.args.self.now c.self.inside.kfs c.write.new.kfs c.self.inside.files.opens c.write.new.files.opens c.self.inside.down c.self.view_is (none_of c.self.inside.down c.if-is_some.ensures) (awake_in (volume_of c.self.inside.kfs c.self.inside.files.opens c.self.inside.down) c.self.invariant (none_of c.self.inside.down c.if-is_some.ensures)) c.requires c.args.fd c.args.bytes.now c.in-Err.fault c.refuse.result c.refuse.new.down c.in-Err.ensures.does c.refuse.ensures.reply c.refuse.ensures.down).happens.goes

pub returns-in-Err : goal.returns-in-Err
returns-in-Err g c = answers_of c.args.self.now c.self.inside.kfs c.write.new.kfs c.self.inside.files.opens _ c.self.inside.down _ _ _ (2 ^ 25) (omega arith) c.self.view_is c.in-Err.ensures.age (write_failed c.args.self.now c.self.inside.kfs c.write.new.kfs c.self.inside.files.opens c.write.new.files.opens c.self.inside.down c.self.view_is (none_of c.self.inside.down c.if-is_some.ensures) (awake_in (volume_of c.self.inside.kfs c.self.inside.files.opens c.self.inside.down) c.self.invariant (none_of c.self.inside.down c.if-is_some.ensures)) c.requires c.args.fd c.args.bytes.now c.in-Err.fault c.refuse.result c.refuse.new.down c.in-Err.ensures.does c.refuse.ensures.reply c.refuse.ensures.down).happens

pub invariant_of-self : goal.invariant_of-self
invariant_of-self g c = showing_after c.args.self.now c.self.inside.kfs c.self.inside.files.opens c.self.inside.down c.self.view_is (none_of c.self.inside.down c.if-is_some.ensures) c.self.invariant _ _ _ (write_answered c.args.self.now c.self.inside.kfs c.write.new.kfs c.self.inside.files.opens c.write.new.files.opens c.self.inside.down c.self.view_is (none_of c.self.inside.down c.if-is_some.ensures) (awake_in (volume_of c.self.inside.kfs c.self.inside.files.opens c.self.inside.down) c.self.invariant (none_of c.self.inside.down c.if-is_some.ensures)) c.requires c.args.fd c.args.bytes.now c.in-Ok.count c.in-Ok.ensures.does).goes

pub returns-in-Ok : goal.returns-in-Ok
returns-in-Ok g c = answers_of c.args.self.now c.self.inside.kfs c.write.new.kfs c.self.inside.files.opens _ c.self.inside.down _ _ _ (2 ^ 25) (omega arith) c.self.view_is c.in-Ok.ensures.age (write_answered c.args.self.now c.self.inside.kfs c.write.new.kfs c.self.inside.files.opens c.write.new.files.opens c.self.inside.down c.self.view_is (none_of c.self.inside.down c.if-is_some.ensures) (awake_in (volume_of c.self.inside.kfs c.self.inside.files.opens c.self.inside.down) c.self.invariant (none_of c.self.inside.down c.if-is_some.ensures)) c.requires c.args.fd c.args.bytes.now c.in-Ok.count c.in-Ok.ensures.does)
