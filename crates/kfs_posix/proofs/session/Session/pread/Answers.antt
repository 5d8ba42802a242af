use Rattle.std.proofs.Common.{refl, subst, arith, w64}
use Rattle.std.proofs.lemmas.Int.{to_z-of_z}
use Rattle.kfs_path.specs.declared.call.Call.TheVariants as calls
use Rattle.kfs_posix.proofs.Calls.{none_of}
use Rattle.kfs_posix.proofs.Answered.{age_in, answers_of, off_answers}
use Rattle.kfs_posix.proofs.ReadAnswers.{pread_answered, pread_failed}
use Rattle.std.proofs.Common.{Ok, Err}
use Rattle.kfs_model.specs.Step.{natural}
use Rattle.kfs_tx.specs.Tx.{seen}
use Rattle.kfs_core.specs.Core.{tx_in}
use Rattle.kfs_posix.specs.Reading.{PreadDoes, readable_at}
use Rattle.kfs_posix.proofs.session.Session.pread.Goals as goal
use Rattle.kfs_posix.proofs.Shown.{showing_after, showing_in, awake_in}
use Rattle.kfs_posix.specs.Volume.{volume_of}
use Rattle.kfs_posix.specs.Answering.{refusal, down_after}

pub returns-then-is_some : goal.returns-then-is_some
returns-then-is_some g c = off_answers c.args.self.now c.self.inside.kfs c.self.inside.files.opens c.self.inside.down (calls.Pread c.args.fd c.args.count c.args.offset) c.self.view_is c.if-is_some.ensures

pub pread-requires : goal.pread-requires
pread-requires g c = age_in c.args.self.now c.self.inside.kfs c.self.inside.files.opens c.self.inside.down c.self.view_is c.requires

pub refuse-requires : goal.refuse-requires
refuse-requires g c = (pread_failed c.args.self.now c.self.inside.kfs c.pread.new.kfs c.self.inside.files.opens c.self.inside.files.opens c.self.inside.down c.self.view_is (none_of c.self.inside.down c.if-is_some.ensures) (awake_in (volume_of c.self.inside.kfs c.self.inside.files.opens c.self.inside.down) c.self.invariant (none_of c.self.inside.down c.if-is_some.ensures)) c.in-Err.ensures.rest c.args.fd c.args.count c.args.offset c.in-Err.fault (refusal c.in-Err.fault) (down_after c.self.inside.down c.in-Err.fault) (subst (λ z. PreadDoes (seen (tx_in c.self.inside.kfs)) (readable_at c.self.inside.files.opens c.args.fd c.args.count z) (natural z) c.args.count (Err c.in-Err.fault)) (to_z-of_z w64 c.args.offset c.ranges.offset) c.in-Err.ensures.does) refl c.in-Err.ensures.leaves refl refl).answerable (showing_in c.args.self.now c.self.inside.kfs c.self.inside.files.opens c.self.inside.down c.self.view_is c.self.invariant)

pub invariant_of-self-in-Err : goal.invariant_of-self-in-Err
invariant_of-self-in-Err g c = showing_after c.args.self.now c.self.inside.kfs c.self.inside.files.opens c.self.inside.down c.self.view_is (none_of c.self.inside.down c.if-is_some.ensures) c.self.invariant _ _ _ (pread_failed c.args.self.now c.self.inside.kfs c.pread.new.kfs c.self.inside.files.opens c.self.inside.files.opens c.self.inside.down c.self.view_is (none_of c.self.inside.down c.if-is_some.ensures) (awake_in (volume_of c.self.inside.kfs c.self.inside.files.opens c.self.inside.down) c.self.invariant (none_of c.self.inside.down c.if-is_some.ensures)) c.in-Err.ensures.rest c.args.fd c.args.count c.args.offset c.in-Err.fault c.refuse.result c.refuse.new.down (subst (λ z. PreadDoes (seen (tx_in c.self.inside.kfs)) (readable_at c.self.inside.files.opens c.args.fd c.args.count z) (natural z) c.args.count (Err c.in-Err.fault)) (to_z-of_z w64 c.args.offset c.ranges.offset) c.in-Err.ensures.does) refl c.in-Err.ensures.leaves c.refuse.ensures.reply c.refuse.ensures.down).happens.goes

pub returns-in-Err : goal.returns-in-Err
returns-in-Err g c = answers_of c.args.self.now c.self.inside.kfs c.pread.new.kfs c.self.inside.files.opens _ c.self.inside.down _ _ _ (0) (omega arith) c.self.view_is c.in-Err.ensures.age (pread_failed c.args.self.now c.self.inside.kfs c.pread.new.kfs c.self.inside.files.opens c.self.inside.files.opens c.self.inside.down c.self.view_is (none_of c.self.inside.down c.if-is_some.ensures) (awake_in (volume_of c.self.inside.kfs c.self.inside.files.opens c.self.inside.down) c.self.invariant (none_of c.self.inside.down c.if-is_some.ensures)) c.in-Err.ensures.rest c.args.fd c.args.count c.args.offset c.in-Err.fault c.refuse.result c.refuse.new.down (subst (λ z. PreadDoes (seen (tx_in c.self.inside.kfs)) (readable_at c.self.inside.files.opens c.args.fd c.args.count z) (natural z) c.args.count (Err c.in-Err.fault)) (to_z-of_z w64 c.args.offset c.ranges.offset) c.in-Err.ensures.does) refl c.in-Err.ensures.leaves c.refuse.ensures.reply c.refuse.ensures.down).happens

pub invariant_of-self : goal.invariant_of-self
invariant_of-self g c = showing_after c.args.self.now c.self.inside.kfs c.self.inside.files.opens c.self.inside.down c.self.view_is (none_of c.self.inside.down c.if-is_some.ensures) c.self.invariant _ _ _ (pread_answered c.args.self.now c.self.inside.kfs c.pread.new.kfs c.self.inside.files.opens c.self.inside.files.opens c.self.inside.down c.self.view_is (none_of c.self.inside.down c.if-is_some.ensures) (awake_in (volume_of c.self.inside.kfs c.self.inside.files.opens c.self.inside.down) c.self.invariant (none_of c.self.inside.down c.if-is_some.ensures)) c.in-Ok.ensures.rest c.args.fd c.args.count c.args.offset c.in-Ok.text (subst (λ z. PreadDoes (seen (tx_in c.self.inside.kfs)) (readable_at c.self.inside.files.opens c.args.fd c.args.count z) (natural z) c.args.count (Ok c.in-Ok.text)) (to_z-of_z w64 c.args.offset c.ranges.offset) c.in-Ok.ensures.does) refl c.in-Ok.ensures.leaves).goes

pub returns-in-Ok : goal.returns-in-Ok
returns-in-Ok g c = answers_of c.args.self.now c.self.inside.kfs c.pread.new.kfs c.self.inside.files.opens _ c.self.inside.down _ _ _ (0) (omega arith) c.self.view_is c.in-Ok.ensures.age (pread_answered c.args.self.now c.self.inside.kfs c.pread.new.kfs c.self.inside.files.opens c.self.inside.files.opens c.self.inside.down c.self.view_is (none_of c.self.inside.down c.if-is_some.ensures) (awake_in (volume_of c.self.inside.kfs c.self.inside.files.opens c.self.inside.down) c.self.invariant (none_of c.self.inside.down c.if-is_some.ensures)) c.in-Ok.ensures.rest c.args.fd c.args.count c.args.offset c.in-Ok.text (subst (λ z. PreadDoes (seen (tx_in c.self.inside.kfs)) (readable_at c.self.inside.files.opens c.args.fd c.args.count z) (natural z) c.args.count (Ok c.in-Ok.text)) (to_z-of_z w64 c.args.offset c.ranges.offset) c.in-Ok.ensures.does) refl c.in-Ok.ensures.leaves)
