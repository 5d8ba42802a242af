use Rattle.std.proofs.Common.{◌^◌, arith, subst, w64, refl}
use Rattle.std.proofs.lemmas.Int.{to_z-of_z}
use Rattle.kfs_path.specs.declared.call.Call.TheVariants as calls
use Rattle.kfs_model.specs.Step.{natural}
use Rattle.kfs_tx.specs.Tx.{seen}
use Rattle.kfs_core.specs.Core.{tx_in}
use Rattle.kfs_core.specs.Room.{space_in}
use Rattle.kfs_posix.specs.Volume.{volume_of}
use Rattle.kfs_posix.specs.Resizing.{truncate_by, Resized, NotResized}
use Rattle.kfs_posix.proofs.ResizeEvents.{truncate_resizing}
use Rattle.kfs_posix.proofs.ResizeAnswers.{resize_answered, resize_failed}
use Rattle.kfs_posix.proofs.Calls.{none_of}
use Rattle.kfs_posix.proofs.Answered.{age_in, answers_of, off_answers}
use Rattle.kfs_posix.proofs.session.Session.truncate.Goals as goal
use Rattle.kfs_posix.proofs.Shown.{showing_after, showing_in, awake_in}
use Rattle.kfs_posix.specs.Answering.{refusal, down_after}

pub returns-then-is_some : goal.returns-then-is_some
returns-then-is_some g c = off_answers c.args.self.now c.self.inside.kfs c.self.inside.files.opens c.self.inside.down (calls.Truncate c.args.path.now c.args.length) c.self.view_is c.if-is_some.ensures

pub truncate-requires : goal.truncate-requires
truncate-requires g c = age_in c.args.self.now c.self.inside.kfs c.self.inside.files.opens c.self.inside.down c.self.view_is c.requires

pub refuse-requires : goal.refuse-requires
refuse-requires g c = (resize_failed c.args.self.now c.self.inside.kfs c.truncate.new.kfs c.self.inside.files.opens c.truncate.new.files.opens c.self.inside.down c.self.view_is (none_of c.self.inside.down c.if-is_some.ensures) (awake_in (volume_of c.self.inside.kfs c.self.inside.files.opens c.self.inside.down) c.self.invariant (none_of c.self.inside.down c.if-is_some.ensures)) c.requires (calls.Truncate c.args.path.now c.args.length) (truncate_by (seen (tx_in c.self.inside.kfs)) (space_in c.self.inside.kfs) c.args.path.now c.args.length) (natural c.args.length) (truncate_resizing (volume_of c.self.inside.kfs c.self.inside.files.opens c.self.inside.down) c.args.path.now c.args.length) c.in-Err.fault (refusal c.in-Err.fault) (down_after c.self.inside.down c.in-Err.fault) (subst (λ z. NotResized c.self.inside.kfs c.self.inside.files.opens (truncate_by (seen (tx_in c.self.inside.kfs)) (space_in c.self.inside.kfs) c.args.path.now z) (natural z) c.in-Err.fault c.truncate.new.kfs c.truncate.new.files.opens) (to_z-of_z w64 c.args.length c.ranges.length) c.in-Err.ensures.does) refl refl).answerable (showing_in c.args.self.now c.self.inside.kfs c.self.inside.files.opens c.self.inside.down c.self.view_is c.self.invariant)

pub invariant_of-self-in-Err : goal.invariant_of-self-in-Err
invariant_of-self-in-Err g c = showing_after c.args.self.now c.self.inside.kfs c.self.inside.files.opens c.self.inside.down c.self.view_is (none_of c.self.inside.down c.if-is_some.ensures) c.self.invariant _ _ _ (resize_failed c.args.self.now c.self.inside.kfs c.truncate.new.kfs c.self.inside.files.opens c.truncate.new.files.opens c.self.inside.down c.self.view_is (none_of c.self.inside.down c.if-is_some.ensures) (awake_in (volume_of c.self.inside.kfs c.self.inside.files.opens c.self.inside.down) c.self.invariant (none_of c.self.inside.down c.if-is_some.ensures)) c.requires (calls.Truncate c.args.path.now c.args.length) (truncate_by (seen (tx_in c.self.inside.kfs)) (space_in c.self.inside.kfs) c.args.path.now c.args.length) (natural c.args.length) (truncate_resizing (volume_of c.self.inside.kfs c.self.inside.files.opens c.self.inside.down) c.args.path.now c.args.length) c.in-Err.fault c.refuse.result c.refuse.new.down (subst (λ z. NotResized c.self.inside.kfs c.self.inside.files.opens (truncate_by (seen (tx_in c.self.inside.kfs)) (space_in c.self.inside.kfs) c.args.path.now z) (natural z) c.in-Err.fault c.truncate.new.kfs c.truncate.new.files.opens) (to_z-of_z w64 c.args.length c.ranges.length) c.in-Err.ensures.does) c.refuse.ensures.reply c.refuse.ensures.down).happens.goes

pub returns-in-Err : goal.returns-in-Err
returns-in-Err g c = answers_of c.args.self.now c.self.inside.kfs c.truncate.new.kfs c.self.inside.files.opens _ c.self.inside.down _ _ _ (2 ^ 17) (omega arith) c.self.view_is c.in-Err.ensures.age (resize_failed c.args.self.now c.self.inside.kfs c.truncate.new.kfs c.self.inside.files.opens c.truncate.new.files.opens c.self.inside.down c.self.view_is (none_of c.self.inside.down c.if-is_some.ensures) (awake_in (volume_of c.self.inside.kfs c.self.inside.files.opens c.self.inside.down) c.self.invariant (none_of c.self.inside.down c.if-is_some.ensures)) c.requires (calls.Truncate c.args.path.now c.args.length) (truncate_by (seen (tx_in c.self.inside.kfs)) (space_in c.self.inside.kfs) c.args.path.now c.args.length) (natural c.args.length) (truncate_resizing (volume_of c.self.inside.kfs c.self.inside.files.opens c.self.inside.down) c.args.path.now c.args.length) c.in-Err.fault c.refuse.result c.refuse.new.down (subst (λ z. NotResized c.self.inside.kfs c.self.inside.files.opens (truncate_by (seen (tx_in c.self.inside.kfs)) (space_in c.self.inside.kfs) c.args.path.now z) (natural z) c.in-Err.fault c.truncate.new.kfs c.truncate.new.files.opens) (to_z-of_z w64 c.args.length c.ranges.length) c.in-Err.ensures.does) c.refuse.ensures.reply c.refuse.ensures.down).happens

pub invariant_of-self : goal.invariant_of-self
invariant_of-self g c = showing_after c.args.self.now c.self.inside.kfs c.self.inside.files.opens c.self.inside.down c.self.view_is (none_of c.self.inside.down c.if-is_some.ensures) c.self.invariant _ _ _ (resize_answered c.args.self.now c.self.inside.kfs c.truncate.new.kfs c.self.inside.files.opens c.truncate.new.files.opens c.self.inside.down c.self.view_is (none_of c.self.inside.down c.if-is_some.ensures) (awake_in (volume_of c.self.inside.kfs c.self.inside.files.opens c.self.inside.down) c.self.invariant (none_of c.self.inside.down c.if-is_some.ensures)) c.requires (calls.Truncate c.args.path.now c.args.length) (truncate_by (seen (tx_in c.self.inside.kfs)) (space_in c.self.inside.kfs) c.args.path.now c.args.length) (natural c.args.length) (truncate_resizing (volume_of c.self.inside.kfs c.self.inside.files.opens c.self.inside.down) c.args.path.now c.args.length) (subst (λ z. Resized c.self.inside.kfs c.self.inside.files.opens (truncate_by (seen (tx_in c.self.inside.kfs)) (space_in c.self.inside.kfs) c.args.path.now z) (natural z) c.truncate.new.kfs c.truncate.new.files.opens) (to_z-of_z w64 c.args.length c.ranges.length) c.in-Ok.ensures.does)).goes

pub returns-in-Ok : goal.returns-in-Ok
returns-in-Ok g c = answers_of c.args.self.now c.self.inside.kfs c.truncate.new.kfs c.self.inside.files.opens _ c.self.inside.down _ _ _ (2 ^ 17) (omega arith) c.self.view_is c.in-Ok.ensures.age (resize_answered c.args.self.now c.self.inside.kfs c.truncate.new.kfs c.self.inside.files.opens c.truncate.new.files.opens c.self.inside.down c.self.view_is (none_of c.self.inside.down c.if-is_some.ensures) (awake_in (volume_of c.self.inside.kfs c.self.inside.files.opens c.self.inside.down) c.self.invariant (none_of c.self.inside.down c.if-is_some.ensures)) c.requires (calls.Truncate c.args.path.now c.args.length) (truncate_by (seen (tx_in c.self.inside.kfs)) (space_in c.self.inside.kfs) c.args.path.now c.args.length) (natural c.args.length) (truncate_resizing (volume_of c.self.inside.kfs c.self.inside.files.opens c.self.inside.down) c.args.path.now c.args.length) (subst (λ z. Resized c.self.inside.kfs c.self.inside.files.opens (truncate_by (seen (tx_in c.self.inside.kfs)) (space_in c.self.inside.kfs) c.args.path.now z) (natural z) c.truncate.new.kfs c.truncate.new.files.opens) (to_z-of_z w64 c.args.length c.ranges.length) c.in-Ok.ensures.does))
