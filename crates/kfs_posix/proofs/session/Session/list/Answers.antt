use Rattle.std.proofs.Common.{arith, refl}
use Rattle.kfs_path.specs.declared.call.Call.TheVariants as calls
use Rattle.kfs_posix.proofs.Calls.{none_of}
use Rattle.kfs_posix.proofs.Answered.{age_in, keys_in, list_answered, list_refused, off_answers, answers_of}
use Rattle.kfs_posix.proofs.session.Session.list.Goals as goal
use Rattle.kfs_posix.proofs.Shown.{showing_after, showing_in, awake_in}
use Rattle.kfs_posix.specs.Volume.{volume_of}
use Rattle.kfs_posix.specs.Answering.{refusal, down_after}

pub returns-then-is_some : goal.returns-then-is_some
returns-then-is_some g c = off_answers c.args.self.now c.self.inside.kfs c.self.inside.files.opens c.self.inside.down (calls.List c.args.path.now) c.self.view_is c.if-is_some.ensures

pub names-requires : goal.names-requires
names-requires g c = age_in c.args.self.now c.self.inside.kfs c.self.inside.files.opens c.self.inside.down c.self.view_is c.requires.age

pub refuse-requires : goal.refuse-requires
refuse-requires g c = (list_refused c.args.self.now c.self.inside.kfs c.names.new.kfs c.self.inside.files.opens c.self.inside.down c.self.view_is (none_of c.self.inside.down c.if-is_some.ensures) (awake_in (volume_of c.self.inside.kfs c.self.inside.files.opens c.self.inside.down) c.self.invariant (none_of c.self.inside.down c.if-is_some.ensures)) c.in-Err.ensures.rest c.args.path.now (refusal c.in-Err.fault) c.in-Err.fault (down_after c.self.inside.down c.in-Err.fault) (keys_in c.args.self.now c.self.inside.kfs c.self.inside.files.opens c.self.inside.down c.self.view_is c.requires.room) c.in-Err.ensures.gives c.in-Err.ensures.leaves refl refl).answerable (showing_in c.args.self.now c.self.inside.kfs c.self.inside.files.opens c.self.inside.down c.self.view_is c.self.invariant)

pub invariant_of-self-in-Err : goal.invariant_of-self-in-Err
invariant_of-self-in-Err g c = showing_after c.args.self.now c.self.inside.kfs c.self.inside.files.opens c.self.inside.down c.self.view_is (none_of c.self.inside.down c.if-is_some.ensures) c.self.invariant _ _ _ (list_refused c.args.self.now c.self.inside.kfs c.names.new.kfs c.self.inside.files.opens c.self.inside.down c.self.view_is (none_of c.self.inside.down c.if-is_some.ensures) (awake_in (volume_of c.self.inside.kfs c.self.inside.files.opens c.self.inside.down) c.self.invariant (none_of c.self.inside.down c.if-is_some.ensures)) c.in-Err.ensures.rest c.args.path.now c.refuse.result c.in-Err.fault c.refuse.new.down (keys_in c.args.self.now c.self.inside.kfs c.self.inside.files.opens c.self.inside.down c.self.view_is c.requires.room) c.in-Err.ensures.gives c.in-Err.ensures.leaves c.refuse.ensures.reply c.refuse.ensures.down).happens.goes

pub returns-in-Err : goal.returns-in-Err
returns-in-Err g c = answers_of c.args.self.now c.self.inside.kfs c.names.new.kfs c.self.inside.files.opens _ c.self.inside.down _ _ _ (0) (omega arith) c.self.view_is c.in-Err.ensures.age (list_refused c.args.self.now c.self.inside.kfs c.names.new.kfs c.self.inside.files.opens c.self.inside.down c.self.view_is (none_of c.self.inside.down c.if-is_some.ensures) (awake_in (volume_of c.self.inside.kfs c.self.inside.files.opens c.self.inside.down) c.self.invariant (none_of c.self.inside.down c.if-is_some.ensures)) c.in-Err.ensures.rest c.args.path.now c.refuse.result c.in-Err.fault c.refuse.new.down (keys_in c.args.self.now c.self.inside.kfs c.self.inside.files.opens c.self.inside.down c.self.view_is c.requires.room) c.in-Err.ensures.gives c.in-Err.ensures.leaves c.refuse.ensures.reply c.refuse.ensures.down).happens

pub invariant_of-self : goal.invariant_of-self
invariant_of-self g c = showing_after c.args.self.now c.self.inside.kfs c.self.inside.files.opens c.self.inside.down c.self.view_is (none_of c.self.inside.down c.if-is_some.ensures) c.self.invariant _ _ _ (list_answered c.args.self.now c.self.inside.kfs c.names.new.kfs c.self.inside.files.opens c.self.inside.down c.self.view_is (none_of c.self.inside.down c.if-is_some.ensures) (awake_in (volume_of c.self.inside.kfs c.self.inside.files.opens c.self.inside.down) c.self.invariant (none_of c.self.inside.down c.if-is_some.ensures)) c.in-Ok.ensures.rest c.args.path.now c.in-Ok.names (keys_in c.args.self.now c.self.inside.kfs c.self.inside.files.opens c.self.inside.down c.self.view_is c.requires.room) c.in-Ok.ensures.gives c.in-Ok.ensures.leaves).goes

pub returns-in-Ok : goal.returns-in-Ok
returns-in-Ok g c = answers_of c.args.self.now c.self.inside.kfs c.names.new.kfs c.self.inside.files.opens _ c.self.inside.down _ _ _ (0) (omega arith) c.self.view_is c.in-Ok.ensures.age (list_answered c.args.self.now c.self.inside.kfs c.names.new.kfs c.self.inside.files.opens c.self.inside.down c.self.view_is (none_of c.self.inside.down c.if-is_some.ensures) (awake_in (volume_of c.self.inside.kfs c.self.inside.files.opens c.self.inside.down) c.self.invariant (none_of c.self.inside.down c.if-is_some.ensures)) c.in-Ok.ensures.rest c.args.path.now c.in-Ok.names (keys_in c.args.self.now c.self.inside.kfs c.self.inside.files.opens c.self.inside.down c.self.view_is c.requires.room) c.in-Ok.ensures.gives c.in-Ok.ensures.leaves)
