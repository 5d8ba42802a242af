use Rattle.kfs_path.specs.declared.call.Call.TheVariants as calls
use Rattle.kfs_posix.proofs.Calls.{none_of}
use Rattle.kfs_posix.proofs.Answered.{off_answers, room_answers}
use Rattle.kfs_posix.proofs.session.Session.room.Goals as goal

pub returns-then-is_some : goal.returns-then-is_some
returns-then-is_some g c = off_answers c.args.self.now c.self.inside.kfs c.self.inside.files.opens c.self.inside.down calls.Room c.self.view_is c.if-is_some.ensures

pub returns : goal.returns
returns g c = room_answers c.args.self.now c.self.inside.kfs c.self.inside.files.opens c.self.inside.down c.room.result c.self.view_is (none_of c.self.inside.down c.if-is_some.ensures) c.room.ensures
