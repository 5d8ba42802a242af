use Rattle.kfs_path.specs.declared.call.Call.TheVariants as calls
use Rattle.kfs_posix.specs.Turning.{dup_in}
use Rattle.kfs_posix.proofs.Calls.{none_of}
use Rattle.kfs_posix.proofs.Turns.{dup_turns, turned_happens}
use Rattle.kfs_posix.proofs.Answered.{off_answers, turned_answers}
use Rattle.kfs_posix.proofs.session.Session.dup.Goals as goal
use Rattle.kfs_posix.proofs.Shown.{showing_after}

pub returns-then-is_some : goal.returns-then-is_some
returns-then-is_some g c = off_answers c.args.self.now c.self.inside.kfs c.self.inside.files.opens c.self.inside.down (calls.Dup c.args.fd) c.self.view_is c.if-is_some.ensures

pub invariant_of-self : goal.invariant_of-self
invariant_of-self g c = showing_after c.args.self.now c.self.inside.kfs c.self.inside.files.opens c.self.inside.down c.self.view_is (none_of c.self.inside.down c.if-is_some.ensures) c.self.invariant _ _ _ (turned_happens c.args.self.now c.self.inside.kfs c.self.inside.files.opens c.dup.new.files.opens c.self.inside.down c.self.view_is (none_of c.self.inside.down c.if-is_some.ensures) (calls.Dup c.args.fd) c.dup.result (dup_in c.self.inside.files.opens c.args.fd) (dup_turns c.self.inside.files.opens c.args.fd) c.dup.ensures).goes

pub returns : goal.returns
returns g c = turned_answers c.args.self.now c.self.inside.kfs c.self.inside.files.opens c.dup.new.files.opens c.self.inside.down c.self.view_is (none_of c.self.inside.down c.if-is_some.ensures) (calls.Dup c.args.fd) c.dup.result (dup_in c.self.inside.files.opens c.args.fd) (dup_turns c.self.inside.files.opens c.args.fd) c.dup.ensures
