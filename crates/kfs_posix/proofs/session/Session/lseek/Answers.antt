use Rattle.std.proofs.Common.{◌∙◌, ap, w64}
use Rattle.std.proofs.lemmas.Int.{to_z-of_z}
use Rattle.kfs_path.specs.declared.call.Call.TheVariants as calls
use Rattle.kfs_posix.specs.Turning.{turned, lseek_in}
use Rattle.kfs_posix.proofs.Calls.{none_of}
use Rattle.kfs_posix.proofs.Turns.{lseek_turns, turned_happens}
use Rattle.kfs_posix.proofs.Answered.{off_answers, turned_answers}
use Rattle.kfs_posix.proofs.session.Session.lseek.Goals as goal
use Rattle.kfs_posix.proofs.Shown.{showing_after}

pub returns-then-is_some : goal.returns-then-is_some
returns-then-is_some g c = off_answers c.args.self.now c.self.inside.kfs c.self.inside.files.opens c.self.inside.down (calls.Lseek c.args.fd c.args.whence c.args.offset) c.self.view_is c.if-is_some.ensures

pub invariant_of-self : goal.invariant_of-self
invariant_of-self g c = showing_after c.args.self.now c.self.inside.kfs c.self.inside.files.opens c.self.inside.down c.self.view_is (none_of c.self.inside.down c.if-is_some.ensures) c.self.invariant _ _ _ (turned_happens c.args.self.now c.self.inside.kfs c.self.inside.files.opens c.lseek.new.files.opens c.self.inside.down c.self.view_is (none_of c.self.inside.down c.if-is_some.ensures) (calls.Lseek c.args.fd c.args.whence c.args.offset) c.lseek.result (lseek_in c.self.inside.files.opens c.args.fd c.args.whence c.args.offset) (lseek_turns c.self.inside.files.opens c.args.fd c.args.whence c.args.offset) (c.lseek.ensures ∙ ap (λ z. turned c.self.inside.files.opens (lseek_in c.self.inside.files.opens c.args.fd c.args.whence z)) (to_z-of_z w64 c.args.offset c.ranges.offset))).goes

pub returns : goal.returns
returns g c = turned_answers c.args.self.now c.self.inside.kfs c.self.inside.files.opens c.lseek.new.files.opens c.self.inside.down c.self.view_is (none_of c.self.inside.down c.if-is_some.ensures) (calls.Lseek c.args.fd c.args.whence c.args.offset) c.lseek.result (lseek_in c.self.inside.files.opens c.args.fd c.args.whence c.args.offset) (lseek_turns c.self.inside.files.opens c.args.fd c.args.whence c.args.offset) (c.lseek.ensures ∙ ap (λ z. turned c.self.inside.files.opens (lseek_in c.self.inside.files.opens c.args.fd c.args.whence z)) (to_z-of_z w64 c.args.offset c.ranges.offset))
