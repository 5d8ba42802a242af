use Rattle.std.proofs.Common.{subst}
use Rattle.kfs_path.specs.declared.call.Call.TheVariants as calls
use Rattle.kfs_posix.specs.Volume.{SessionState}
use Rattle.kfs_posix.specs.Answering.{Answers}
use Rattle.kfs_posix.specs.Turning.{fstat_in}
use Rattle.kfs_posix.proofs.Calls.{none_of}
use Rattle.kfs_posix.proofs.Turns.{fstat_turns}
use Rattle.kfs_posix.proofs.Answered.{off_answers, turned_answers}
use Rattle.kfs_posix.proofs.session.Session.fstat.Goals as goal

pub returns-then-is_some : goal.returns-then-is_some
returns-then-is_some g c = off_answers c.args.self.now c.self.inside.kfs c.self.inside.files.opens c.self.inside.down (calls.Fstat c.args.fd) c.self.view_is c.if-is_some.ensures

pub returns : goal.returns
returns g c = subst (λ (s : SessionState). Answers c.args.self.now (calls.Fstat c.args.fd) c.fstat.result s) c.self.view_is (turned_answers c.args.self.now c.self.inside.kfs c.self.inside.files.opens c.self.inside.files.opens c.self.inside.down c.self.view_is (none_of c.self.inside.down c.if-is_some.ensures) (calls.Fstat c.args.fd) c.fstat.result (fstat_in c.self.inside.files.opens c.args.fd) (fstat_turns c.self.inside.files.opens c.args.fd) c.fstat.ensures)
