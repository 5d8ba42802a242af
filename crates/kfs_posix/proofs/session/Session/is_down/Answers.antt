use Rattle.kfs_posix.proofs.Shown.{showing_in}
use Rattle.kfs_posix.proofs.session.Session.is_down.Goals as goal

pub returns-clause-shows : goal.returns-clause-shows
returns-clause-shows g c = showing_in c.args.self.now c.self.inside.kfs c.self.inside.files.opens c.self.inside.down c.self.view_is c.self.invariant
