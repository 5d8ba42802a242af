use Rattle.kfs_posix.proofs.bounds.sessions_are_light.Goals as goal

pub returns : goal.returns
returns c b live sh = sh.light
