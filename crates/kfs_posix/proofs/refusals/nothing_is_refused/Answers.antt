use Rattle.kfs_posix.proofs.NeverRefused.{reading, committing, working, mkdir, opening, writing, pwrite, truncate, ftruncate, unlink, rmdir, rename, close}
use Rattle.kfs_posix.proofs.refusals.nothing_is_refused.Goals as goal

pub returns-clause-reading : goal.returns-clause-reading
returns-clause-reading c = reading

pub returns-clause-committing : goal.returns-clause-committing
returns-clause-committing c = committing

pub returns-clause-working : goal.returns-clause-working
returns-clause-working c = working

pub returns-clause-mkdir : goal.returns-clause-mkdir
returns-clause-mkdir c = mkdir

pub returns-clause-opening : goal.returns-clause-opening
returns-clause-opening c = opening

pub returns-clause-writing : goal.returns-clause-writing
returns-clause-writing c = writing

pub returns-clause-pwrite : goal.returns-clause-pwrite
returns-clause-pwrite c = pwrite

pub returns-clause-truncate : goal.returns-clause-truncate
returns-clause-truncate c = truncate

pub returns-clause-ftruncate : goal.returns-clause-ftruncate
returns-clause-ftruncate c = ftruncate

pub returns-clause-unlink : goal.returns-clause-unlink
returns-clause-unlink c = unlink

pub returns-clause-rmdir : goal.returns-clause-rmdir
returns-clause-rmdir c = rmdir

pub returns-clause-rename : goal.returns-clause-rename
returns-clause-rename c = rename

pub returns-clause-close : goal.returns-clause-close
returns-clause-close c = close
