use Rattle.kfs_core.proofs.Small.{commit_small, making_small, writing_small, resizing_small, unlinking_small, rmdir_small, renaming_small, releasing_small, clearing_small}
use Rattle.kfs_core.proofs.bounds.transactions_are_small.Goals as goal

pub returns-clause-commit : goal.returns-clause-commit
returns-clause-commit c = commit_small

pub returns-clause-making : goal.returns-clause-making
returns-clause-making c = making_small

pub returns-clause-writing : goal.returns-clause-writing
returns-clause-writing c = writing_small

pub returns-clause-resizing : goal.returns-clause-resizing
returns-clause-resizing c = resizing_small

pub returns-clause-unlinking : goal.returns-clause-unlinking
returns-clause-unlinking c = unlinking_small

pub returns-clause-removing_directories : goal.returns-clause-removing_directories
returns-clause-removing_directories c = rmdir_small

pub returns-clause-renaming : goal.returns-clause-renaming
returns-clause-renaming c = renaming_small

pub returns-clause-releasing : goal.returns-clause-releasing
returns-clause-releasing c = releasing_small

pub returns-clause-clearing : goal.returns-clause-clearing
returns-clause-clearing c = clearing_small
