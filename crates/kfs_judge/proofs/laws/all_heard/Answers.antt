use Rattle.kfs_judge.proofs.Hearing.{all_heard}
use Rattle.kfs_judge.proofs.laws.all_heard.Goals as goal

pub returns : goal.returns
returns c = all_heard
