use Rattle.kfs_script.proofs.CutLaws.{cut_at, not_cut}
use Rattle.kfs_script.proofs.cutting.cut.Goals as goal

pub returns-in-Some-clause-pieces : goal.returns-in-Some-clause-pieces
returns-in-Some-clause-pieces c = cut_at c.args.mark c.args.bytes.now c.in-Some.i c.in-Some.ensures

pub returns-in-None-clause-pieces : goal.returns-in-None-clause-pieces
returns-in-None-clause-pieces c = not_cut c.args.mark c.args.bytes.now c.in-None.ensures
