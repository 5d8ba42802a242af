use Rattle.std.proofs.Common.{subst}
use Rattle.kfs_runner.specs.declared.words.Task.{Task}
use Rattle.kfs_runner.specs.Ending.{sides, TaskComesTo}
use Rattle.kfs_runner.proofs.Coming.{words_refused, load_comes}
use Rattle.kfs_runner.proofs.running.run_words.Goals as goal

pub returns-in-Nothing-clause-comes : goal.returns-in-Nothing-clause-comes
returns-in-Nothing-clause-comes g c =
    let here = sides (g.H.Shelf.side c.args.shelf.now) (g.S.Source.side c.args.script.now) in
    let T : Task → Type 0 = λ t. TaskComesTo t here here c.refused.result in
    subst T c.in-Nothing.ensures.task (words_refused here c.refused.result c.refused.ensures)

pub returns-in-Make-clause-comes : goal.returns-in-Make-clause-comes
returns-in-Make-clause-comes g c =
    let here = sides (g.H.Shelf.side c.args.shelf.now) (g.S.Source.side c.args.script.now) in
    let T : Task → Type 0 = λ t. TaskComesTo t here here c.make_load.result in
    subst T c.in-Make.ensures.task (load_comes here c.in-Make.seed c.in-Make.count c.in-Make.blocks c.make_load.result c.make_load.ensures)
