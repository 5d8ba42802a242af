use Rattle.kfs_runner.proofs.Completing.{complete}
use Rattle.kevin.proofs.kevin.Goals as goal

pub returns-clause-complete : goal.returns-clause-complete
returns-clause-complete g c =
    complete c.args.words.now.items _ _ _ _ _ (c.run_words-ending.result, c.run_words-ending.ensures.comes, c.write_ending.ensures)
