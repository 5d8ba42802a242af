use Rattle.kfs_script.proofs.SpellingLaws.{one_spelling}
use Rattle.kfs_script.proofs.numbers_have_one_spelling.Goals as goal

pub returns : goal.returns
returns c = one_spelling
