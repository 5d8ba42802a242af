use Rattle.kssd_model.proofs.AnchorTests.{spelling_told}
use Rattle.kssd_anchor.proofs.spelling.has_spelling.Goals as goal

pub returns-clause-spelling : goal.returns-clause-spelling
returns-clause-spelling c = spelling_told c.args.anchor.now c.is_spellable.result c.is_spellable.ensures
