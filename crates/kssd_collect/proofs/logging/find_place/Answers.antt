use Rattle.kssd_index.proofs.Anchored.{aged_still}
use Rattle.kssd_index.proofs.Beside.{index_kept_still}
use Rattle.kssd_collect.proofs.logging.find_place.Goals as goal

pub returns-then-has_place-clause-kept : goal.returns-then-has_place-clause-kept
returns-then-has_place-clause-kept g c = index_kept_still c.args.index.now _ _ c.requires.stands

pub returns-then-has_place-clause-aged : goal.returns-then-has_place-clause-aged
returns-then-has_place-clause-aged g c = aged_still c.args.index.now _ _ c.requires.stands
