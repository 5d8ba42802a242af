use Rattle.std.proofs.Common.{◌∙◌, ap, sym}
use Rattle.kssd_frames.specs.Merging.{unmarked}
use Rattle.kssd_index.proofs.Looking.{find_both, find_shown, found_before}
use Rattle.kssd_index.proofs.index.Index.find.Goals as goal

pub returns-clause-found : goal.returns-clause-found
returns-clause-found g c = c.visible.ensures ∙ ap unmarked c.in_ok-newest.ensures.found ∙ find_shown c.args.self.now _ _ c.args.key.now c.requires

pub returns-clause-one : goal.returns-clause-one
returns-clause-one g c some none = c.in_ok-newest.ensures.one (found_before _ _ c.visible.ensures some) (sym (find_both c.args.self.now _ _ c.args.key.now c.requires) ∙ none)
