use Rattle.std.proofs.Common.{◌∙◌}
use Rattle.std.proofs.lemmas.List.{take_rest}
use Rattle.kssd_model.proofs.RisingEntries.{drop-place}
use Rattle.kssd_model.proofs.sorted.rest_from.Goals as goal

pub returns : goal.returns
returns c = take_rest c.args.entries.now c.place_in-place.result ∙ drop-place c.args.key.now c.args.entries.now c.place_in-place.result c.place_in-place.ensures
