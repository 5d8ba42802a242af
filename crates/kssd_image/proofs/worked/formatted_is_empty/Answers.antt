use Rattle.kssd_image.proofs.Blank.{fresh_has_none, formatted_empty}
use Rattle.kssd_image.proofs.worked.formatted_is_empty.Goals as goal

pub returns : goal.returns
returns c = record { fresh = fresh_has_none; formatted = formatted_empty }
