use Rattle.kssd_frames.proofs.ShownLaws.{named_once, pages_counted}
use Rattle.kssd_frames.proofs.shown.pages_are_named_once.Goals as goal

pub returns : goal.returns
returns c = record { distinct = named_once; counted = pages_counted }
