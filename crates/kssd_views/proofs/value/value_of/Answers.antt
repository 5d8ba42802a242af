use Rattle.kssd_views.proofs.Single.{page_stands}
use Rattle.kssd_views.proofs.value.value_of.Goals as goal

pub get-requires-clause-stands : goal.get-requires-clause-stands
get-requires-clause-stands g c = page_stands _ _ c.args.entry.now _ c.in-At.page _ c.bytes.result c.requires.valued c.in-At.is c.bytes.ensures.value
