use Rattle.std.proofs.Common.{◌∙◌, sym}
use Rattle.kssd_model.proofs.AnchorTests.{spelling_is}
use Rattle.kssd_anchor.proofs.reading.is_page_of.Goals as goal

pub page_of-requires : goal.page_of-requires
page_of-requires c = spelling_is c.args.anchor.now (sym c.has_spelling.ensures.test ∙ c.if-not-has_spelling.false)
