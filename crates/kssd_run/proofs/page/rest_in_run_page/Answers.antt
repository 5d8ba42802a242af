use Rattle.std.proofs.Common.{sym, subst}
use Rattle.kv_nand.proofs.Reading.{shows_whole}
use Rattle.kssd_run.specs.Page.{IsRestIn}
use Rattle.kssd_run.proofs.InPage.{rest_in_whole}
use Rattle.kssd_run.proofs.page.rest_in_run_page.Goals as goal

pub returns-clause-value : goal.returns-clause-value
returns-clause-value g c =
    let rest = c.in_ok-rest_of_page-in-Whole.field-0 in
    let whole = shows_whole ((g.N.Nand.flash c.args.nand.now).image c.args.place) c.in_ok-page.page c.in_ok-read.field-0 c.read.new.into c.in_ok-read.ensures.ok.shows c.in-Whole.is in
    subst (λ state. IsRestIn state c.args.key.now rest) (sym whole) (rest_in_whole c.read.new.into c.args.key.now rest c.in_ok-rest_of_page-in-Whole.ensures)
