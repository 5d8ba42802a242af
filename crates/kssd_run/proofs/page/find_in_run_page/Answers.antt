use Rattle.std.proofs.Common.{sym, subst}
use Rattle.kv_nand.proofs.Reading.{shows_whole}
use Rattle.kssd_run.specs.Page.{IsFoundIn}
use Rattle.kssd_run.proofs.InPage.{found_in_whole}
use Rattle.kssd_run.proofs.page.find_in_run_page.Goals as goal

pub returns-clause-value : goal.returns-clause-value
returns-clause-value g c =
    let found = c.in_ok-find_in_page-in-Whole.field-0 in
    let whole = shows_whole ((g.N.Nand.flash c.args.nand.now).image c.args.place) c.in_ok-page.page c.in_ok-read.field-0 c.read.new.into c.in_ok-read.ensures.ok.shows c.in-Whole.is in
    subst (λ state. IsFoundIn state c.args.key.now found) (sym whole) (found_in_whole c.read.new.into c.args.key.now found c.in_ok-find_in_page-in-Whole.ensures)
