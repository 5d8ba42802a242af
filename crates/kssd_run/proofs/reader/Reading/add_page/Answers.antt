use Rattle.std.proofs.Common.{◌∙◌, ◌+◌, refl}
use Rattle.kssd_run.proofs.Opened.{reading_on}
use Rattle.kssd_run.proofs.reader.Reading.add_page.Goals as goal

pub returns-clause-ok : goal.returns-clause-ok
returns-clause-ok g c =
    reading_on c.args.info.now (g.N.Nand.flash c.args.nand.now).image c.args.index c.args.self.now _ c.in_ok-entries.entries c.get.result.now c.in_ok-copy.field-0 c.requires.before c.in_ok-entries.ensures.ok c.get.ensures
    (c.in_ok-copy.ensures ∙ c.key.ensures) c.in_ok-push.ensures.ok refl (λ i. c.args.self.now.count + c.len.ensures i)
