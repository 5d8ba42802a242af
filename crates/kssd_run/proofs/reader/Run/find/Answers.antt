use Rattle.std.proofs.Common.{◌≡◌, ◌∙◌, ℕ, ◌-◌, ◌<◌, Option, sym, ap, subst, arith}
use Rattle.std.specs.Prelude.{IfOk}
use Rattle.kssd_entry.specs.declared.entry.Entry.{Entry}
use Rattle.kssd_model.specs.Rising.{find_entry}
use Rattle.kssd_model.specs.RunPages.{run_entries}
use Rattle.kssd_run.proofs.Paging.{find-joined, in_page_before, in_page_pred}
use Rattle.kssd_run.proofs.Finding.{page_in, stands_pages, stands_keys, stands_behind}
use Rattle.kssd_run.proofs.reader.Run.find.Goals as goal

pub pages_upto-upto-requires : goal.pages_upto-upto-requires
pages_upto-upto-requires g c = stands_keys c.args.self.now (g.N.Nand.flash c.args.nand.now).blocks (g.N.Nand.flash c.args.nand.now).image c.requires

pub returns-then-upto-eq0-clause-found : goal.returns-then-upto-eq0-clause-found
returns-then-upto-eq0-clause-found g c =
    let run = c.args.self.now in
    let device = (g.N.Nand.flash c.args.nand.now).blocks in
    let image = (g.N.Nand.flash c.args.nand.now).image in
    sym (find-joined (page_in run image) run.info.pages c.pages_upto-upto.result c.args.key.now (stands_pages run device image c.requires) (stands_behind run device image c.args.key.now c.pages_upto-upto.result c.requires c.pages_upto-upto.ensures)
    ∙ ap (λ (k : ℕ). in_page_before (page_in run image) k c.args.key.now) c.if-upto-eq0.true)

pub returns-clause-found : goal.returns-clause-found
returns-clause-found g c =
    let run = c.args.self.now in
    let device = (g.N.Nand.flash c.args.nand.now).blocks in
    let image = (g.N.Nand.flash c.args.nand.now).image in
    let same : find_entry (page_in run image (c.pages_upto-upto.result - 1)) c.args.key.now ≡ find_entry (run_entries image run.info) c.args.key.now =
    in_page_pred (page_in run image) c.pages_upto-upto.result c.args.key.now (let pos : 0 < c.pages_upto-upto.result = omega arith in pos)
    ∙ sym (find-joined (page_in run image) run.info.pages c.pages_upto-upto.result c.args.key.now (stands_pages run device image c.requires) (stands_behind run device image c.args.key.now c.pages_upto-upto.result c.requires c.pages_upto-upto.ensures)) in
    subst (λ (entry : Option Entry). IfOk c.find_at.result (λ found. found ≡ entry)) same c.find_at.ensures.value
