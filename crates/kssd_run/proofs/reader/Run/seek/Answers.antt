use Rattle.std.proofs.Common.{◌≡◌, ◌∙◌, ◌<◌, ◌≤◌, ap, arith, length}
use Rattle.kv_nand.specs.Flash.{Image}
use Rattle.kssd_model.specs.RunPages.{page_entries}
use Rattle.kssd_model.proofs.ReadingOn.{reads_image}
use Rattle.kssd_run.proofs.Paging.{gives_rest, gives_nothing, gives_page}
use Rattle.kssd_run.proofs.Seeking.{split_rest, split_nothing, split_page}
use Rattle.kssd_run.proofs.Finding.{page_in, stands_pages, stands_keys, stands_behind}
use Rattle.kssd_run.proofs.reader.Run.seek.Goals as goal

pub pages_upto-upto-requires : goal.pages_upto-upto-requires
pages_upto-upto-requires g c = stands_keys c.args.self.now (g.N.Nand.flash c.args.nand.now).blocks (g.N.Nand.flash c.args.nand.now).image c.requires

pub returns-then-len-gt0-clause-found : goal.returns-then-len-gt0-clause-found
returns-then-len-gt0-clause-found g c =
    let run = c.args.self.now in
    let device = (g.N.Nand.flash c.args.nand.now).blocks in
    let image = (g.N.Nand.flash c.args.nand.now).image in
    let some : 0 < length c.in_ok-rest.rest = omega arith in
    gives_rest (page_in run image) run.info.pages c.pages_upto-upto.result c.args.key.now c.in_ok-rest.rest (stands_pages run device image c.requires) (stands_behind run device image c.args.key.now c.pages_upto-upto.result c.requires c.pages_upto-upto.ensures) c.in_ok-rest.ensures.value some

pub returns-then-upto-len-clause-found : goal.returns-then-upto-len-clause-found
returns-then-upto-len-clause-found g c =
    let run = c.args.self.now in
    let device = (g.N.Nand.flash c.args.nand.now).blocks in
    let image = (g.N.Nand.flash c.args.nand.now).image in
    let none : length c.in_ok-rest.rest ≡ 0 = omega arith in
    let all : run.info.pages ≤ c.pages_upto-upto.result = omega (arith, run.counted) in
    gives_nothing (page_in run image) run.info.pages c.pages_upto-upto.result c.args.key.now c.in_ok-rest.rest (stands_pages run device image c.requires) (stands_behind run device image c.args.key.now c.pages_upto-upto.result c.requires c.pages_upto-upto.ensures) c.in_ok-rest.ensures.value none all

pub returns-clause-found : goal.returns-clause-found
returns-clause-found g c =
    let run = c.args.self.now in
    let device = (g.N.Nand.flash c.args.nand.now).blocks in
    let image = (g.N.Nand.flash c.args.nand.now).image in
    let none : length c.in_ok-rest.rest ≡ 0 = omega arith in
    let left : c.pages_upto-upto.result < run.info.pages = omega (arith, run.counted) in
    gives_page (page_in run image) run.info.pages c.pages_upto-upto.result c.args.key.now c.in_ok-rest.rest c.in_ok-page.page (stands_pages run device image c.requires) (stands_behind run device image c.args.key.now c.pages_upto-upto.result c.requires c.pages_upto-upto.ensures) c.in_ok-rest.ensures.value none left
    (c.in_ok-page.ensures.value ∙ ap (λ (im : Image). page_entries im run.info.number run.info.blocks c.pages_upto-upto.result) (reads_image _ _ c.in_ok-rest.ensures.reads))

pub returns-then-len-gt0-clause-behind : goal.returns-then-len-gt0-clause-behind
returns-then-len-gt0-clause-behind g c =
    let run = c.args.self.now in
    let device = (g.N.Nand.flash c.args.nand.now).blocks in
    let image = (g.N.Nand.flash c.args.nand.now).image in
    let some : 0 < length c.in_ok-rest.rest = omega arith in
    split_rest (page_in run image) run.info.pages c.pages_upto-upto.result c.args.key.now c.in_ok-rest.rest (stands_pages run device image c.requires) (stands_behind run device image c.args.key.now c.pages_upto-upto.result c.requires c.pages_upto-upto.ensures) c.in_ok-rest.ensures.value some

pub returns-then-upto-len-clause-behind : goal.returns-then-upto-len-clause-behind
returns-then-upto-len-clause-behind g c =
    let run = c.args.self.now in
    let device = (g.N.Nand.flash c.args.nand.now).blocks in
    let image = (g.N.Nand.flash c.args.nand.now).image in
    let all : run.info.pages ≤ c.pages_upto-upto.result = omega (arith, run.counted) in
    split_nothing (page_in run image) run.info.pages c.pages_upto-upto.result c.args.key.now c.in_ok-rest.rest (stands_pages run device image c.requires) (stands_behind run device image c.args.key.now c.pages_upto-upto.result c.requires c.pages_upto-upto.ensures) c.in_ok-rest.ensures.value all

pub returns-clause-behind : goal.returns-clause-behind
returns-clause-behind g c =
    let run = c.args.self.now in
    let device = (g.N.Nand.flash c.args.nand.now).blocks in
    let image = (g.N.Nand.flash c.args.nand.now).image in
    let none : length c.in_ok-rest.rest ≡ 0 = omega arith in
    let left : c.pages_upto-upto.result < run.info.pages = omega (arith, run.counted) in
    split_page (page_in run image) run.info.pages c.pages_upto-upto.result c.args.key.now c.in_ok-rest.rest c.in_ok-page.page (stands_pages run device image c.requires) (stands_behind run device image c.args.key.now c.pages_upto-upto.result c.requires c.pages_upto-upto.ensures) c.in_ok-rest.ensures.value none left
    (c.in_ok-page.ensures.value ∙ ap (λ (im : Image). page_entries im run.info.number run.info.blocks c.pages_upto-upto.result) (reads_image _ _ c.in_ok-rest.ensures.reads))
