use Rattle.std.proofs.Common.{[], arith}
use Rattle.kssd_root.proofs.Anchored.{kept_still}
use Rattle.kssd_root.proofs.Moving.{nameable, root_age, merge_begins, merge_over}
use Rattle.kssd_root.proofs.UnderWay.{way_done, merge_run}
use Rattle.kssd_root.proofs.root.Root.name_merge.Goals as goal

pub install-requires : goal.install-requires
install-requires g c =
    let old = g.N.Nand.flash c.args.nand.now in
    (way_done c.args.kind c.args.job c.into_run-run.result _ c.args.self.now old.blocks old.image c.requires.root (omega arith) c.requires.job c.into_run-run.ensures).may

pub returns-in_err-install-clause-kept : goal.returns-in_err-install-clause-kept
returns-in_err-install-clause-kept g c =
    let old = g.N.Nand.flash c.args.nand.now in
    kept_still c.args.self.now.page c.args.self.now.anchor old.blocks old.image c.requires.root.anchored

pub returns-in_err-install-clause-aged : goal.returns-in_err-install-clause-aged
returns-in_err-install-clause-aged g c =
    let old = g.N.Nand.flash c.args.nand.now in
    omega (arith, root_age c.args.self.now old.blocks old.image c.requires.root)

pub name_levels-requires-clause-levels : goal.name_levels-requires-clause-levels
name_levels-requires-clause-levels g c =
    let old = g.N.Nand.flash c.args.nand.now in
    let root = c.args.self.now in
    (merge_run c.args.kind c.args.job c.into_run-run.result root c.install.new.self old.blocks old.image c.requires.kind c.requires.root c.requires.job c.into_run-run.ensures c.in_ok-install.ensures.installs c.in_ok-install.ensures.keeps).follow

pub name_levels-requires-clause-log : goal.name_levels-requires-clause-log
name_levels-requires-clause-log g c =
    let old = g.N.Nand.flash c.args.nand.now in
    let root = c.args.self.now in
    let run = merge_run c.args.kind c.args.job c.into_run-run.result root c.install.new.self old.blocks old.image c.requires.kind c.requires.root c.requires.job c.into_run-run.ensures c.in_ok-install.ensures.installs c.in_ok-install.ensures.keeps in
    merge_begins c.args.kind [] root old.blocks old.image _ old.image c.requires.kind c.requires.root (nameable c.args.kind [] root old.blocks old.image _ old.image run)

pub returns-clause-over : goal.returns-clause-over
returns-clause-over g c =
    let old = g.N.Nand.flash c.args.nand.now in
    let new = g.N.Nand.flash c.name_levels.new.nand in
    let root = c.args.self.now in
    let run = merge_run c.args.kind c.args.job c.into_run-run.result root c.install.new.self old.blocks old.image c.requires.kind c.requires.root c.requires.job c.into_run-run.ensures c.in_ok-install.ensures.installs c.in_ok-install.ensures.keeps in
    merge_over c.args.kind [] root old.blocks new.blocks old.image (record root { levels = c.install.new.self }) old.image c.name_levels.new.self new.image c.requires.kind run c.in_ok-name_levels.ensures.root c.in_ok-name_levels.ensures.levels c.name_levels.ensures.behind
