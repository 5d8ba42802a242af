use Rattle.std.proofs.Common.{◌∙◌, refl, ap, arith}
use Rattle.kssd_levels.specs.declared.kind.JobKind.TheVariants.{Flush}
use Rattle.kssd_levels.specs.declared.levels.Levels.{Levels}
use Rattle.kssd_root.specs.Following.{with_log}
use Rattle.kssd_root.proofs.Anchored.{kept_still}
use Rattle.kssd_root.proofs.Moving.{nameable, root_age}
use Rattle.kssd_root.proofs.Splitting.{later_begins}
use Rattle.kssd_root.proofs.UnderWay.{way_done, flush_run, one_more_run}
use Rattle.kssd_root.proofs.root.Root.name_flush.Goals as goal

pub install-requires : goal.install-requires
install-requires g c =
    let old = g.N.Nand.flash c.args.nand.now in
    (way_done Flush c.args.job c.into_run-run.result c.requires.job.table c.args.self.now old.blocks old.image c.requires.root c.requires.job.few c.requires.job.way c.into_run-run.ensures).may

pub returns-in_err-install-clause-kept : goal.returns-in_err-install-clause-kept
returns-in_err-install-clause-kept g c =
    let old = g.N.Nand.flash c.args.nand.now in
    kept_still c.args.self.now.page c.args.self.now.anchor old.blocks old.image c.requires.root.anchored

pub returns-in_err-install-clause-aged : goal.returns-in_err-install-clause-aged
returns-in_err-install-clause-aged g c =
    let old = g.N.Nand.flash c.args.nand.now in
    omega (arith, root_age c.args.self.now old.blocks old.image c.requires.root)

pub name_levels-requires-clause-levels : goal.name_levels-requires-clause-levels
name_levels-requires-clause-levels g c =
    let old = g.N.Nand.flash c.args.nand.now in
    let root = c.args.self.now in
    let later = with_log root.anchor c.args.log_block c.args.log_seq in
    (flush_run c.args.job c.into_run-run.result later root c.install.new.self old.blocks old.image c.requires.root c.requires.job c.into_run-run.ensures c.in_ok-install.ensures.installs c.in_ok-install.ensures.keeps).follow

pub name_levels-requires-clause-log : goal.name_levels-requires-clause-log
name_levels-requires-clause-log g c =
    let old = g.N.Nand.flash c.args.nand.now in
    let root = c.args.self.now in
    let later = with_log root.anchor c.args.log_block c.args.log_seq in
    let table = c.requires.job.table in
    let run = flush_run c.args.job c.into_run-run.result later root c.install.new.self old.blocks old.image c.requires.root c.requires.job c.into_run-run.ensures c.in_ok-install.ensures.installs c.in_ok-install.ensures.keeps in
    later_begins table later root old.blocks old.image (record root { levels = c.install.new.self }) old.image c.requires.root c.requires.job.split (λ q has. refl) (nameable Flush table root old.blocks old.image (record root { levels = c.install.new.self }) old.image run)

pub returns-clause-one : goal.returns-clause-one
returns-clause-one g c = ap (λ (l : Levels). l.one) c.in_ok-name_levels.ensures.levels ∙ c.in_ok-install.ensures.installs.1

pub returns-clause-zero : goal.returns-clause-zero
returns-clause-zero g c = one_more_run c.into_run-run.result c.args.self.now.levels c.install.new.self c.name_levels.new.self.levels c.in_ok-name_levels.ensures.levels c.in_ok-install.ensures.installs
