use Rattle.std.proofs.Common.{◌∙◌, ◌*◌, refl}
use Rattle.kssd_recover.proofs.LogIs.{few_scanned, log_is}
use Rattle.kssd_recover.proofs.log.read_log.Goals as goal

pub table_of-requires : goal.table_of-requires
table_of-requires g c = few_scanned (g.N.Nand.flash c.args.nand.now).image (32 * c.args.anchor.now.log_block) c.args.anchor.now.log_seq c.in_ok-scan.scan c.in_ok-scan.ensures.ok

pub returns-clause-ok : goal.returns-clause-ok
returns-clause-ok g c = log_is (g.N.Nand.flash c.args.nand.now).image c.args.anchor.now c.in_ok-scan.scan _ c.requires.number c.in_ok-scan.ensures.ok (c.freeze.ensures ∙ c.in_ok-table.ensures) refl refl
