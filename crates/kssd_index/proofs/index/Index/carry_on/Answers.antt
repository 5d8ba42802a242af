use Rattle.std.proofs.Common.{ℕ, ap, sym, subst, arith}
use Rattle.kv_nand.proofs.Chaining.{works_blocks}
use Rattle.kssd_root.specs.UnderWay.{IsUnderWay}
use Rattle.kssd_root.proofs.UnderWay.{way_can, way_on}
use Rattle.kssd_index.specs.declared.index.Index.{Index}
use Rattle.kssd_index.specs.Standing.{job_table}
use Rattle.kssd_index.specs.Working.{WorksOn}
use Rattle.kssd_index.proofs.Anchored.{aged_still}
use Rattle.kssd_index.proofs.Ahead.{job_cost}
use Rattle.kssd_index.proofs.Beside.{index_kept_still}
use Rattle.kssd_index.proofs.JobSteps.{carried, beside_job}
use Rattle.kssd_index.proofs.index.Index.carry_on.Goals as goal

pub returns-in_err-job-clause-kept : goal.returns-in_err-job-clause-kept
returns-in_err-job-clause-kept g c =
    let old = g.N.Nand.flash c.args.nand.now in
    index_kept_still c.args.self.now old.blocks old.image c.requires.stands

pub returns-in_err-job-clause-aged : goal.returns-in_err-job-clause-aged
returns-in_err-job-clause-aged g c =
    let old = g.N.Nand.flash c.args.nand.now in
    omega (arith, aged_still c.args.self.now old.blocks old.image c.requires.stands, ap (λ (i : Index). i.age) c.take_up.ensures.rest)

pub go_on-requires : goal.go_on-requires
go_on-requires g c =
    let old = g.N.Nand.flash c.args.nand.now in
    way_can c.args.kind c.in_ok-job.job (job_table c.args.kind c.args.self.now.older) c.args.self.now.root old.blocks old.image (c.in_ok-job.ensures.way old.blocks old.image c.requires.stands)

pub returns-in_err-left-clause-kept : goal.returns-in_err-left-clause-kept
returns-in_err-left-clause-kept g c =
    let old = g.N.Nand.flash c.args.nand.now in
    (beside_job c.args.kind c.in_ok-job.job (job_table c.args.kind c.args.self.now.older) c.args.self.now old.blocks old.image _ c.requires.stands (c.in_ok-job.ensures.way old.blocks old.image c.requires.stands) c.go_on.ensures.outside).kept

pub returns-in_err-left-clause-aged : goal.returns-in_err-left-clause-aged
returns-in_err-left-clause-aged g c =
    let old = g.N.Nand.flash c.args.nand.now in
    let beside = beside_job c.args.kind c.in_ok-job.job (job_table c.args.kind c.args.self.now.older) c.args.self.now old.blocks old.image _ c.requires.stands (c.in_ok-job.ensures.way old.blocks old.image c.requires.stands) c.go_on.ensures.outside in
    omega (arith, beside.aged, ap (λ (i : Index). i.age) c.take_up.ensures.rest)

pub returns-clause-on : goal.returns-clause-on
returns-clause-on g c =
    let old = g.N.Nand.flash c.args.nand.now in
    let new = g.N.Nand.flash c.go_on.new.nand in
    let way = c.in_ok-job.ensures.way old.blocks old.image c.requires.stands in
    subst (λ (i : Index). WorksOn c.args.operations c.in_ok-left.left old i new) (sym c.take_up.ensures.rest)
    (carried c.args.kind c.in_ok-job.job c.go_on.new.self (job_table c.args.kind c.args.self.now.older) c.args.operations c.in_ok-left.left c.args.self.now old new c.requires.stands way c.in_ok-left.ensures.job c.in_ok-left.ensures.left c.in_ok-left.ensures.works c.in_ok-left.ensures.exact)

pub returns-clause-way : goal.returns-clause-way
returns-clause-way g c =
    let old = g.N.Nand.flash c.args.nand.now in
    let new = g.N.Nand.flash c.go_on.new.nand in
    let way = c.in_ok-job.ensures.way old.blocks old.image c.requires.stands in
    let same = works_blocks old new _ _ c.in_ok-left.ensures.works in
    subst (λ (n : ℕ). IsUnderWay c.args.kind c.go_on.new.self (job_table c.args.kind c.args.self.now.older) c.args.self.now.root n new.image) (sym same)
    (way_on c.args.kind c.in_ok-job.job c.go_on.new.self (job_table c.args.kind c.args.self.now.older) c.args.self.now.root old new c.requires.stands.root same c.in_ok-left.ensures.job way)

pub returns-clause-kept : goal.returns-clause-kept
returns-clause-kept g c =
    let old = g.N.Nand.flash c.args.nand.now in
    (beside_job c.args.kind c.in_ok-job.job (job_table c.args.kind c.args.self.now.older) c.args.self.now old.blocks old.image _ c.requires.stands (c.in_ok-job.ensures.way old.blocks old.image c.requires.stands) c.go_on.ensures.outside).kept

pub returns-clause-aged : goal.returns-clause-aged
returns-clause-aged g c =
    let old = g.N.Nand.flash c.args.nand.now in
    let beside = beside_job c.args.kind c.in_ok-job.job (job_table c.args.kind c.args.self.now.older) c.args.self.now old.blocks old.image _ c.requires.stands (c.in_ok-job.ensures.way old.blocks old.image c.requires.stands) c.go_on.ensures.outside in
    omega (arith, beside.aged, ap (λ (i : Index). i.age) c.take_up.ensures.rest)

pub returns-clause-bounded : goal.returns-clause-bounded
returns-clause-bounded g c =
    let old = g.N.Nand.flash c.args.nand.now in
    omega (arith, c.in_ok-left.ensures.bounded, job_cost c.args.kind c.in_ok-job.job c.args.self.now old.blocks old.image c.requires.stands (c.in_ok-job.ensures.way old.blocks old.image c.requires.stands))
