use Rattle.std.proofs.Common.{◌≡◌, ◌∙◌, ◌≤◌, Some, ap, sym, subst, arith}
use Rattle.std.proofs.lemmas.Result.{err_from_is_err_and}
use Rattle.kv_nand.specs.Flash.{Image}
use Rattle.kv_nand.specs.Working.{ops_more}
use Rattle.kv_nand.proofs.Chaining.{works_blocks}
use Rattle.kssd_anchor.specs.Places.{write_cost}
use Rattle.kssd_root.specs.Mapping.{IsKept}
use Rattle.kssd_index.specs.Standing.{job_table}
use Rattle.kssd_index.proofs.Beside.{index_kept_still}
use Rattle.kssd_index.proofs.JobSteps.{page_low, on_reading, index_reading, way_reading, put_back, done_on, done_stops, kept_reading, aged_reading}
use Rattle.kssd_index.proofs.index.Index.name_done.Goals as goal

pub cost-requires-clause-last : goal.cost-requires-clause-last
cost-requires-clause-last g c =
    let old = g.N.Nand.flash c.args.nand.now in
    page_low c.args.self.now.root.page c.args.self.now.root.anchor old.image c.requires.stands.root.anchored.newest

pub returns-in_err-cost-clause-kept : goal.returns-in_err-cost-clause-kept
returns-in_err-cost-clause-kept g c =
    let old = g.N.Nand.flash c.args.nand.now in
    subst (IsKept old.blocks old.image) (sym c.cost.ensures.same) (index_kept_still c.args.self.now old.blocks old.image c.requires.stands)

pub returns-in_err-cost-clause-aged : goal.returns-in_err-cost-clause-aged
returns-in_err-cost-clause-aged g c =
    let old = g.N.Nand.flash c.args.nand.now in
    aged_reading c.args.self.now old.blocks old.image _ c.cost.ensures.same c.requires.stands

pub returns-then-operations-cost-clause-on : goal.returns-then-operations-cost-clause-on
returns-then-operations-cost-clause-on g c =
    let old = g.N.Nand.flash c.args.nand.now in
    let mid = g.N.Nand.flash c.cost.new.nand in
    on_reading c.args.operations _ old mid (g.met.N.Nand.sound c.args.nand.now) c.cost.ensures.same c.in_ok-cost.ensures.works (put_back c.args.kind c.args.job c.args.self.now old.blocks old.image c.requires.due c.requires.stands c.requires.way)

pub returns-then-operations-cost-clause-kept : goal.returns-then-operations-cost-clause-kept
returns-then-operations-cost-clause-kept g c =
    let old = g.N.Nand.flash c.args.nand.now in
    subst (IsKept old.blocks old.image) (sym c.cost.ensures.same) (index_kept_still c.args.self.now old.blocks old.image c.requires.stands)

pub returns-then-operations-cost-clause-aged : goal.returns-then-operations-cost-clause-aged
returns-then-operations-cost-clause-aged g c =
    let old = g.N.Nand.flash c.args.nand.now in
    aged_reading c.args.self.now old.blocks old.image _ c.cost.ensures.same c.requires.stands

pub name_job-requires-clause-stands : goal.name_job-requires-clause-stands
name_job-requires-clause-stands g c =
    let old = g.N.Nand.flash c.args.nand.now in
    let mid = g.N.Nand.flash c.cost.new.nand in
    index_reading c.args.self.now old mid c.cost.ensures.same (works_blocks old mid 0 32 c.in_ok-cost.ensures.works) c.requires.stands

pub name_job-requires-clause-way : goal.name_job-requires-clause-way
name_job-requires-clause-way g c =
    let old = g.N.Nand.flash c.args.nand.now in
    let mid = g.N.Nand.flash c.cost.new.nand in
    let index = c.args.self.now in
    way_reading c.args.kind c.args.job (job_table c.args.kind index.older) index.root old mid c.cost.ensures.same (works_blocks old mid 0 32 c.in_ok-cost.ensures.works) c.requires.way

pub returns-in_err-name_job-clause-stops : goal.returns-in_err-name_job-clause-stops
returns-in_err-name_job-clause-stops g c =
    let old = g.N.Nand.flash c.args.nand.now in
    let mid = g.N.Nand.flash c.cost.new.nand in
    let new = g.N.Nand.flash c.name_job.new.nand in
    let page = Some c.args.self.now.root.page in
    let cost_is : write_cost mid.image page ≡ c.in_ok-cost.cost = ap (λ (im : Image). write_cost im page) c.cost.ensures.same ∙ sym c.in_ok-cost.ensures.ok in
    let few : write_cost mid.image page ≤ c.args.operations = grind (arith, cost_is) in
    let p = err_from_is_err_and c.from_residual-in_err-name_job.result c.from_residual-in_err-name_job.ensures.1 in
    rw (p.1, p.2) (done_stops c.args.operations (write_cost mid.image page) old mid new _ c.in_ok-cost.ensures.works few c.in_err-name_job.ensures.stops)

pub returns-in_err-name_job-clause-kept : goal.returns-in_err-name_job-clause-kept
returns-in_err-name_job-clause-kept g c =
    let old = g.N.Nand.flash c.args.nand.now in
    let mid = g.N.Nand.flash c.cost.new.nand in
    kept_reading c.args.self.now old mid _ c.cost.ensures.same (works_blocks old mid 0 32 c.in_ok-cost.ensures.works) c.requires.stands c.name_job.ensures.kept

pub returns-clause-kept : goal.returns-clause-kept
returns-clause-kept g c =
    let old = g.N.Nand.flash c.args.nand.now in
    let mid = g.N.Nand.flash c.cost.new.nand in
    kept_reading c.args.self.now old mid _ c.cost.ensures.same (works_blocks old mid 0 32 c.in_ok-cost.ensures.works) c.requires.stands c.name_job.ensures.kept

pub returns-clause-on : goal.returns-clause-on
returns-clause-on g c =
    let old = g.N.Nand.flash c.args.nand.now in
    let mid = g.N.Nand.flash c.cost.new.nand in
    let new = g.N.Nand.flash c.name_job.new.nand in
    let index = c.args.self.now in
    let page = Some index.root.page in
    let cost_is : write_cost mid.image page ≡ c.in_ok-cost.cost = ap (λ (im : Image). write_cost im page) c.cost.ensures.same ∙ sym c.in_ok-cost.ensures.ok in
    done_on c.args.operations c.in_ok-cost.cost index c.name_job.new.self old mid new (g.met.N.Nand.sound c.args.nand.now) (g.met.N.Nand.sound c.name_job.new.nand) c.requires.stands c.cost.ensures.same c.in_ok-cost.ensures.works (grind arith)
    c.in_ok-name_job.ensures.stands c.name_job.ensures.kept c.in_ok-name_job.ensures.works (c.in_ok-name_job.ensures.exact ∙ ap (ops_more mid) cost_is)

pub returns-clause-few : goal.returns-clause-few
returns-clause-few g c = let few = c.in_ok-cost.ensures.few.1 in omega (arith, few)
