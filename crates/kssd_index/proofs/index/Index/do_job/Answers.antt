use Rattle.std.proofs.Common.{◌∙◌, ap, sym, subst, arith}
use Rattle.std.proofs.lemmas.Result.{err_from_is_err_and}
use Rattle.kssd_root.specs.UnderWay.{IsUnderWay}
use Rattle.kssd_index.specs.declared.index.Index.{Index}
use Rattle.kssd_index.specs.Standing.{job_table}
use Rattle.kssd_index.specs.Working.{due_in, IsOneFewer}
use Rattle.kssd_index.proofs.JobSteps.{on_then_on, on_then_stops, kept_after, back_on}
use Rattle.kssd_index.proofs.index.Index.do_job.Goals as goal

pub name_done-requires-clause-stands : goal.name_done-requires-clause-stands
name_done-requires-clause-stands g c =
    let old = g.N.Nand.flash c.args.nand.now in
    let mid = g.N.Nand.flash c.carry_on.new.nand in
    c.in_ok-job.ensures.on.stands

pub name_done-requires-clause-due : goal.name_done-requires-clause-due
name_done-requires-clause-due g c =
    let old = g.N.Nand.flash c.args.nand.now in
    let mid = g.N.Nand.flash c.carry_on.new.nand in
    ap due_in c.carry_on.ensures.rest ∙ c.requires.due

pub name_done-requires-clause-way : goal.name_done-requires-clause-way
name_done-requires-clause-way g c =
    let old = g.N.Nand.flash c.args.nand.now in
    let mid = g.N.Nand.flash c.carry_on.new.nand in
    subst (λ (i : Index). IsUnderWay c.args.kind c.in_ok-job.job (job_table c.args.kind i.older) i.root mid.blocks mid.image) (sym c.carry_on.ensures.rest) c.in_ok-job.ensures.way

pub name_done-requires-clause-none : goal.name_done-requires-clause-none
name_done-requires-clause-none g c =
    let old = g.N.Nand.flash c.args.nand.now in
    let mid = g.N.Nand.flash c.carry_on.new.nand in
    ap (λ (i : Index). i.job) c.carry_on.ensures.rest

pub name_done-requires-clause-number : goal.name_done-requires-clause-number
name_done-requires-clause-number g c =
    let old = g.N.Nand.flash c.args.nand.now in
    let mid = g.N.Nand.flash c.carry_on.new.nand in
    omega (arith, c.requires.number, ap (λ (i : Index). i.age) c.carry_on.ensures.rest)

pub returns-in_err-job-clause-ages : goal.returns-in_err-job-clause-ages
returns-in_err-job-clause-ages g c =
    let old = g.N.Nand.flash c.args.nand.now in
    let mid = g.N.Nand.flash c.carry_on.new.nand in
    omega (arith, ap (λ (i : Index). i.age) c.carry_on.ensures.rest)

pub returns-then-not-done-clause-on : goal.returns-then-not-done-clause-on
returns-then-not-done-clause-on g c =
    let old = g.N.Nand.flash c.args.nand.now in
    let mid = g.N.Nand.flash c.carry_on.new.nand in
    back_on c.args.kind c.in_ok-job.job c.args.operations c.in_ok-job.left c.carry_on.new.self old mid (ap due_in c.carry_on.ensures.rest ∙ c.requires.due) c.in_ok-job.ensures.on (subst (λ (i : Index). IsUnderWay c.args.kind c.in_ok-job.job (job_table c.args.kind i.older) i.root mid.blocks mid.image) (sym c.carry_on.ensures.rest) c.in_ok-job.ensures.way)

pub returns-then-not-done-clause-kept : goal.returns-then-not-done-clause-kept
returns-then-not-done-clause-kept g c =
    let old = g.N.Nand.flash c.args.nand.now in
    let mid = g.N.Nand.flash c.carry_on.new.nand in
    c.in_ok-job.ensures.on.kept

pub returns-then-not-done-clause-ages : goal.returns-then-not-done-clause-ages
returns-then-not-done-clause-ages g c =
    let old = g.N.Nand.flash c.args.nand.now in
    let mid = g.N.Nand.flash c.carry_on.new.nand in
    omega (arith, ap (λ (i : Index). i.age) c.carry_on.ensures.rest)

pub returns-in_err-progress-clause-kept : goal.returns-in_err-progress-clause-kept
returns-in_err-progress-clause-kept g c =
    let old = g.N.Nand.flash c.args.nand.now in
    let mid = g.N.Nand.flash c.carry_on.new.nand in
    kept_after c.args.operations c.in_ok-job.left c.carry_on.new.self old mid (g.N.Nand.flash c.name_done.new.nand) c.in_ok-job.ensures.on c.name_done.ensures.kept

pub returns-in_err-progress-clause-ages : goal.returns-in_err-progress-clause-ages
returns-in_err-progress-clause-ages g c =
    let old = g.N.Nand.flash c.args.nand.now in
    let mid = g.N.Nand.flash c.carry_on.new.nand in
    omega (arith, c.name_done.ensures.ages, ap (λ (i : Index). i.age) c.carry_on.ensures.rest)

pub returns-in_err-progress-clause-stops : goal.returns-in_err-progress-clause-stops
returns-in_err-progress-clause-stops g c =
    let old = g.N.Nand.flash c.args.nand.now in
    let mid = g.N.Nand.flash c.carry_on.new.nand in
    let p = err_from_is_err_and c.from_residual-in_err-progress.result c.from_residual-in_err-progress.ensures.1 in
    rw (p.1, p.2) (on_then_stops c.args.operations c.in_ok-job.left c.carry_on.new.self old mid (g.N.Nand.flash c.name_done.new.nand) _ (g.met.N.Nand.sound c.name_done.new.nand) c.in_ok-job.ensures.on c.in_err-progress.ensures.stops)

pub returns-clause-on : goal.returns-clause-on
returns-clause-on g c =
    let old = g.N.Nand.flash c.args.nand.now in
    let mid = g.N.Nand.flash c.carry_on.new.nand in
    on_then_on c.args.operations c.in_ok-job.left c.in_ok-progress.progress.left c.carry_on.new.self c.name_done.new.self old mid (g.N.Nand.flash c.name_done.new.nand) (g.met.N.Nand.sound c.name_done.new.nand) c.in_ok-job.ensures.on c.in_ok-progress.ensures.on

pub returns-clause-kept : goal.returns-clause-kept
returns-clause-kept g c =
    let old = g.N.Nand.flash c.args.nand.now in
    let mid = g.N.Nand.flash c.carry_on.new.nand in
    kept_after c.args.operations c.in_ok-job.left c.carry_on.new.self old mid (g.N.Nand.flash c.name_done.new.nand) c.in_ok-job.ensures.on c.name_done.ensures.kept

pub returns-clause-ages : goal.returns-clause-ages
returns-clause-ages g c =
    let old = g.N.Nand.flash c.args.nand.now in
    let mid = g.N.Nand.flash c.carry_on.new.nand in
    omega (arith, c.name_done.ensures.ages, ap (λ (i : Index). i.age) c.carry_on.ensures.rest)

pub returns-clause-named : goal.returns-clause-named
returns-clause-named g c =
    let old = g.N.Nand.flash c.args.nand.now in
    let mid = g.N.Nand.flash c.carry_on.new.nand in
    λ named. subst (λ (i : Index). IsOneFewer c.args.kind i c.name_done.new.self) c.carry_on.ensures.rest (c.in_ok-progress.ensures.named named)

pub returns-clause-end : goal.returns-clause-end
returns-clause-end g c =
    let old = g.N.Nand.flash c.args.nand.now in
    let mid = g.N.Nand.flash c.carry_on.new.nand in
    λ stays. c.in_ok-progress.ensures.end stays

pub returns-then-not-done-clause-bounded : goal.returns-then-not-done-clause-bounded
returns-then-not-done-clause-bounded g c = omega (arith, c.in_ok-job.ensures.bounded)

pub returns-clause-bounded : goal.returns-clause-bounded
returns-clause-bounded g c = omega (arith, c.in_ok-job.ensures.bounded, c.in_ok-progress.ensures.few)
