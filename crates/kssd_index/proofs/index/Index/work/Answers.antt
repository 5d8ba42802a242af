use Rattle.std.proofs.Common.{◌∙◌, ℕ, ◌-◌, ◌≤◌, subst, refl, sym, arith, inl, inr}
use Rattle.std.proofs.lemmas.Result.{err_from_is_err_and}
use Rattle.kv_nand.proofs.Chaining.{works_blocks}
use Rattle.kssd_index.proofs.Anchored.{aged_still}
use Rattle.kssd_root.specs.Costs.{merge_cost}
use Rattle.kssd_index.proofs.Ahead.{jobs_few, one_fewer, spent_named, spent_part}
use Rattle.kssd_index.proofs.JobSteps.{on_still, on_then_on, on_then_stops, kept_after, was_named, not_named, never_idle, none_is}
use Rattle.kssd_index.proofs.index.Index.work.Goals as goal

pub jobs-init : goal.jobs-init
jobs-init g c =
    record { on = on_still c.args.operations c.args.self.now (g.N.Nand.flash c.args.nand.now) (g.met.N.Nand.sound c.args.nand.now) c.requires.stands; ages = omega arith; spent = omega arith; idle = λ none. (refl, refl, refl) }

pub jobs-smaller : goal.jobs-smaller
jobs-smaller g c =
    one_fewer c.in-Some.kind c.jobs.self c.do_job.new.self (sym c.due.ensures ∙ c.in-Some.is) (c.in_ok-progress.ensures.named (was_named c.in_ok-progress.progress.named c.if-not-progress.false))

pub jobs-preserved : goal.jobs-preserved
jobs-preserved g c =
    let old = g.N.Nand.flash c.args.nand.now in
    let now = g.N.Nand.flash c.jobs.nand in
    let new = g.N.Nand.flash c.do_job.new.nand in
    record {
      on = on_then_on c.args.operations c.jobs.left c.in_ok-progress.progress.left c.jobs.self c.do_job.new.self old now new (g.met.N.Nand.sound c.do_job.new.nand) c.jobs.invariant.on c.in_ok-progress.ensures.on;
      ages = let fewer = one_fewer c.in-Some.kind c.jobs.self c.do_job.new.self (sym c.due.ensures ∙ c.in-Some.is) (c.in_ok-progress.ensures.named (was_named c.in_ok-progress.progress.named c.if-not-progress.false)) in omega (arith, c.jobs.invariant.ages, fewer, c.do_job.ensures.ages);
      spent = spent_named c.in-Some.kind c.args.self.now c.jobs.self c.do_job.new.self old.blocks c.args.operations c.jobs.left c.in_ok-progress.progress.left (sym c.due.ensures ∙ c.in-Some.is) (c.in_ok-progress.ensures.named (was_named c.in_ok-progress.progress.named c.if-not-progress.false))
          (subst (λ (b : ℕ). c.jobs.left - c.in_ok-progress.progress.left ≤ merge_cost c.in-Some.kind b) (works_blocks old now _ _ c.jobs.invariant.on.works) c.in_ok-progress.ensures.bounded) c.jobs.invariant.spent;
      idle = λ none. absurd (never_idle c.in-Some.kind c.args.self.now c.jobs.self none (c.jobs.invariant.idle none).0 (sym c.due.ensures ∙ c.in-Some.is));
    }

pub do_job-requires-clause-stands : goal.do_job-requires-clause-stands
do_job-requires-clause-stands g c =
    c.jobs.invariant.on.stands

pub do_job-requires-clause-due : goal.do_job-requires-clause-due
do_job-requires-clause-due g c =
    sym c.due.ensures ∙ c.in-Some.is

pub do_job-requires-clause-number : goal.do_job-requires-clause-number
do_job-requires-clause-number g c =
    omega (arith, c.requires.number, c.jobs.invariant.ages, jobs_few c.args.self.now)

pub returns-in_err-progress-clause-kept : goal.returns-in_err-progress-clause-kept
returns-in_err-progress-clause-kept g c =
    let old = g.N.Nand.flash c.args.nand.now in
    let now = g.N.Nand.flash c.jobs.nand in
    let new = g.N.Nand.flash c.do_job.new.nand in
    kept_after c.args.operations c.jobs.left c.jobs.self old now new c.jobs.invariant.on c.do_job.ensures.kept

pub returns-in_err-progress-clause-ages : goal.returns-in_err-progress-clause-ages
returns-in_err-progress-clause-ages g c =
    omega (arith, c.jobs.invariant.ages, c.do_job.ensures.ages, jobs_few c.args.self.now)

pub returns-in_err-progress-clause-stops : goal.returns-in_err-progress-clause-stops
returns-in_err-progress-clause-stops g c =
    let old = g.N.Nand.flash c.args.nand.now in
    let now = g.N.Nand.flash c.jobs.nand in
    let new = g.N.Nand.flash c.do_job.new.nand in
    let p = err_from_is_err_and c.from_residual.result c.from_residual.ensures.1 in
    rw (p.1, p.2) (on_then_stops c.args.operations c.jobs.left c.jobs.self old now new _ (g.met.N.Nand.sound c.do_job.new.nand) c.jobs.invariant.on c.in_err-progress.ensures.stops)

pub returns-in_err-progress-clause-idle : goal.returns-in_err-progress-clause-idle
returns-in_err-progress-clause-idle g c none =
    absurd (never_idle c.in-Some.kind c.args.self.now c.jobs.self none (c.jobs.invariant.idle none).0 (sym c.due.ensures ∙ c.in-Some.is))

pub returns-then-not-progress-clause-kept : goal.returns-then-not-progress-clause-kept
returns-then-not-progress-clause-kept g c =
    let old = g.N.Nand.flash c.args.nand.now in
    let now = g.N.Nand.flash c.jobs.nand in
    let new = g.N.Nand.flash c.do_job.new.nand in
    kept_after c.args.operations c.jobs.left c.jobs.self old now new c.jobs.invariant.on c.do_job.ensures.kept

pub returns-then-not-progress-clause-ages : goal.returns-then-not-progress-clause-ages
returns-then-not-progress-clause-ages g c =
    omega (arith, c.jobs.invariant.ages, c.do_job.ensures.ages, jobs_few c.args.self.now)

pub returns-then-not-progress-clause-left : goal.returns-then-not-progress-clause-left
returns-then-not-progress-clause-left g c =
    let old = g.N.Nand.flash c.args.nand.now in
    let now = g.N.Nand.flash c.jobs.nand in
    let new = g.N.Nand.flash c.do_job.new.nand in
    (on_then_on c.args.operations c.jobs.left c.in_ok-progress.progress.left c.jobs.self c.do_job.new.self old now new (g.met.N.Nand.sound c.do_job.new.nand) c.jobs.invariant.on c.in_ok-progress.ensures.on).few

pub returns-then-not-progress-clause-works : goal.returns-then-not-progress-clause-works
returns-then-not-progress-clause-works g c =
    let old = g.N.Nand.flash c.args.nand.now in
    let now = g.N.Nand.flash c.jobs.nand in
    let new = g.N.Nand.flash c.do_job.new.nand in
    (on_then_on c.args.operations c.jobs.left c.in_ok-progress.progress.left c.jobs.self c.do_job.new.self old now new (g.met.N.Nand.sound c.do_job.new.nand) c.jobs.invariant.on c.in_ok-progress.ensures.on).works

pub returns-then-not-progress-clause-exact : goal.returns-then-not-progress-clause-exact
returns-then-not-progress-clause-exact g c =
    let old = g.N.Nand.flash c.args.nand.now in
    let now = g.N.Nand.flash c.jobs.nand in
    let new = g.N.Nand.flash c.do_job.new.nand in
    (on_then_on c.args.operations c.jobs.left c.in_ok-progress.progress.left c.jobs.self c.do_job.new.self old now new (g.met.N.Nand.sound c.do_job.new.nand) c.jobs.invariant.on c.in_ok-progress.ensures.on).exact

pub returns-then-not-progress-clause-whole : goal.returns-then-not-progress-clause-whole
returns-then-not-progress-clause-whole g c =
    inl (c.in_ok-progress.ensures.end (not_named c.in_ok-progress.progress.named c.if-not-progress.true))

pub returns-then-not-progress-clause-idle : goal.returns-then-not-progress-clause-idle
returns-then-not-progress-clause-idle g c none =
    absurd (never_idle c.in-Some.kind c.args.self.now c.jobs.self none (c.jobs.invariant.idle none).0 (sym c.due.ensures ∙ c.in-Some.is))

pub returns-clause-kept : goal.returns-clause-kept
returns-clause-kept g c =
    c.jobs.invariant.on.kept

pub returns-clause-aged : goal.returns-clause-aged
returns-clause-aged g c =
    let old = g.N.Nand.flash c.args.nand.now in
    let now = g.N.Nand.flash c.jobs.nand in
    aged_still c.jobs.self now.blocks now.image c.jobs.invariant.on.stands

pub returns-clause-ages : goal.returns-clause-ages
returns-clause-ages g c =
    omega (arith, c.jobs.invariant.ages, jobs_few c.args.self.now)

pub returns-clause-whole : goal.returns-clause-whole
returns-clause-whole g c =
    inr (sym c.due.ensures ∙ none_is c.due.result c.in_default.not-Some)

pub returns-clause-idle : goal.returns-clause-idle
returns-clause-idle g c none =
    c.jobs.invariant.idle none

pub returns-then-not-progress-clause-bounded : goal.returns-then-not-progress-clause-bounded
returns-then-not-progress-clause-bounded g c =
    let old = g.N.Nand.flash c.args.nand.now in
    let now = g.N.Nand.flash c.jobs.nand in
    spent_part c.in-Some.kind c.args.self.now c.jobs.self old.blocks c.args.operations c.jobs.left c.in_ok-progress.progress.left (sym c.due.ensures ∙ c.in-Some.is)
    (subst (λ (b : ℕ). c.jobs.left - c.in_ok-progress.progress.left ≤ merge_cost c.in-Some.kind b) (works_blocks old now _ _ c.jobs.invariant.on.works) c.in_ok-progress.ensures.bounded) c.jobs.invariant.spent

pub returns-clause-bounded : goal.returns-clause-bounded
returns-clause-bounded g c = omega (arith, c.jobs.invariant.spent)
