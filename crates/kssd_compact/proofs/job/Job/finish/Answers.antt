use Rattle.std.proofs.Common.{◌≡◌, ◌∙◌, false, sym}
use Rattle.std.proofs.lemmas.Result.{err_from_is_err_and}
use Rattle.kssd_compact.specs.Job.{job_done}
use Rattle.kssd_compact.proofs.Later.{later_step, can_still, fewer_left, later_stops, later_works}
use Rattle.kssd_compact.proofs.job.Job.finish.Goals as goal

pub steps-smaller : goal.steps-smaller
steps-smaller g c =
    let flash = g.N.Nand.flash in
    let going : job_done c.steps.job ≡ false = sym c.done.ensures ∙ c.steps-test.true in
    fewer_left c.steps.job c.step.new.self (flash c.steps.nand) (flash c.step.new.nand) _ _ c.steps.invariant.can going c.in_ok-step.ensures.same c.in_ok-step.ensures.counts

pub steps-preserved : goal.steps-preserved
steps-preserved g c =
    let flash = g.N.Nand.flash in
    let later = later_step c.args.self c.steps.job c.step.new.self (flash c.args.nand.now) (flash c.steps.nand) (flash c.step.new.nand) (g.met.N.Nand.sound c.step.new.nand) c.steps.invariant.later c.in_ok-step.ensures.job c.in_ok-step.ensures.same c.in_ok-step.ensures.counts c.step.ensures.outside c.in_ok-step.ensures.works in
    record { later = later; can = can_still c.args.self c.step.new.self (flash c.args.nand.now) (flash c.step.new.nand) later c.requires }

pub returns-in_err-step-clause-stops : goal.returns-in_err-step-clause-stops
returns-in_err-step-clause-stops g c =
    let flash = g.N.Nand.flash in
    let going : job_done c.steps.job ≡ false = sym c.done.ensures ∙ c.steps-test.true in
    let p = err_from_is_err_and c.from_residual.result c.from_residual.ensures.1 in
    rw (p.1, p.2) (later_stops c.args.self c.steps.job (flash c.args.nand.now) (flash c.steps.nand) (flash c.step.new.nand) _ (g.met.N.Nand.sound c.step.new.nand) c.steps.invariant.later c.steps.invariant.can going c.in_err-step.ensures.err)

pub returns-clause-works : goal.returns-clause-works
returns-clause-works g c =
    let flash = g.N.Nand.flash in
    later_works c.args.self c.steps.job (flash c.args.nand.now) (flash c.steps.nand) c.steps.invariant.later c.steps.invariant.can
