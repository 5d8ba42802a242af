use Rattle.std.proofs.Common.{◌≡◌, ◌∙◌, false, sym, arith}
use Rattle.std.proofs.lemmas.Result.{err_from_is_err_and}
use Rattle.kssd_compact.specs.Job.{job_done}
use Rattle.kssd_compact.specs.Finishing.{GoesOn}
use Rattle.kssd_compact.proofs.Later.{goes_still, goes_step, can_go, fewer_left, within_still, within_step, within_stops, spent_step, spent_few}
use Rattle.kssd_compact.proofs.job.Job.go_on.Goals as goal

pub steps-init : goal.steps-init
steps-init g c =
    let flash = g.N.Nand.flash in
    record { goes = goes_still c.args.self.now (flash c.args.nand.now); can = c.requires; spent = omega arith; within = within_still c.args.operations (flash c.args.nand.now) (g.met.N.Nand.sound c.args.nand.now) }

pub steps-smaller : goal.steps-smaller
steps-smaller g c =
    let flash = g.N.Nand.flash in
    let going : job_done c.steps.self ≡ false = sym c.done.ensures ∙ c.steps-test.true in
    fewer_left c.steps.self c.step.new.self (flash c.steps.nand) (flash c.step.new.nand) _ _ c.steps.invariant.can going c.in_ok-wrote.ensures.same c.in_ok-wrote.ensures.counts

pub steps-preserved : goal.steps-preserved
steps-preserved g c =
    let flash = g.N.Nand.flash in
    let goes : GoesOn c.args.self.now (flash c.args.nand.now) c.step.new.self (flash c.step.new.nand) = goes_step c.args.self.now c.steps.self c.step.new.self (flash c.args.nand.now) (flash c.steps.nand) (flash c.step.new.nand) c.steps.invariant.goes c.in_ok-wrote.ensures.job c.in_ok-wrote.ensures.same c.step.ensures.outside in
    record {
      goes = goes;
      can = can_go c.args.self.now c.step.new.self (flash c.args.nand.now) (flash c.step.new.nand) goes c.requires;
      spent = spent_step c.args.operations c.steps.left c.in_ok-wrote.wrote c.args.self.now c.steps.self c.step.new.self (flash c.steps.nand) (flash c.step.new.nand) c.steps.invariant.spent c.in_ok-wrote.ensures.told c.in_ok-wrote.ensures.counts;
      within = within_step c.args.operations c.steps.left c.in_ok-wrote.wrote c.step.new.self (flash c.args.nand.now) (flash c.steps.nand) (flash c.step.new.nand) (g.met.N.Nand.sound c.steps.nand) (g.met.N.Nand.sound c.step.new.nand) (grind arith) c.steps.invariant.within c.in_ok-wrote.ensures.works c.in_ok-wrote.ensures.wrote;
    }

pub returns-in_err-wrote-clause-stops : goal.returns-in_err-wrote-clause-stops
returns-in_err-wrote-clause-stops g c =
    let flash = g.N.Nand.flash in
    let p = err_from_is_err_and c.from_residual.result c.from_residual.ensures.1 in
    rw (p.1, p.2) (within_stops c.args.operations c.steps.left (flash c.args.nand.now) (flash c.steps.nand) (flash c.step.new.nand) _ (g.met.N.Nand.sound c.step.new.nand) (grind arith) c.steps.invariant.within c.in_err-wrote.ensures.err)

pub returns-then-left-eq0-clause-bounded : goal.returns-then-left-eq0-clause-bounded
returns-then-left-eq0-clause-bounded g c =
    let flash = g.N.Nand.flash in
    spent_few c.args.operations c.steps.left c.args.self.now c.steps.self (flash c.args.nand.now) (flash c.steps.nand) c.steps.invariant.goes c.steps.invariant.can c.steps.invariant.spent

pub returns-clause-bounded : goal.returns-clause-bounded
returns-clause-bounded g c =
    let flash = g.N.Nand.flash in
    spent_few c.args.operations c.steps.left c.args.self.now c.steps.self (flash c.args.nand.now) (flash c.steps.nand) c.steps.invariant.goes c.steps.invariant.can c.steps.invariant.spent
