use Rattle.std.proofs.Common.{◌∙◌, arith}
use Rattle.std.proofs.lemmas.Result.{err_from_is_err_and}
use Rattle.kssd_work.proofs.Rounds.{going_first, going_on, round_done, works_last, worked_last, done_last, idle_last, leaves_last, stops_last}
use Rattle.kssd_work.proofs.working.work.Goals as goal

pub loop-round-init : goal.loop-round-init
loop-round-init g c = going_first c.args.mounted.now (g.N.Nand.flash c.args.nand.now) c.args.operations (g.met.N.Nand.sound c.args.nand.now) c.requires.stands

pub loop-round-preserved : goal.loop-round-preserved
loop-round-preserved g c =
    let m = c.loop-round.mounted in
    let old = g.N.Nand.flash c.loop-round.nand in
    let n = c.do_round.new.mounted in
    let now = g.N.Nand.flash c.do_round.new.nand in
    let done = c.in_ok-more.ensures in
    going_on c.args.mounted.now (g.N.Nand.flash c.args.nand.now) c.args.operations c.loop-round._round c.loop-round.left c.in-Some.more m n old now (g.met.N.Nand.sound c.do_round.new.nand) c.loop-round.invariant
    (round_done m n old now c.loop-round.left c.in-Some.more _ c.in-Some.is done.stands done.machine c.do_round.ensures.ages c.do_round.ensures.objects done.few done.works done.ended done.counted done.spent done.paid)

pub do_round-requires-clause-stands : goal.do_round-requires-clause-stands
do_round-requires-clause-stands g c = c.loop-round.invariant.stands

pub do_round-requires-clause-number : goal.do_round-requires-clause-number
do_round-requires-clause-number g c = omega (arith, c.loop-round.invariant.ages, c.loop-round.invariant.rounds, c.requires.number)

pub returns-in_err-more-clause-ages : goal.returns-in_err-more-clause-ages
returns-in_err-more-clause-ages g c = omega (arith, c.loop-round.invariant.ages, c.loop-round.invariant.rounds, c.do_round.ensures.ages)

pub returns-in_err-more-clause-objects : goal.returns-in_err-more-clause-objects
returns-in_err-more-clause-objects g c = c.do_round.ensures.objects ∙ c.loop-round.invariant.objects

pub returns-in_err-more-clause-leaves : goal.returns-in_err-more-clause-leaves
returns-in_err-more-clause-leaves g c =
    leaves_last c.loop-round.mounted c.args.mounted.now (g.N.Nand.flash c.args.nand.now) (g.N.Nand.flash c.loop-round.nand) (g.N.Nand.flash c.do_round.new.nand) c.args.operations c.loop-round._round c.loop-round.left _ _ c.loop-round.invariant c.do_round.ensures.leaves
    (omega (arith, c.loop-round.invariant.ages, c.loop-round.invariant.rounds))

pub returns-in_err-more-clause-stops : goal.returns-in_err-more-clause-stops
returns-in_err-more-clause-stops g c =
    let p = err_from_is_err_and c.from_residual.result c.from_residual.ensures.1 in
    rw (p.1, p.2) (stops_last c.loop-round.mounted c.args.mounted.now (g.N.Nand.flash c.args.nand.now) (g.N.Nand.flash c.loop-round.nand) (g.N.Nand.flash c.do_round.new.nand) _ c.args.operations c.loop-round._round c.loop-round.left (g.met.N.Nand.sound c.do_round.new.nand) c.loop-round.invariant
    c.in_err-more.ensures.stops)

pub returns-in-None-clause-machine : goal.returns-in-None-clause-machine
returns-in-None-clause-machine g c = c.in_ok-more.ensures.machine ∙ c.loop-round.invariant.machine

pub returns-in-None-clause-ages : goal.returns-in-None-clause-ages
returns-in-None-clause-ages g c = omega (arith, c.loop-round.invariant.ages, c.loop-round.invariant.rounds, c.do_round.ensures.ages)

pub returns-in-None-clause-objects : goal.returns-in-None-clause-objects
returns-in-None-clause-objects g c = c.do_round.ensures.objects ∙ c.loop-round.invariant.objects

pub returns-in-None-clause-leaves : goal.returns-in-None-clause-leaves
returns-in-None-clause-leaves g c =
    leaves_last c.loop-round.mounted c.args.mounted.now (g.N.Nand.flash c.args.nand.now) (g.N.Nand.flash c.loop-round.nand) (g.N.Nand.flash c.do_round.new.nand) c.args.operations c.loop-round._round c.loop-round.left _ _ c.loop-round.invariant c.do_round.ensures.leaves
    (omega (arith, c.loop-round.invariant.ages, c.loop-round.invariant.rounds))

pub returns-in-None-clause-works : goal.returns-in-None-clause-works
returns-in-None-clause-works g c =
    works_last c.loop-round.mounted c.args.mounted.now (g.N.Nand.flash c.args.nand.now) (g.N.Nand.flash c.loop-round.nand) (g.N.Nand.flash c.do_round.new.nand) c.args.operations c.loop-round._round c.loop-round.left _ (g.met.N.Nand.sound c.do_round.new.nand) c.in-None.is c.loop-round.invariant
    c.in_ok-more.ensures.works

pub returns-in-None-clause-worked : goal.returns-in-None-clause-worked
returns-in-None-clause-worked g c =
    worked_last c.loop-round.mounted c.args.mounted.now c.do_round.new.mounted (g.N.Nand.flash c.args.nand.now) (g.N.Nand.flash c.loop-round.nand) (g.N.Nand.flash c.do_round.new.nand) c.args.operations c.loop-round._round c.loop-round.left _ c.in-None.is c.loop-round.invariant c.in_ok-more.ensures.ended c.in_ok-more.ensures.spent

pub returns-in-None-clause-idle : goal.returns-in-None-clause-idle
returns-in-None-clause-idle g c nothing =
    idle_last c.loop-round.mounted c.args.mounted.now c.do_round.new.mounted (g.N.Nand.flash c.args.nand.now) (g.N.Nand.flash c.loop-round.nand) (g.N.Nand.flash c.do_round.new.nand) c.args.operations c.loop-round._round c.loop-round.left _ c.loop-round.invariant c.in_ok-more.ensures.idle nothing

pub unreachable-requires : goal.unreachable-requires
unreachable-requires g c = omega (arith, c.loop-round-test.false, c.loop-round.invariant.rounds)

pub returns-in-None-clause-done : goal.returns-in-None-clause-done
returns-in-None-clause-done g c many =
    done_last c.loop-round.mounted c.args.mounted.now c.do_round.new.mounted (g.N.Nand.flash c.args.nand.now) (g.N.Nand.flash c.loop-round.nand) c.args.operations c.loop-round._round c.loop-round.left _ c.in-None.is c.loop-round.invariant c.in_ok-more.ensures.enough many
