use Rattle.std.proofs.Common.{◌∙◌, ◌-◌, ◌^◌, Option, is_some, refl, sym, ap, inr, arith}
use Rattle.std.proofs.lemmas.Result.{err_from_is_err_and}
use Rattle.kv_nand.proofs.Chaining.{works_blocks, works_within}
use Rattle.kssd_levels.specs.declared.kind.JobKind.{JobKind}
use Rattle.kssd_work.proofs.Rounds.{AreWritten, none_from, leaves_since, due_ended, more_done, few_then, works_then, stops_then, ended_then, counted_then, spent_then, idle_then}
use Rattle.kssd_work.proofs.Paid.{few_ahead, paid_then, enough_then}
use Rattle.kssd_work.proofs.working.do_round.Goals as goal

pub returns-in_err-left-clause-leaves : goal.returns-in_err-left-clause-leaves
returns-in_err-left-clause-leaves g c =
    let old = g.N.Nand.flash c.args.nand.now in
    leaves_since old old (g.N.Nand.flash c.write_runs.new.nand) _ _ refl c.write_runs.ensures.leaves (omega arith)

pub returns-then-is_some-clause-leaves : goal.returns-then-is_some-clause-leaves
returns-then-is_some-clause-leaves g c =
    let old = g.N.Nand.flash c.args.nand.now in
    leaves_since old old (g.N.Nand.flash c.write_runs.new.nand) _ _ refl c.write_runs.ensures.leaves (omega arith)

pub returns-then-is_some-clause-works : goal.returns-then-is_some-clause-works
returns-then-is_some-clause-works g c =
    let old = g.N.Nand.flash c.args.nand.now in
    let mid = g.N.Nand.flash c.write_runs.new.nand in
    works_within old mid (c.args.operations - c.in_ok-left.left) (2 ^ 64) _ (2 ^ 64) c.in_ok-left.ensures.works (omega arith) (omega arith)

pub returns-then-is_some-clause-ended : goal.returns-then-is_some-clause-ended
returns-then-is_some-clause-ended g c =
    let old = g.N.Nand.flash c.args.nand.now in
    let mid = g.N.Nand.flash c.write_runs.new.nand in
    let m = c.args.mounted.now in
    let n = c.write_runs.new.mounted in
    let wrote = c.in_ok-left.ensures in
    let h : AreWritten m old c.args.operations c.in_ok-left.left n mid = record { rest = c.write_runs.ensures.rest; few = wrote.few; works = wrote.works; exact = wrote.exact } in
    let due = ap (λ (j : Option JobKind). is_some j) (sym c.due.ensures) ∙ sym c.is_some.ensures ∙ c.if-is_some.true in
    inr (more_done old mid c.args.operations (due_ended m old c.args.operations c.in_ok-left.left n mid h wrote.whole due))

pub returns-then-is_some-clause-spent : goal.returns-then-is_some-clause-spent
returns-then-is_some-clause-spent g c none =
    let old = g.N.Nand.flash c.args.nand.now in
    let mid = g.N.Nand.flash c.write_runs.new.nand in
    let m = c.args.mounted.now in
    let n = c.write_runs.new.mounted in
    let wrote = c.in_ok-left.ensures in
    let h : AreWritten m old c.args.operations c.in_ok-left.left n mid = record { rest = c.write_runs.ensures.rest; few = wrote.few; works = wrote.works; exact = wrote.exact } in
    let due = ap (λ (j : Option JobKind). is_some j) (sym c.due.ensures) ∙ sym c.is_some.ensures ∙ c.if-is_some.true in
    (refl, inr (due_ended m old c.args.operations c.in_ok-left.left n mid h wrote.whole due))

pub returns-then-is_some-clause-idle : goal.returns-then-is_some-clause-idle
returns-then-is_some-clause-idle g c nothing = (refl, (c.write_runs.ensures.idle nothing.0).0)

pub collect_block-requires-clause-number : goal.collect_block-requires-clause-number
collect_block-requires-clause-number g c = omega (arith, c.requires.number, c.write_runs.ensures.ages)

pub collect_block-requires-clause-rested : goal.collect_block-requires-clause-rested
collect_block-requires-clause-rested g c = sym c.due.ensures ∙ none_from c.due.result (sym c.is_some.ensures ∙ c.if-is_some.false)

pub returns-in_err-more-clause-ages : goal.returns-in_err-more-clause-ages
returns-in_err-more-clause-ages g c = omega (arith, c.collect_block.ensures.ages, c.write_runs.ensures.ages)

pub returns-in_err-more-clause-objects : goal.returns-in_err-more-clause-objects
returns-in_err-more-clause-objects g c = c.collect_block.ensures.objects ∙ c.write_runs.ensures.objects

pub returns-in_err-more-clause-leaves : goal.returns-in_err-more-clause-leaves
returns-in_err-more-clause-leaves g c =
    let old = g.N.Nand.flash c.args.nand.now in
    let mid = g.N.Nand.flash c.write_runs.new.nand in
    leaves_since old mid (g.N.Nand.flash c.collect_block.new.nand) _ _ (works_blocks old mid _ _ c.in_ok-left.ensures.works) c.collect_block.ensures.leaves (omega (arith, c.write_runs.ensures.ages))

pub returns-in_err-more-clause-stops : goal.returns-in_err-more-clause-stops
returns-in_err-more-clause-stops g c =
    let old = g.N.Nand.flash c.args.nand.now in
    let mid = g.N.Nand.flash c.write_runs.new.nand in
    let new = g.N.Nand.flash c.collect_block.new.nand in
    let m = c.args.mounted.now in
    let n = c.write_runs.new.mounted in
    let o = c.collect_block.new.mounted in
    let wrote = c.in_ok-left.ensures in
    let h : AreWritten m old c.args.operations c.in_ok-left.left n mid = record { rest = c.write_runs.ensures.rest; few = wrote.few; works = wrote.works; exact = wrote.exact } in
    let p = err_from_is_err_and c.from_residual-in_err-more.result c.from_residual-in_err-more.ensures.1 in
    rw (p.1, p.2) (stops_then m old c.args.operations c.in_ok-left.left n mid new _ (g.met.N.Nand.sound c.collect_block.new.nand) h c.in_err-more.ensures.stops)

pub returns-clause-machine : goal.returns-clause-machine
returns-clause-machine g c = c.in_ok-more.ensures.machine ∙ c.in_ok-left.ensures.machine

pub returns-clause-ages : goal.returns-clause-ages
returns-clause-ages g c = omega (arith, c.collect_block.ensures.ages, c.write_runs.ensures.ages)

pub returns-clause-objects : goal.returns-clause-objects
returns-clause-objects g c = c.collect_block.ensures.objects ∙ c.write_runs.ensures.objects

pub returns-clause-leaves : goal.returns-clause-leaves
returns-clause-leaves g c =
    let old = g.N.Nand.flash c.args.nand.now in
    let mid = g.N.Nand.flash c.write_runs.new.nand in
    leaves_since old mid (g.N.Nand.flash c.collect_block.new.nand) _ _ (works_blocks old mid _ _ c.in_ok-left.ensures.works) c.collect_block.ensures.leaves (omega (arith, c.write_runs.ensures.ages))

pub returns-clause-few : goal.returns-clause-few
returns-clause-few g c =
    let old = g.N.Nand.flash c.args.nand.now in
    let mid = g.N.Nand.flash c.write_runs.new.nand in
    let new = g.N.Nand.flash c.collect_block.new.nand in
    let m = c.args.mounted.now in
    let n = c.write_runs.new.mounted in
    let o = c.collect_block.new.mounted in
    let wrote = c.in_ok-left.ensures in
    let h : AreWritten m old c.args.operations c.in_ok-left.left n mid = record { rest = c.write_runs.ensures.rest; few = wrote.few; works = wrote.works; exact = wrote.exact } in
    few_then m old c.args.operations c.in_ok-left.left n mid c.in_ok-more.more h c.in_ok-more.ensures.few

pub returns-clause-works : goal.returns-clause-works
returns-clause-works g c =
    let old = g.N.Nand.flash c.args.nand.now in
    let mid = g.N.Nand.flash c.write_runs.new.nand in
    let new = g.N.Nand.flash c.collect_block.new.nand in
    let m = c.args.mounted.now in
    let n = c.write_runs.new.mounted in
    let o = c.collect_block.new.mounted in
    let wrote = c.in_ok-left.ensures in
    let h : AreWritten m old c.args.operations c.in_ok-left.left n mid = record { rest = c.write_runs.ensures.rest; few = wrote.few; works = wrote.works; exact = wrote.exact } in
    works_then m old c.args.operations c.in_ok-left.left n mid new c.in_ok-more.more (g.met.N.Nand.sound c.collect_block.new.nand) h c.in_ok-more.ensures.few c.in_ok-more.ensures.works

pub returns-clause-ended : goal.returns-clause-ended
returns-clause-ended g c =
    let old = g.N.Nand.flash c.args.nand.now in
    let mid = g.N.Nand.flash c.write_runs.new.nand in
    let new = g.N.Nand.flash c.collect_block.new.nand in
    let m = c.args.mounted.now in
    let n = c.write_runs.new.mounted in
    let o = c.collect_block.new.mounted in
    let wrote = c.in_ok-left.ensures in
    let h : AreWritten m old c.args.operations c.in_ok-left.left n mid = record { rest = c.write_runs.ensures.rest; few = wrote.few; works = wrote.works; exact = wrote.exact } in
    ended_then m old c.args.operations c.in_ok-left.left n mid o new c.in_ok-more.more h c.in_ok-more.ensures.ended

pub returns-clause-counted : goal.returns-clause-counted
returns-clause-counted g c =
    let old = g.N.Nand.flash c.args.nand.now in
    let mid = g.N.Nand.flash c.write_runs.new.nand in
    let new = g.N.Nand.flash c.collect_block.new.nand in
    let m = c.args.mounted.now in
    let n = c.write_runs.new.mounted in
    let o = c.collect_block.new.mounted in
    let wrote = c.in_ok-left.ensures in
    let h : AreWritten m old c.args.operations c.in_ok-left.left n mid = record { rest = c.write_runs.ensures.rest; few = wrote.few; works = wrote.works; exact = wrote.exact } in
    counted_then m old c.args.operations c.in_ok-left.left n mid o new c.in_ok-more.more h c.in_ok-more.ensures.few c.in_ok-more.ensures.counted

pub returns-clause-spent : goal.returns-clause-spent
returns-clause-spent g c none =
    let old = g.N.Nand.flash c.args.nand.now in
    let mid = g.N.Nand.flash c.write_runs.new.nand in
    let new = g.N.Nand.flash c.collect_block.new.nand in
    let m = c.args.mounted.now in
    let n = c.write_runs.new.mounted in
    let o = c.collect_block.new.mounted in
    let wrote = c.in_ok-left.ensures in
    let h : AreWritten m old c.args.operations c.in_ok-left.left n mid = record { rest = c.write_runs.ensures.rest; few = wrote.few; works = wrote.works; exact = wrote.exact } in
    let rested = sym c.due.ensures ∙ none_from c.due.result (sym c.is_some.ensures ∙ c.if-is_some.false) in
    spent_then m old c.args.operations c.in_ok-left.left n mid o new c.in_ok-more.more h rested c.in_ok-more.ensures.idle none

pub returns-clause-idle : goal.returns-clause-idle
returns-clause-idle g c nothing =
    let old = g.N.Nand.flash c.args.nand.now in
    let mid = g.N.Nand.flash c.write_runs.new.nand in
    let new = g.N.Nand.flash c.collect_block.new.nand in
    let m = c.args.mounted.now in
    let n = c.write_runs.new.mounted in
    let o = c.collect_block.new.mounted in
    let wrote = c.in_ok-left.ensures in
    let h : AreWritten m old c.args.operations c.in_ok-left.left n mid = record { rest = c.write_runs.ensures.rest; few = wrote.few; works = wrote.works; exact = wrote.exact } in
    idle_then m n o old mid new c.in_ok-more.more (c.write_runs.ensures.idle nothing.0).0 c.in_ok-more.ensures.idle nothing

pub returns-then-is_some-clause-enough : goal.returns-then-is_some-clause-enough
returns-then-is_some-clause-enough g c none =
    let due = ap (λ (j : Option JobKind). is_some j) (sym c.due.ensures) ∙ sym c.is_some.ensures ∙ c.if-is_some.true in
    inr (few_ahead c.write_runs.new.mounted.index c.args.operations c.in_ok-left.left _ c.in_ok-left.ensures.whole due c.in_ok-left.ensures.bounded)

pub returns-clause-paid : goal.returns-clause-paid
returns-clause-paid g c =
    let rested = sym c.due.ensures ∙ none_from c.due.result (sym c.is_some.ensures ∙ c.if-is_some.false) in
    paid_then c.args.mounted.now c.write_runs.new.mounted c.collect_block.new.mounted _ c.args.operations c.in_ok-left.left c.in_ok-more.more c.in_ok-left.ensures.bounded rested c.in_ok-more.ensures.soon c.in_ok-more.ensures.index

pub returns-clause-enough : goal.returns-clause-enough
returns-clause-enough g c none =
    enough_then c.collect_block.new.mounted c.args.operations c.in_ok-left.left _ c.in_ok-more.more c.in_ok-left.ensures.bounded c.in_ok-more.ensures.enough none
