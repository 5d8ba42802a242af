use Rattle.std.proofs.Common.{◌∙◌, sym, ap}
use Rattle.std.specs.Ordering.{is_lt}
use Rattle.kssd_model.specs.Rising.{key_cmp}
use Rattle.kssd_run.proofs.GoingOn.{rising_one, rising_more, not_rising}
use Rattle.kssd_run.proofs.judge.rises.Goals as goal

pub loop-i-init : goal.loop-i-init
loop-i-init c = rising_one c.args.entries.now

pub returns-then-not-lt : goal.returns-then-not-lt
returns-then-not-lt c =
    let ge = ap is_lt (λ i. key_cmp (c.key.ensures i) (c.key-in-loop-i.ensures i)) in
    sym (not_rising c.args.entries.now c.loop-i.i c.index-entries-i.result c.index-entries-i-in-loop-i.result c.loop-i.auto.i c.loop-i-test.true c.index-entries-i.is c.index-entries-i-in-loop-i.is (sym ge ∙ sym c.if-not-lt.ensures))

pub loop-i-preserved : goal.loop-i-preserved
loop-i-preserved c =
    let lt = ap is_lt (λ i. key_cmp (c.key.ensures i) (c.key-in-loop-i.ensures i)) in
    rising_more c.args.entries.now c.loop-i.i c.index-entries-i.result c.index-entries-i-in-loop-i.result c.loop-i.auto.i c.loop-i-test.true c.loop-i.invariant c.index-entries-i.is c.index-entries-i-in-loop-i.is (sym lt ∙ sym c.if-not-lt.ensures)
