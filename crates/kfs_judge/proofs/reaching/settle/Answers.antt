use Rattle.std.proofs.Common.{[], List, sym, ap, subst, arith, length}
use Rattle.kfs_judge.specs.declared.reaching.Edge.{Edge}
use Rattle.kfs_judge.specs.Reaching.{Settles}
use Rattle.kfs_judge.proofs.Reached.{settles_none, settles_more, one_more_left}
use Rattle.kfs_judge.proofs.reaching.settle.Goals as goal

pub loop-edge-init : goal.loop-edge-init
loop-edge-init c = record {
  settles = subst (λ (l : List Edge). Settles c.args.reached.now [] l c.args.reached.now) (sym c.new-left.ensures.items) (settles_none c.args.reached.now);
  fewer = let e = ap (λ (l : List Edge). length l) c.new-left.ensures.items in omega arith;
}

pub loop-edge-preserved : goal.loop-edge-preserved
loop-edge-preserved c =
    let few = c.loop-edge.invariant.fewer in
    record {
      settles = settles_more c.args.reached.now c.loop-edge.reached c.settle_one.new.reached c.args.waiting.now c.loop-edge.edge-index _ c.loop-edge.left.items c.settle_one.new.left.items c.loop-edge-test.true few c.loop-edge.invariant.settles c.in_ok-settle_one.ensures;
      fewer = let more = one_more_left c.loop-edge.reached c.settle_one.new.reached _ c.loop-edge.left.items c.settle_one.new.left.items c.in_ok-settle_one.ensures in omega arith;
    }
