use Rattle.std.proofs.Common.{◌≡◌, List, length, sym, subst, arith}
use Rattle.kfs_judge.specs.declared.reaching.Edge.{Edge}
use Rattle.kfs_judge.specs.Reaching.{edges_in, Settles}
use Rattle.kfs_judge.proofs.Reached.{Passes, passes_first, passes_more, passes_end}
use Rattle.kfs_judge.proofs.reaching.reach.Goals as goal

pub loop-waiting-init : goal.loop-waiting-init
loop-waiting-init c =
    subst (λ (l : List Edge). Passes (edges_in c.args.rows.now) l c.in_ok-reached.reached) (sym c.in_ok-waiting.ensures) (passes_first (edges_in c.args.rows.now) c.in_ok-reached.reached c.in_ok-reached.ensures)

pub returns-then-len : goal.returns-then-len
returns-then-len c =
    let settles = subst (λ (l : List Edge). Settles c.loop-waiting.reached l c.in_ok-left.left.items c.settle.new.reached) c.deref.ensures.value c.in_ok-left.ensures.settles in
    let long : length c.in_ok-left.left.items ≡ length c.loop-waiting.waiting.items = let a = c.len.ensures in let b = c.len-in-loop-waiting.ensures in let e = c.if-len.true in omega arith in
    passes_end (edges_in c.args.rows.now) c.loop-waiting.waiting.items c.in_ok-left.left.items c.loop-waiting.reached c.settle.new.reached c.loop-waiting.invariant settles long

pub loop-waiting-preserved : goal.loop-waiting-preserved
loop-waiting-preserved c =
    let settles = subst (λ (l : List Edge). Settles c.loop-waiting.reached l c.in_ok-left.left.items c.settle.new.reached) c.deref.ensures.value c.in_ok-left.ensures.settles in
    passes_more (edges_in c.args.rows.now) c.loop-waiting.waiting.items c.in_ok-left.left.items c.loop-waiting.reached c.settle.new.reached c.loop-waiting.invariant settles
