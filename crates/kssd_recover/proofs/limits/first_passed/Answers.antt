use Rattle.std.proofs.Common.{arith, inl, inr}
use Rattle.kssd_recover.proofs.FirstPassed.{first_0, first_1, first_2, first_3, first_4, none_is_passed}
use Rattle.kssd_recover.proofs.limits.first_passed.Goals.{then-counts-layout-2-via-then-counts-layout-2, then-counts-layout-2-via-else-counts-layout-2+then-counts-layout-3}
use Rattle.kssd_recover.proofs.limits.first_passed.Goals as goal

pub returns-then-counts-layout : goal.returns-then-counts-layout
returns-then-counts-layout c = λ image anchor are. first_0 c.args.layout.now.blocks image anchor c.args.counts.now are (omega arith)

pub returns-then-counts-layout-2 : goal.returns-then-counts-layout-2
returns-then-counts-layout-2 c = λ image anchor are. first_1 c.args.layout.now.blocks image anchor c.args.counts.now (omega arith) are (omega arith) (elim c.then-counts-layout-2.branch [
  | then-counts-layout-2-via-then-counts-layout-2 w ↦ inl (omega arith)
  | then-counts-layout-2-via-else-counts-layout-2+then-counts-layout-3 w ↦ inr (omega arith)
])

pub returns-then-counts-layout-4 : goal.returns-then-counts-layout-4
returns-then-counts-layout-4 c = λ image anchor are. first_2 c.args.layout.now.blocks image anchor c.args.counts.now (omega arith) are (omega arith) (omega arith) (omega arith) (omega arith)

pub returns-then-counts-layout-5 : goal.returns-then-counts-layout-5
returns-then-counts-layout-5 c = λ image anchor are. first_3 c.args.layout.now.blocks image anchor c.args.counts.now (omega arith) are (omega arith) (omega arith) (omega arith) (omega arith) (omega arith)

pub returns-then-not-counts : goal.returns-then-not-counts
returns-then-not-counts c = λ image anchor are. first_4 c.args.layout.now.blocks image anchor c.args.counts.now (omega arith) are (omega arith) (omega arith) (omega arith) (omega arith) (omega arith) cc

pub returns : goal.returns
returns c = λ image anchor are. none_is_passed c.args.layout.now.blocks image anchor c.args.counts.now (omega arith) are (omega arith) (omega arith) (omega arith) (omega arith) (omega arith) cc
