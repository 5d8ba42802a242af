use Rattle.std.proofs.Common.{◌+◌, ℕ, Option, take, sym, subst, arith}
use Rattle.kfs_judge.specs.Tables.{IsLeastOf, bad_inode}
use Rattle.kfs_judge.proofs.Leasts.{least_more, least_all}
use Rattle.kfs_judge.proofs.kinds.least_inode.Goals as goal

pub loop-row-preserved : goal.loop-row-preserved
loop-row-preserved c =
    subst (λ (o : Option ℕ). IsLeastOf (bad_inode c.args.next) (take (c.loop-row.row-index + 1) c.args.rows.now) o) (sym c.lower-least.ensures)
    (least_more (bad_inode c.args.next) c.args.rows.now c.loop-row.row-index _ c.loop-row.least c.bad_inode.result c.loop-row-test.true c.loop-row.invariant c.bad_inode.ensures)

pub returns : goal.returns
returns c = least_all (bad_inode c.args.next) c.args.rows.now c.loop-row.row-index c.loop-row.least (omega arith) c.loop-row.invariant
