use Rattle.std.proofs.Common.{subst}
use Rattle.kv_base.specs.declared.pairs.Pair.{Pair}
use Rattle.kv_device.specs.Objects.{pair_of}
use Rattle.kfs_judge.specs.Rows.{IsRow}
use Rattle.kfs_judge.proofs.Gathering.{extends_one}
use Rattle.kfs_judge.proofs.reading.add_rows.Goals as goal

pub loop-pair-preserved : goal.loop-pair-preserved
loop-pair-preserved c =
    extends_one c.args.pairs.now c.loop-pair.pair-index c.pair-item.result c.args.rows.now.items c.loop-pair.rows.items c.push.new.self.items c.row_of.result c.loop-pair-test.true c.loop-pair.invariant
    (subst (λ (p : Pair). IsRow (pair_of p) c.row_of.result) c.pair-item.is c.row_of.ensures) c.in_ok-push.ensures.items
