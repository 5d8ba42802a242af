use Rattle.std.proofs.Common.{sym, subst, arith}
use Rattle.kssd_tx.specs.Lists.{AreLists}
use Rattle.kssd_tx.proofs.Counting.{list-past}
use Rattle.kssd_tx.proofs.table.TxTable.list.Goals as goal

pub returns-then-number-ge-MAX_OPEN : goal.returns-then-number-ge-MAX_OPEN
returns-then-number-ge-MAX_OPEN c =
    let sound = subst AreLists c.self.view_is c.self.invariant in
    record {
      value = sym (list-past c.args.self.now c.args.tx.0 (omega (arith, sound.four)));
      sound = sound;
    }
