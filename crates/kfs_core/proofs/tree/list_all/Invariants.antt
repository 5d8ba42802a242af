use Rattle.std.proofs.Common.{◌≡◌, ◌-◌, ◌^◌, length}
use Rattle.kfs_tx.specs.Tx.{Aged, seen}
use Rattle.kfs_core.proofs.Telling.{Leads}
use Rattle.kfs_core.proofs.tree.list_all.Given as goal

-- the tx stays, and what is told and what is left lead to all
abbrev pub invariant-places : goal.invariant-places
invariant-places g l = record {
  same : l.running.tx ≡ l.fn.running.tx;
  leads : Leads (seen l.fn.running.tx) l.list l.todo.items;
  age : Aged l.fn.running l.running 0;
}

-- a list in memory is shorter
abbrev pub decreases-places : goal.decreases-places
decreases-places g l = 2 ^ 64 - length l.list
