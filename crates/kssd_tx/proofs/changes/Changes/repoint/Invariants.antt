use Rattle.std.proofs.Common.{◌≡◌, ◌++◌, map, take, drop}
use Rattle.kssd_tx.specs.Lists.{repointed}
use Rattle.kssd_tx.proofs.changes.Changes.repoint.Given as goal

abbrev pub invariant-loop-entry : goal.invariant-loop-entry
invariant-loop-entry l = l.entry-items ≡ map (repointed l.page l.other) (take l.entry-index l.initial.entry-items) ++ drop l.entry-index l.initial.entry-items
