use Rattle.std.proofs.Common.{take}
use Rattle.kssd_values.proofs.Opening.{AreMarked}
use Rattle.kssd_values.proofs.values.Values.open.Given as goal

abbrev pub invariant-loop-page : goal.invariant-loop-page
invariant-loop-page l = AreMarked l.layout.blocks (take l.page-index l.page-items) l.marks.items l.free.items
