use Rattle.std.proofs.Common.{◌≡◌, ◌≤◌, ◌+◌, drop}
use Rattle.kssd_log.specs.Append.{pages_more}
use Rattle.kssd_log.proofs.append.group_pages.Given as goal

abbrev pub invariant-loop-entry : goal.invariant-loop-entry
invariant-loop-entry l = record {
  count : l.pages + pages_more l.used (drop l.entry-index l.entry-items) ≡ pages_more 4096 l.entry-items;
  used : l.used ≤ 4096;
  few : l.pages ≤ l.entry-index;
}
