use Rattle.std.proofs.Common.{◌≡◌, ◌-◌, ◌++◌, true}
use Rattle.std.specs.Prelude.{is_ok}
use Rattle.kssd_entry.specs.Reading.{entries_at}
use Rattle.kssd_entry.specs.Finding.{rest_among}
use Rattle.kssd_entry.proofs.finding.rest_among.Given as goal

abbrev pub invariant-loop-number : goal.invariant-loop-number
invariant-loop-number l = (is_ok (entries_at l.number (l.count - l.number) l.rest) ≡ true) × (l.entries ++ rest_among l.key (entries_at l.number (l.count - l.number) l.rest) ≡ rest_among l.key (entries_at 0 l.count l.bytes))
