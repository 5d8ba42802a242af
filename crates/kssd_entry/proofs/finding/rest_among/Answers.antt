use Rattle.kssd_entry.specs.Borrowed.{entry_in}
use Rattle.kssd_entry.specs.Reading.{entries_at}
use Rattle.kssd_entry.specs.Finding.{rest_among}
use Rattle.kssd_entry.proofs.Found.{first_reads, goes_on_from, none_left}
use Rattle.kssd_entry.proofs.finding.rest_among.Goals as goal

pub next_borrowed-entry-requires : goal.next_borrowed-entry-requires
next_borrowed-entry-requires c = first_reads c.loop-number.number c.args.count c.loop-number.rest.now c.loop-number-test.true c.loop-number.invariant.0

pub loop-number-preserved : goal.loop-number-preserved
loop-number-preserved c =
    rw c.in_ok-add_from.ensures (goes_on_from c.args.key.now c.args.count c.loop-number.number c.loop-number.rest.now c.next_borrowed-entry.result.1.now (entry_in c.next_borrowed-entry.result.0) c.loop-number.entries (rest_among c.args.key.now (entries_at 0 c.args.count c.args.bytes.now)) c.loop-number-test.true c.next_borrowed-entry.ensures.gives c.loop-number.invariant.0 c.loop-number.invariant.1)

pub returns : goal.returns
returns c = none_left c.args.key.now c.args.count c.loop-number.number c.loop-number.rest.now c.loop-number.entries (rest_among c.args.key.now (entries_at 0 c.args.count c.args.bytes.now)) c.loop-number-test.false c.loop-number.invariant.1
