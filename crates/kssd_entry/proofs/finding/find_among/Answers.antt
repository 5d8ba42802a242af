use Rattle.std.proofs.Common.{◌∙◌, Some, sym, ap}
use Rattle.kssd_entry.specs.Borrowed.{entry_in}
use Rattle.kssd_entry.specs.Reading.{entries_at}
use Rattle.kssd_entry.specs.Finding.{found_among}
use Rattle.kssd_entry.proofs.Found.{first_reads, is_found, goes_by, is_none}
use Rattle.kssd_entry.proofs.finding.find_among.Goals as goal

pub next_borrowed-entry-requires : goal.next_borrowed-entry-requires
next_borrowed-entry-requires c = first_reads c.loop-number.number c.args.count c.loop-number.rest.now c.loop-number-test.true c.loop-number.invariant.0

pub returns-then-has_key : goal.returns-then-has_key
returns-then-has_key c =
    ap (λ e. Some e) c.in_ok-entry.ensures
    ∙ is_found c.args.key.now c.args.count c.loop-number.number c.loop-number.rest.now c.next_borrowed-entry.result.1.now (entry_in c.next_borrowed-entry.result.0) (found_among c.args.key.now (entries_at 0 c.args.count c.args.bytes.now)) c.loop-number-test.true c.next_borrowed-entry.ensures.gives (sym c.has_key.ensures ∙ c.if-has_key.true) c.loop-number.invariant.0 c.loop-number.invariant.1

pub loop-number-preserved : goal.loop-number-preserved
loop-number-preserved c =
    goes_by c.args.key.now c.args.count c.loop-number.number c.loop-number.rest.now c.next_borrowed-entry.result.1.now (entry_in c.next_borrowed-entry.result.0) (found_among c.args.key.now (entries_at 0 c.args.count c.args.bytes.now)) c.loop-number-test.true c.next_borrowed-entry.ensures.gives (sym c.has_key.ensures ∙ c.if-has_key.false) c.loop-number.invariant.0 c.loop-number.invariant.1

pub returns : goal.returns
returns c = is_none c.args.key.now c.args.count c.loop-number.number c.loop-number.rest.now (found_among c.args.key.now (entries_at 0 c.args.count c.args.bytes.now)) c.loop-number-test.false c.loop-number.invariant.1
