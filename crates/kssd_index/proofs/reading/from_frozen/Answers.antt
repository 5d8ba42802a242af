use Rattle.kssd_index.proofs.Looking.{all_from}
use Rattle.kssd_index.proofs.reading.from_frozen.Goals as goal

pub returns-clause-value : goal.returns-clause-value
returns-clause-value c = all_from c.args.table.now c.in_ok-entries.entries c.args.key.now c.len-most.result c.len-most.ensures.value c.in_ok-entries.ensures.value
