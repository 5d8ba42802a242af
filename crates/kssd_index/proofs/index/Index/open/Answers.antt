use Rattle.kssd_index.proofs.Opening.{opened}
use Rattle.kssd_index.proofs.index.Index.open.Goals as goal

pub returns-clause-stands : goal.returns-clause-stands
returns-clause-stands c blocks image h =
    (opened c.args.parts c.in_ok-table.table c.at-ring.result c.greatest_number-age.result c.requires.fit c.requires.clean c.in_ok-table.ensures c.at-ring.ensures c.greatest_number-age.ensures blocks image h).0

pub returns-clause-age : goal.returns-clause-age
returns-clause-age c blocks image h =
    (opened c.args.parts c.in_ok-table.table c.at-ring.result c.greatest_number-age.result c.requires.fit c.requires.clean c.in_ok-table.ensures c.at-ring.ensures c.greatest_number-age.ensures blocks image h).1
