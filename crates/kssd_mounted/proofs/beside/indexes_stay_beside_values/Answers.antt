use Rattle.kssd_mounted.proofs.BesideValues.{newest_stays, index_of_stays, has_index_stays, shown_stays, age_stays, index_stands}
use Rattle.kssd_mounted.proofs.beside.indexes_stay_beside_values.Goals as goal

pub returns : goal.returns
returns c = record { newest = newest_stays; index_of = index_of_stays; has = has_index_stays; shown = shown_stays; age_is = age_stays; stands = index_stands }
