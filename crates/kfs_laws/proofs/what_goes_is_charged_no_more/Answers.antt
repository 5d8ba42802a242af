use Rattle.std.proofs.Common.{refl}
use Rattle.kfs_laws.proofs.Charging.{charge_swept, chunks_swept}
use Rattle.kfs_laws.proofs.what_goes_is_charged_no_more.Goals as goal

pub returns : goal.returns
returns c w = (charge_swept w, chunks_swept w, λ place. refl, λ old new. refl)
