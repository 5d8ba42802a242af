use Rattle.kfs_laws.proofs.Fitting.{fits_most}
use Rattle.kfs_laws.proofs.fits_is_the_most.Goals as goal

pub returns : goal.returns
returns c = fits_most
