use Rattle.kfs_objects.proofs.Forms.{one_form}
use Rattle.kfs_objects.proofs.laws.one_key.Goals as goal

pub returns : goal.returns
returns c = one_form
