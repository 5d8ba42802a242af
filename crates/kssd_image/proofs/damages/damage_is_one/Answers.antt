use Rattle.kssd_image.proofs.OneDamage.{damage_one}
use Rattle.kssd_image.proofs.damages.damage_is_one.Goals as goal

pub returns : goal.returns
returns c = damage_one
