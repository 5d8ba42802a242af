use Rattle.kssd_model.proofs.GroupsDamage.{one_damage, no_damage}
use Rattle.kssd_model.proofs.groups.damage_is_one_page.Goals as goal

pub returns : goal.returns
returns c = record { one = one_damage; none = no_damage }
