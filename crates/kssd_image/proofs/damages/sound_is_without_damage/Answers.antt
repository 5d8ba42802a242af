use Rattle.kssd_image.proofs.OneDamage.{sound_has_none, sound_from_clear, clear_from_sound}
use Rattle.kssd_image.proofs.Undamaged.{undamaged_is_sound}
use Rattle.kssd_image.proofs.damages.sound_is_without_damage.Goals as goal

pub returns : goal.returns
returns c = record { none = sound_has_none; clear = sound_from_clear; sound = clear_from_sound; otherwise = undamaged_is_sound }
