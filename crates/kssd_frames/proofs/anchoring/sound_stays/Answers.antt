use Rattle.kssd_frames.proofs.SparePages.{sound_stays, sound_given, stays_twice}
use Rattle.kssd_frames.proofs.anchoring.sound_stays.Goals as goal

pub returns : goal.returns
returns c = record { same = sound_stays; given = sound_given; twice = stays_twice }
