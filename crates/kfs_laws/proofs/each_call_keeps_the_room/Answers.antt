use Rattle.kfs_model.specs.Step.{effect, step}
use Rattle.kfs_laws.proofs.Outcomes.{settled_is}
use Rattle.kfs_laws.proofs.Room.{IsWithin, within_of, room_of, within}
use Rattle.kfs_laws.proofs.each_call_keeps_the_room.Goals as goal

pub returns-clause-calls : goal.returns-clause-calls
returns-clause-calls c = λ k d w call tree room.
    let is = within_of k w.tree room in
    room_of k (step k d w call).world.tree (settled_is (λ v. IsWithin k v.tree) w (effect k d w call) is (within k d w tree is call))
