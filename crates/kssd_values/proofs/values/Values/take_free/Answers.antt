use Rattle.kssd_values.proofs.Sound.{taken_sound}
use Rattle.kssd_values.proofs.values.Values.take_free.Goals as goal

pub invariant_of-self : goal.invariant_of-self
invariant_of-self g c =
    let v = c.args.self.now in
    record { sound = taken_sound v.layout.blocks v.marks.items v.free.items v.opened v.target v.sound c.lowest_free-block.result c.lowest_free-block.ensures }
