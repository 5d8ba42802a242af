use Rattle.std.proofs.Common.{refl}
use Rattle.kssd_values.proofs.Clearing.{sound_clear, clears}
use Rattle.kssd_values.proofs.values.Values.clear.Goals as goal

pub invariant_of-self : goal.invariant_of-self
invariant_of-self g c = record { sound = sound_clear c.args.self.now c.args.block c.requires.closed c.opened_after-self.result c.opened_after-self.ensures c.requires.dead }

pub returns-clause-ok : goal.returns-clause-ok
returns-clause-ok g c = clears c.args.self.now c.args.block c.requires.closed _ refl refl refl c.opened_after-self.ensures refl
