use Rattle.kssd_parts.proofs.run.program.Goals as goal

pub step-requires-2-clause-writes : goal.step-requires-2-clause-writes
step-requires-2-clause-writes g c = ∣ (c.requires.writes.0, c.in-Ok-false.ensures.ok.writes c.requires.writes.0 c.requires.writes.1) ∣₁
