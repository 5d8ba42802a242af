use Rattle.std.proofs.Common.{◌<◌, refl, arith}
use Rattle.kssd_run.proofs.Taking.{writes_closes}
use Rattle.kssd_run.proofs.writer.RunWriter.close.Goals as goal

pub returns-clause-same : goal.returns-clause-same
returns-clause-same c =
    let some : 0 < c.args.self.now.info.entries = omega (arith, c.if-self-eq0.false) in
    λ image fed h. writes_closes c.args.self.now _ image fed h c.requires (c.args.self.now.sound.some c.if-self.false some) refl refl refl c.swap.ensures.x_after c.clear.ensures refl
