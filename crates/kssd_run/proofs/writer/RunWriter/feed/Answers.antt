use Rattle.std.proofs.Common.{refl}
use Rattle.kssd_run.proofs.Taking.{writer_takes, writes_takes}
use Rattle.kssd_run.proofs.writer.RunWriter.feed.Goals as goal

pub invariant_of-self : goal.invariant_of-self
invariant_of-self c = record {
  sound = writer_takes c.args.self.now.info _ c.args.self.now.firsts c.args.self.now.waiting c.args.self.now.filling c.take-self.new.waiting c.take-self.new.filling c.args.self.now.begun c.args.entry.now c.take-self.result c.args.self.now.waits c.args.self.now.closed c.args.self.now.sound c.if-self.false c.requires c.take-self.ensures.fits c.take-self.ensures.takes refl;
}

pub returns-clause-taken : goal.returns-clause-taken
returns-clause-taken c = λ is image fed h rising. writes_takes c.args.self.now _ image fed c.args.entry.now h c.if-self.false c.requires c.take-self.ensures.fits c.take-self.ensures.takes rising refl refl refl
