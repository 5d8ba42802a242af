use Rattle.std.proofs.Common.{refl}
use Rattle.kssd_run.proofs.Taking.{writes_nothing}
use Rattle.kssd_run.proofs.writer.RunWriter.start.Goals as goal

pub returns : goal.returns
returns c = record {
  level_is = refl;
  number_is = refl;
  blocks_are = refl;
  waits = refl;
  open_ = refl;
  pages = refl;
  begun = refl;
  entries = refl;
  writes = λ image. writes_nothing _ image refl refl refl refl c.in_ok-new-2.ensures;
}
