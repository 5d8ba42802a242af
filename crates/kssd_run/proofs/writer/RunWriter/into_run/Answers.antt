use Rattle.std.proofs.Common.{◌+◌, ◌/◌, refl}
use Rattle.kssd_run.proofs.Written.{is_written}
use Rattle.kssd_run.proofs.writer.RunWriter.into_run.Goals as goal

pub returns : goal.returns
returns c = is_written c.args.self _ ((c.args.self.info.pages + 31) / 32) c.requires.waits c.requires.filling refl (λ i. record (c.args.self.info) { blocks = c.truncate.ensures i }) refl
