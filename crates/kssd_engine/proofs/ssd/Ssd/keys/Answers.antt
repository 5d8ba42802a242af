use Rattle.kssd_engine.proofs.AfterCalls.{counted_keys}
use Rattle.kssd_engine.proofs.ssd.Ssd.keys.Goals as goal

pub returns : goal.returns
returns g c = counted_keys _ c.args.self.now.mounted c.in-Some.mounted c.args.self.now.age c.in-Some.is c.args.self.now.kept
