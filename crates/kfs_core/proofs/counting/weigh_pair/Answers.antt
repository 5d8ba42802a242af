use Rattle.std.proofs.Common.{rules}
use Rattle.kfs_judge.proofs.Spelled.{keyed}
use Rattle.kfs_core.proofs.counting.weigh_pair.Goals as goal

pub weigh-requires : goal.weigh-requires
weigh-requires c = c.requires (keyed c.args.pair.now.key c.bytes-bytes.result.now (search rules) c.bytes-bytes.ensures.value c.bytes-bytes.ensures.sizes)

pub returns-clause-named : goal.returns-clause-named
returns-clause-named c = keyed c.args.pair.now.key c.bytes-bytes.result.now (search rules) c.bytes-bytes.ensures.value c.bytes-bytes.ensures.sizes
