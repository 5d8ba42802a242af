use Rattle.std.proofs.Common.{rules}
use Rattle.kfs_judge.proofs.Spelled.{keyed}
use Rattle.kfs_core.proofs.clearing.orphan_of.Goals as goal

pub returns-clause-named : goal.returns-clause-named
returns-clause-named c = keyed c.args.key.now c.bytes-bytes.result.now (search rules) c.bytes-bytes.ensures.value c.bytes-bytes.ensures.sizes

pub unreachable-requires-in-None : goal.unreachable-requires-in-None
unreachable-requires-in-None c = c.in-None.ensures.none (c.requires.form (keyed c.args.key.now c.bytes-bytes.result.now (search rules) c.bytes-bytes.ensures.value c.bytes-bytes.ensures.sizes))
