use Rattle.std.proofs.Common.{arith}
use Rattle.std.proofs.lemmas.List.Elements.{recursion_from_All}
use Rattle.kfs_tx.specs.Tx.{seen}
use Rattle.kfs_core.specs.Flat.{at_root}
use Rattle.kfs_core.specs.Spot.{where_of}
use Rattle.kfs_core.proofs.LastNames.{at_end_named}
use Rattle.kfs_core.proofs.walking.walk.Goals as goal

pub returns-clause-named : goal.returns-clause-named
returns-clause-named g c plain some = (at_end_named (seen c.args.running.now.tx) at_root c.args.pieces.now (where_of c.loop-piece.spot) c.loop-piece.piece-index (recursion_from_All _ _ c.requires.named) plain some (omega (arith, c.loop-piece-test.false)) c.loop-piece.invariant.rest).0

pub returns-clause-below : goal.returns-clause-below
returns-clause-below g c plain some = (at_end_named (seen c.args.running.now.tx) at_root c.args.pieces.now (where_of c.loop-piece.spot) c.loop-piece.piece-index (recursion_from_All _ _ c.requires.named) plain some (omega (arith, c.loop-piece-test.false)) c.loop-piece.invariant.rest).1
