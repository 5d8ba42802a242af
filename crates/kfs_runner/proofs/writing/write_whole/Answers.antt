use Rattle.std.proofs.Common.{◌<◌, ◌++◌, ◌∙◌, take, inl, arith}
use Rattle.kfs_runner.proofs.Streams.{Takes-more, split_on}
use Rattle.kfs_runner.proofs.writing.write_whole.Goals as goal

pub loop-rest-preserved : goal.loop-rest-preserved
loop-rest-preserved g c =
    let before = c.loop-rest.invariant in
    let some : 0 < c.in-Ok.n = omega arith in (
      before.0 ++ take c.in-Ok.n c.loop-rest.rest.now,
      split_on _ before.0 _ c.in-Ok.n before.1,
      Takes-more _ _ _ _ _ before.2 c.in-Ok.ensures.taken,
      c.in-Ok.ensures.steady (inl some) ∙ before.3,
    )
