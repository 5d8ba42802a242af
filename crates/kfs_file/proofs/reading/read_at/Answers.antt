use Rattle.std.proofs.Common.{◌<◌, ◌%◌, ◌/◌, ◌++◌, ◌∙◌, ap, arith}
use Rattle.kfs_tx.specs.Tx.{Tx, seen}
use Rattle.kfs_file.specs.Contents.{piece_at, piece_in}
use Rattle.kfs_file.proofs.ReadingPieces.{reads_on}
use Rattle.kfs_file.proofs.Spending.{aged_on}
use Rattle.kfs_file.proofs.reading.read_at.Goals as goal

pub loop-place-preserved : goal.loop-place-preserved
loop-place-preserved g c =
    let before = c.loop-place.invariant in
    let lt : c.loop-place.place < c.min-end.result = c.loop-place-test.true in
    let least = c.min-some.ensures in
    let end = c.min-end.ensures in
    record {
      from = omega (arith, least);
      within = omega (arith, least, lt);
      reads = reads_on (seen c.args.running.now.tx) c.args.node c.args.size c.args.offset c.min-end.result c.loop-place.place c.min-some.result c.loop-place.text c.read_piece.new.text before.reads
          (c.in_ok-read_piece.ensures.ok ∙ ap (λ (r : Tx). c.loop-place.text ++ piece_at (piece_in (seen r) c.args.node (c.loop-place.place / 4096)) (c.loop-place.place % 4096) c.min-some.result) before.same)
          before.from lt (omega (arith, end)) c.requires.size least;
      same = c.in_ok-read_piece.ensures.same ∙ before.same;
      age = aged_on c.args.running.now c.loop-place.running c.read_piece.new.running before.age c.in_ok-read_piece.ensures.age;
    }
