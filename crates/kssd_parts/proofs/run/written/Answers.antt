use Rattle.std.proofs.Common.{◌≡◌, ◌∙◌, ℕ, ◌+◌, ◌/◌, List, [], ◌∷◌, refl, sym, subst, arith}
use Rattle.kssd_model.specs.RunPages.{AreRunBlocks}
use Rattle.kssd_run.specs.Run.{run_info}
use Rattle.kssd_run.specs.Writing.{run_blocks}
use Rattle.kssd_run.proofs.Opened.{place_within}
use Rattle.kssd_run.proofs.RunBlocks.{first_run_blocks}
use Rattle.kssd_run.proofs.Staying.{writer_counts}
use Rattle.kssd_parts.proofs.RunBlocks.{two_run_blocks}
use Rattle.kssd_parts.proofs.run.written.Goals as goal

both : AreRunBlocks 256 (25 ∷ 20 ∷ [])
both = two_run_blocks 25 20 (omega arith) (omega arith) (omega arith) (omega arith) refl

moved : (xs ys : List ℕ) → AreRunBlocks 256 xs → ys ≡ xs → AreRunBlocks 256 ys
moved xs ys h e = subst (λ (bs : List ℕ). AreRunBlocks 256 bs) (sym e) h

pub feed_all-requires-clause-blocks : goal.feed_all-requires-clause-blocks
feed_all-requires-clause-blocks g c = moved _ _ both (c.in-Ok.ensures.blocks_are ∙ c.in_ok-blocks.ensures)

pub program-requires-clause-blocks : goal.program-requires-clause-blocks
program-requires-clause-blocks g c = moved _ _ both (c.in_ok-feed_all.ensures.blocks refl ∙ c.in-Ok.ensures.blocks_are ∙ c.in_ok-blocks.ensures)

pub program-requires-2-clause-blocks : goal.program-requires-2-clause-blocks
program-requires-2-clause-blocks g c = moved _ _ both (c.close.ensures.place.blocks ∙ c.in_ok-program.ensures.blocks refl ∙ c.in_ok-feed_all.ensures.blocks refl ∙ c.in-Ok.ensures.blocks_are ∙ c.in_ok-blocks.ensures)

pub returns-clause-stands : goal.returns-clause-stands
returns-clause-stands g c =
    let flash = g.N.Nand.flash in
    let entries = c.entries-entries.result.now in
    let writer = c.program-2.new.writer in
    let device : (flash c.program-2.new.nand).blocks ≡ 256 = c.in_ok-program-2.ensures.device refl in
    let blocks = moved _ (run_blocks writer) both (c.in_ok-program-2.ensures.blocks refl ∙ c.close.ensures.place.blocks ∙ c.in_ok-program.ensures.blocks refl ∙ c.in_ok-feed_all.ensures.blocks refl ∙ c.in-Ok.ensures.blocks_are ∙ c.in_ok-blocks.ensures) in
    c.into_run.ensures.stands (flash c.program-2.new.nand).blocks (flash c.program-2.new.nand).image entries
    (c.in_ok-program-2.ensures.writes refl entries (c.close.ensures.same (flash c.program.new.nand).image entries (c.in_ok-program.ensures.writes refl entries (c.in_ok-feed_all.ensures.writes refl))))
    (λ i lt. omega (arith, device, place_within 256 i (run_blocks writer) (omega arith) (omega arith) blocks (omega (arith, (writer_counts writer).housed))))

pub returns-clause-blocks : goal.returns-clause-blocks
returns-clause-blocks g c =
    let writer = c.program-2.new.writer in
    let blocks = moved _ (run_blocks writer) both (c.in_ok-program-2.ensures.blocks refl ∙ c.close.ensures.place.blocks ∙ c.in_ok-program.ensures.blocks refl ∙ c.in_ok-feed_all.ensures.blocks refl ∙ c.in-Ok.ensures.blocks_are ∙ c.in_ok-blocks.ensures) in
    moved _ _ (first_run_blocks 256 (((run_info c.into_run.result).pages + 31) / 32) (run_blocks writer) blocks) c.into_run.ensures.blocks
