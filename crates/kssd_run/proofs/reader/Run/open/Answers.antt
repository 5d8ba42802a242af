use Rattle.std.proofs.Common.{◌≡◌, ℕ, arith, subst}
use Rattle.std.proofs.lemmas.Result.{IfOk-weaker}
use Rattle.kssd_model.specs.RunPages.{AreOnDevice}
use Rattle.kssd_model.proofs.ReadingOn.{reads_still}
use Rattle.kssd_run.specs.Read.{IsReading}
use Rattle.kssd_run.proofs.Opened.{few_blocks, place_within}
use Rattle.kssd_run.proofs.reader.Run.open.Goals as goal

pub loop-index-init : goal.loop-index-init
loop-index-init g c = record {
  read = c.new-reading.ensures c.args.info.now (g.N.Nand.flash c.args.nand.now).image;
  reads = reads_still (g.N.Nand.flash c.args.nand.now);
  few = omega arith;
}

pub add_page-requires-clause-few : goal.add_page-requires-clause-few
add_page-requires-clause-few g c =
    omega (arith, few_blocks (g.N.Nand.flash c.args.nand.now).blocks c.args.info.now.blocks c.requires.device.0 c.requires.device.1 c.requires.blocks, c.requires.count)

pub returns-clause-ok : goal.returns-clause-ok
returns-clause-ok g c =
    let device = (g.N.Nand.flash c.args.nand.now).blocks in
    let image = (g.N.Nand.flash c.args.nand.now).image in
    let all : c.loop-index.index ≡ c.args.info.now.pages = omega arith in
    let read = subst (λ (n : ℕ). IsReading c.args.info.now image n c.loop-index.reading) all c.loop-index.invariant.read in
    let near : AreOnDevice c.args.info.now device = λ i lt. place_within device i c.args.info.now.blocks c.requires.device.0 c.requires.device.1 c.requires.blocks (omega (arith, c.requires.count)) in
    IfOk-weaker c.into_run.result _ _ (λ run f. f device image read near) c.into_run.ensures.ok
