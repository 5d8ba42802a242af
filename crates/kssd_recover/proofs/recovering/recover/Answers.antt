use Rattle.std.proofs.Common.{◌∙◌, ◌/◌, ℕ, sym, subst, arith}
use Rattle.std.specs.Prelude.{IsTrue, ◌↔◌}
use Rattle.kssd_model.proofs.ReadingOn.{reads_then_reads}
use Rattle.kssd_image.specs.Whole.{Sound}
use Rattle.kssd_values.specs.Places.{IsValueBlock}
use Rattle.kssd_recover.specs.Limits.{AreVisible}
use Rattle.kssd_recover.specs.Log.{IsErasedBlock}
use Rattle.kssd_recover.specs.Parts.{HasVisible, AreParts}
use Rattle.kssd_recover.proofs.Judging.{before}
use Rattle.kssd_recover.proofs.PartsAre.{places_within, places_few, parts_are}
use Rattle.kssd_recover.proofs.recovering.recover.Goals as goal

pub open-requires : goal.open-requires
open-requires g c =
    let flash = g.N.Nand.flash in
    let start = flash c.args.nand.now in
    let anchor = c.in_ok-index.index.found.anchor in
    let reads = reads_then_reads _ _ _ c.in_ok-index.ensures.reads c.in_ok-clean.ensures.reads in
    let seen = before (λ blocks image. AreVisible blocks image anchor c.in_ok-visible.visible) start (flash c.is_erased_block.new.nand) reads c.in_ok-visible.ensures.ok in
    let blocks = c.layout_of-layout.ensures ∙ c.blocks-2.ensures in
    λ page some. subst (λ (n : ℕ). IsValueBlock n (page / 32)) (sym blocks) (places_within start.blocks start.image anchor c.in_ok-visible.visible seen page some)

pub parts_of-requires : goal.parts_of-requires
parts_of-requires g c =
    let flash = g.N.Nand.flash in
    let start = flash c.args.nand.now in
    let found = c.in_ok-index.index.found in
    let reads = reads_then_reads _ _ _ c.in_ok-index.ensures.reads c.in_ok-clean.ensures.reads in
    let seen = before (λ blocks image. AreVisible blocks image found.anchor c.in_ok-visible.visible) start (flash c.is_erased_block.new.nand) reads c.in_ok-visible.ensures.ok in
    let sound = before Sound start (flash c.visible_of.new.nand) (reads_then_reads _ _ _ reads c.in_ok-visible.ensures.reads) c.in_ok-judge_limits.ensures.ok in
    let few = places_few start.blocks start.image found c.in_ok-visible.visible c.requires.blocks.1 sound c.in_ok-index.ensures.ok.found seen in
    omega (arith, few)

pub returns-clause-ok : goal.returns-clause-ok
returns-clause-ok g c =
    let flash = g.N.Nand.flash in
    let start = flash c.args.nand.now in
    let index = c.in_ok-index.index in
    let visible = c.in_ok-visible.visible in
    let first = c.in_ok-index.ensures.reads in
    let reads = reads_then_reads _ _ _ first c.in_ok-clean.ensures.reads in
    let seen = before (λ blocks image. AreVisible blocks image index.found.anchor visible) start (flash c.is_erased_block.new.nand) reads c.in_ok-visible.ensures.ok in
    let sound = before Sound start (flash c.visible_of.new.nand) (reads_then_reads _ _ _ reads c.in_ok-visible.ensures.reads) c.in_ok-judge_limits.ensures.ok in
    let erased = before (λ blocks image. IsTrue c.in_ok-clean.clean ↔ IsErasedBlock image index.found.anchor.log_block) start (flash c.read_index.new.nand) first c.in_ok-clean.ensures.ok in
    let blocks = c.layout_of-layout.ensures ∙ c.blocks-2.ensures in
    let values = c.in_ok-values.ensures in
    let has = subst (λ (n : ℕ). HasVisible n visible.places c.in_ok-values.values) blocks (record { device = values.device; marks = values.marks; states = values.states; opened = values.none.0; target = values.none.1 }) in
    subst (AreParts start.blocks start.image) (sym c.parts_of.ensures)
    (parts_are start.blocks start.image c.layout_of-layout.result index c.in_ok-clean.clean visible c.in_ok-values.values c.requires.blocks.1 sound blocks c.in_ok-index.ensures.ok erased seen has)
