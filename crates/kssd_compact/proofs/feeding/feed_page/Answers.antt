use Rattle.std.proofs.Common.{◌≡◌, ◌∙◌, ℕ, List, [], ◌∷◌, refl, sym, ap, subst}
use Rattle.std.specs.Prelude.{drop}
use Rattle.kv_nand.specs.Flash.{Image}
use Rattle.kssd_entry.specs.declared.entry.Entry.{Entry}
use Rattle.kssd_model.proofs.ReadingOn.{reads_still, reads_image, reads_blocks, reads_then_reads}
use Rattle.kssd_compact.proofs.TakenOn.{nothing_fed, one_fed, first_is, none_is, fewer_left, feeds_all, feeds_page}
use Rattle.kssd_compact.proofs.feeding.feed_page.Goals as goal

pub entries-init : goal.entries-init
entries-init g c = record {
  stands = c.requires.stands;
  reads = reads_still _;
  houses = refl;
  fed = nothing_fed c.args.kind (g.S.Ordered.rest c.args.source (g.N.Nand.flash c.args.nand.now).image) c.args.writer.now c.requires.open;
}

pub advance-requires-clause-some : goal.advance-requires-clause-some
advance-requires-clause-some g c none =
    let start = g.N.Nand.flash c.args.nand.now in
    let was = g.N.Nand.flash c.entries.nand in
    let image = reads_image _ _ c.entries.invariant.reads in
    let blocks = reads_blocks _ _ c.entries.invariant.reads in
    let rest = g.S.Ordered.rest c.entries.source start.image in
    let first : rest ≡ c.in-Some.entry.now ∷ drop 1 rest = first_is rest c.in-Some.entry.now (c.in-Some.ensures _ _ c.entries.invariant.stands) in
    let nil : rest ≡ [] = subst (λ (im : Image). g.S.Ordered.rest c.entries.source im ≡ []) image none in
    let e : c.in-Some.entry.now ∷ drop 1 rest ≡ [] = sym first ∙ nil in cc

pub advance-requires-clause-stands : goal.advance-requires-clause-stands
advance-requires-clause-stands g c =
    let start = g.N.Nand.flash c.args.nand.now in
    let was = g.N.Nand.flash c.entries.nand in
    let image = reads_image _ _ c.entries.invariant.reads in
    let blocks = reads_blocks _ _ c.entries.invariant.reads in
    let rest = g.S.Ordered.rest c.entries.source start.image in
    subst (λ (im : Image). g.S.Ordered.stands c.entries.source was.blocks im) (sym image)
    (subst (λ (n : ℕ). g.S.Ordered.stands c.entries.source n start.image) (sym blocks) c.entries.invariant.stands)

pub entries-preserved : goal.entries-preserved
entries-preserved g c =
    let start = g.N.Nand.flash c.args.nand.now in
    let was = g.N.Nand.flash c.entries.nand in
    let image = reads_image _ _ c.entries.invariant.reads in
    let blocks = reads_blocks _ _ c.entries.invariant.reads in
    let rest = g.S.Ordered.rest c.entries.source start.image in
    let first : rest ≡ c.in-Some.entry.now ∷ drop 1 rest = first_is rest c.in-Some.entry.now (c.in-Some.ensures _ _ c.entries.invariant.stands) in
    let next = subst (λ (im : Image). g.S.Ordered.rest c.advance.new.self im ≡ drop 1 (g.S.Ordered.rest c.entries.source im)) image c.in_ok-advance.ensures.ok in
    record {
      stands =
          subst (λ (im : Image). g.S.Ordered.stands c.advance.new.self start.blocks im) image
          (subst (λ (n : ℕ). g.S.Ordered.stands c.advance.new.self n was.image) blocks c.in_ok-advance.ensures.still);
      reads = reads_then_reads _ _ _ c.entries.invariant.reads c.in_ok-advance.ensures.reads;
      houses = c.in_ok-advance.ensures.housed ∙ c.entries.invariant.houses;
      fed = one_fed c.args.kind (g.S.Ordered.rest c.args.source start.image) c.args.writer.now rest c.entries.writer c.take.new.writer c.in-Some.entry.now (g.S.Ordered.rest c.advance.new.self start.image)
          c.entries.invariant.fed (first ∙ ap (λ (xs : List Entry). c.in-Some.entry.now ∷ xs) (sym next)) c.take.ensures;
    }

pub entries-smaller : goal.entries-smaller
entries-smaller g c =
    let start = g.N.Nand.flash c.args.nand.now in
    let was = g.N.Nand.flash c.entries.nand in
    let image = reads_image _ _ c.entries.invariant.reads in
    let blocks = reads_blocks _ _ c.entries.invariant.reads in
    let rest = g.S.Ordered.rest c.entries.source start.image in
    let first : rest ≡ c.in-Some.entry.now ∷ drop 1 rest = first_is rest c.in-Some.entry.now (c.in-Some.ensures _ _ c.entries.invariant.stands) in
    let next = subst (λ (im : Image). g.S.Ordered.rest c.advance.new.self im ≡ drop 1 (g.S.Ordered.rest c.entries.source im)) image c.in_ok-advance.ensures.ok in
    fewer_left rest (g.S.Ordered.rest c.advance.new.self start.image) c.in-Some.entry.now first next

pub returns-clause-feeds : goal.returns-clause-feeds
returns-clause-feeds g c = feeds_page c.args.kind _ c.args.writer.now _ c.entries.writer c.entries.invariant.fed (sym c.waits.ensures ∙ c.entries-test.false)

pub returns-in-None-clause-feeds : goal.returns-in-None-clause-feeds
returns-in-None-clause-feeds g c =
    feeds_all c.args.kind _ c.args.writer.now _ c.entries.writer c.entries.invariant.fed (none_is _ (c.in-None.ensures _ _ c.entries.invariant.stands)) (sym c.waits.ensures ∙ c.entries-test.true)
