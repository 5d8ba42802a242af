use Rattle.std.proofs.Common.{◌≡◌, ◌∙◌, ℕ, Bool, true, false, sym, ap, subst, refl}
use Rattle.kv_nand.specs.Flash.{Image}
use Rattle.kssd_model.proofs.ReadingOn.{reads_image, reads_blocks}
use Rattle.kssd_levels.specs.Streams.{stream_rest, StandsStream}
use Rattle.kssd_compact.specs.declared.source.Source.{Source}
use Rattle.kssd_compact.specs.Source.{source_rest, source_houses, StandsSource}
use Rattle.kssd_compact.specs.Feeding.{Feeds}
use Rattle.kssd_compact.proofs.Beginning.{fills_nothing, fills_last, fills_page}
use Rattle.kssd_compact.proofs.job.Job.fill.Goals as goal

pub returns-then-self-clause-fills : goal.returns-then-self-clause-fills
returns-then-self-clause-fills g c =
    let flash = g.N.Nand.flash c.args.nand.now in
    fills_nothing flash.blocks flash.image c.args.self.now c.if-self.true (sym c.requires.open) c.requires.stands

pub returns-clause-fills : goal.returns-clause-fills
returns-clause-fills g c =
    let flash = g.N.Nand.flash c.args.nand.now in
    let self = c.args.self.now in
    let image = reads_image _ _ c.in_ok-stream.ensures.reads in
    let before = stream_rest c.in_ok-stream.stream flash.image in
    let after = stream_rest c.in_ok-stream-2.stream flash.image in
    let end : c.in_ok-stream-2.end ≡ true = c.if-not-end.false in
    let feeds = subst (λ (im : Image). Feeds self.kind (stream_rest c.in_ok-stream.stream im) self.writer (stream_rest c.in_ok-stream-2.stream im) c.in_ok-stream-2.end c.feed_page.new.writer) image c.in_ok-stream-2.ensures.feeds in
    fills_last flash.blocks flash.image self c.feed_page.new.writer _ before after c.if-self.false
    (c.in_ok-stream.ensures.rest ∙ ap (λ (s : Source). source_rest s flash.image) c.replace-source.ensures.value)
    (subst (λ (b : Bool). Feeds self.kind before self.writer after b c.feed_page.new.writer) end feeds)
    (record {
      kind_is = refl;
      total_is = refl;
      ended_is = refl;
      closed = c.close.ensures.closed;
      place = c.close.ensures.place;
      writes = c.close.ensures.same;
      houses = ap source_houses c.put.ensures ∙ c.in_ok-stream-2.ensures.houses ∙ c.in_ok-stream.ensures.houses ∙ ap source_houses c.replace-source.ensures.value;
    })

pub returns-then-not-end-clause-fills : goal.returns-then-not-end-clause-fills
returns-then-not-end-clause-fills g c =
    let flash = g.N.Nand.flash c.args.nand.now in
    let self = c.args.self.now in
    let image = reads_image _ _ c.in_ok-stream.ensures.reads in
    let blocks = reads_blocks _ _ c.in_ok-stream.ensures.reads in
    let before = stream_rest c.in_ok-stream.stream flash.image in
    let after = stream_rest c.in_ok-stream-2.stream flash.image in
    let end : c.in_ok-stream-2.end ≡ false = c.if-not-end.true in
    let feeds = subst (λ (im : Image). Feeds self.kind (stream_rest c.in_ok-stream.stream im) self.writer (stream_rest c.in_ok-stream-2.stream im) c.in_ok-stream-2.end c.feed_page.new.writer) image c.in_ok-stream-2.ensures.feeds in
    let stands =
    subst (λ (im : Image). StandsStream c.in_ok-stream-2.stream flash.blocks im) image
    (subst (λ (n : ℕ). StandsStream c.in_ok-stream-2.stream n (g.N.Nand.flash c.open.new.nand).image) blocks c.in_ok-stream-2.ensures.stands) in
    fills_page flash.blocks flash.image self _ before after c.if-self.false
    (c.in_ok-stream.ensures.rest ∙ ap (λ (s : Source). source_rest s flash.image) c.replace-source.ensures.value)
    (subst (λ (b : Bool). Feeds self.kind before self.writer after b c.feed_page.new.writer) end feeds)
    (record {
      kind_is = refl;
      total_is = refl;
      ended_is = c.if-self.false;
      left = ap (λ (s : Source). source_rest s flash.image) c.put.ensures;
      stands = subst (λ (s : Source). StandsSource s flash.blocks flash.image) (sym c.put.ensures) stands;
      houses = ap source_houses c.put.ensures ∙ c.in_ok-stream-2.ensures.houses ∙ c.in_ok-stream.ensures.houses ∙ ap source_houses c.replace-source.ensures.value;
    })
