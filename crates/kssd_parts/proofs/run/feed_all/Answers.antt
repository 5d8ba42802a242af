use Rattle.std.proofs.Common.{◌≡◌, ◌∙◌, ◌+◌, List, [], ◌∷◌, ◌++◌, take, refl, sym, ap, subst, arith}
use Rattle.std.proofs.lemmas.List.{take_more}
use Rattle.kssd_entry.specs.declared.entry.Entry.{Entry}
use Rattle.kssd_model.specs.Rising.{is_rising}
use Rattle.kssd_model.proofs.RisingEntries.{is_rising-take}
use Rattle.kssd_run.specs.Writing.{Writes}
use Rattle.kssd_parts.proofs.run.feed_all.Goals as goal

pub loop-entry-preserved : goal.loop-entry-preserved
loop-entry-preserved g c =
    let flash = g.N.Nand.flash in
    let i = c.loop-entry.entry-index in
    let entries = c.args.entries.now in
    let entry = c.entry-item.result in
    let next : take (i + 1) entries ≡ take i entries ++ entry ∷ [] = take_more entries i entry (omega arith) ∙ ap (λ (e : Entry). take i entries ++ e ∷ []) (sym c.entry-item.is) in
    record {
      device = c.in_ok-feed.ensures.device refl;
      blocks = c.in_ok-feed.ensures.blocks refl ∙ c.loop-entry.invariant.blocks;
      writes = subst (λ (fed : List Entry). Writes c.feed.new.writer (flash c.feed.new.nand).image fed) (sym next) (c.in_ok-feed.ensures.writes refl (take i entries) c.loop-entry.invariant.writes (ap is_rising (sym next) ∙ is_rising-take (i + 1) entries c.requires.rising));
      closed = c.in_ok-feed.ensures.closed refl;
    }
