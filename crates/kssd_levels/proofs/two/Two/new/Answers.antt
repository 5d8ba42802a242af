use Rattle.std.proofs.Common.{◌∙◌, ap}
use Rattle.kssd_model.specs.Rising.{is_rising}
use Rattle.kssd_model.proofs.RisingEntries.{is_rising-merged}
use Rattle.kssd_levels.proofs.Reading.{next_rest, next_ended}
use Rattle.kssd_levels.proofs.two.Two.new.Goals as goal

pub returns-clause-stands : goal.returns-clause-stands
returns-clause-stands g c = record {
  newer_stands = c.in_ok-next.ensures.newer_stands;
  older_stands = c.in_ok-next.ensures.older_stands;
  rising =
      ap is_rising (next_rest _ _ c.in_ok-next.next c.in_ok-next.ensures.next)
      ∙ is_rising-merged (g.A.Ordered.rest c.args.newer (g.N.Nand.flash c.args.nand.now).image) (g.B.Ordered.rest c.args.older (g.N.Nand.flash c.args.nand.now).image) (g.met.B.Ordered.rising c.args.older _ _ c.requires.older_stands);
  ended = next_ended _ _ c.in_ok-next.next c.in_ok-next.ensures.next;
}
