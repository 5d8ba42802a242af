use Rattle.std.proofs.Common.{◌∙◌}
use Rattle.std.proofs.lemmas.Bool.{false≢true}
use Rattle.kssd_values.specs.declared.mark.Mark.TheVariants.{Dead}
use Rattle.kssd_values.proofs.Standing.{live_marked}
use Rattle.kssd_parts.proofs.values.filled.Goals as goal

pub returns-clause-stands : goal.returns-clause-stands
returns-clause-stands g c =
    let image = (g.N.Nand.flash c.loop-number.nand).image in
    let stands = c.loop-number.invariant.stands in
    record {
      device = c.mark.ensures.places.device ∙ stands.device;
      fills = c.mark.ensures.places.fills image stands.fills;
      live = live_marked c.loop-number.values c.mark.new.self image c.in_ok-first.first Dead stands.live c.mark.ensures.marks (λ l. absurd (false≢true l));
    }
