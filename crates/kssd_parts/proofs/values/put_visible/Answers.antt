use Rattle.std.proofs.Common.{◌∙◌, ap, sym}
use Rattle.kv_nand.proofs.Chaining.{works_blocks}
use Rattle.kssd_image.specs.ValuePages.{has_value}
use Rattle.kssd_image.proofs.ValuePages.{holds_again}
use Rattle.kssd_values.specs.declared.mark.Mark.TheVariants.{Visible}
use Rattle.kssd_values.specs.Marks.{is_live}
use Rattle.kssd_values.proofs.Standing.{live_stays, live_marked, held_value, held_key}
use Rattle.kssd_parts.proofs.values.put_visible.Goals as goal

pub returns-in-Ok-clause-stands : goal.returns-in-Ok-clause-stands
returns-in-Ok-clause-stands g c =
    let flash = g.N.Nand.flash in
    let old = c.args.values.now in
    let mid = c.put.new.self in
    let before = (flash c.args.nand.now).image in
    let after = (flash c.put.new.nand).image in
    let put = c.in-Ok.ensures.ok in
    let stays = live_stays old mid before after c.requires.live c.in-Ok.ensures.keeps (λ q l. sym (ap is_live (put.marks q)) ∙ l) in
    record {
      device = c.mark.ensures.places.device ∙ put.device ∙ c.requires.device ∙ sym (works_blocks (flash c.args.nand.now) (flash c.put.new.nand) 2 0 c.in-Ok.ensures.works);
      fills = c.mark.ensures.places.fills after c.in-Ok.ensures.fills;
      live = live_marked mid c.mark.new.self after c.in-Ok.page Visible stays c.mark.ensures.marks (λ _. held_value _ _ (after c.in-Ok.page) c.in-Ok.ensures.holds);
    }

pub returns-in-Ok-clause-held : goal.returns-in-Ok-clause-held
returns-in-Ok-clause-held g c =
    let state = ((g.N.Nand.flash c.put.new.nand).image c.in-Ok.page) in
    let again = (holds_again _ _ state c.in-Ok.ensures.holds).0 in
    (λ i. has_value (held_key _ _ state c.in-Ok.ensures.holds i) (sym c.in_ok-value.ensures i) state) ∙ again
