use Rattle.std.proofs.Common.{◌∙◌, ap}
use Rattle.kv_nand.proofs.Chaining.{works_blocks}
use Rattle.kssd_image.specs.Worked.{first_anchor}
use Rattle.kssd_recover.proofs.Fresh.{fresh}
use Rattle.kssd_recover.proofs.formatting.format.Goals as goal

pub returns-clause-ok : goal.returns-clause-ok
returns-clause-ok g c =
    let flash = g.N.Nand.flash in
    let blocks = c.blocks-2.ensures ∙ works_blocks (flash c.args.nand.now) (flash c.erase_front.new.nand) 3 0 c.in_ok-erase_front.ensures.works in
    fresh (flash c.args.nand.now).blocks c.in_ok-write.field-0 (flash c.args.nand.now).image (flash c.erase_front.new.nand).image (flash c.write.new.nand).image c.new_anchor-anchor.result c.requires.0 c.requires.1
    c.in_ok-erase_front.ensures.ok (c.new_anchor-anchor.ensures ∙ ap first_anchor blocks) c.in_ok-write.ensures.ok
