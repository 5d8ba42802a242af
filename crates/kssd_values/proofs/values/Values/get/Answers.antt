use Rattle.std.proofs.Common.{arith}
use Rattle.kssd_image.proofs.ValuePages.{holds_from}
use Rattle.kssd_values.specs.Pages.{key_in}
use Rattle.kssd_values.proofs.values.Values.get.Goals as goal

pub value_in-requires : goal.value_in-requires
value_in-requires g c =
    let state = (g.N.Nand.flash c.args.nand.now).image c.args.page in
    let holds = holds_from (key_in state) c.args.length state c.requires.stands in
    omega (arith, holds.0.fits, holds.1)
