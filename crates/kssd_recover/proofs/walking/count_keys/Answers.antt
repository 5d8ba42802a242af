use Rattle.std.proofs.Common.{◌∙◌, sym, ap}
use Rattle.std.specs.Option.{option_copied}
use Rattle.kssd_recover.proofs.Walked.{counted_all}
use Rattle.kssd_recover.proofs.walking.count_keys.Goals as goal

pub returns-in-None-clause-ok : goal.returns-in-None-clause-ok
returns-in-None-clause-ok g c =
    let flash = g.N.Nand.flash c.args.nand.now in
    let at = c.peek.ensures flash.blocks flash.image c.entries.invariant.stands in
    counted_all (g.S.Ordered.rest c.args.source flash.image) (g.S.Ordered.rest c.entries.source flash.image) c.entries.count (sym at ∙ ap option_copied c.in-None.is) c.entries.invariant.counted
