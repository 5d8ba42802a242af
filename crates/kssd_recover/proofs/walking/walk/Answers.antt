use Rattle.std.proofs.Common.{◌∙◌, [], refl, sym, ap}
use Rattle.std.specs.Option.{option_copied}
use Rattle.kssd_model.proofs.ReadingOn.{reads_still}
use Rattle.kssd_recover.proofs.Walked.{walked_all}
use Rattle.kssd_recover.proofs.walking.walk.Goals as goal

pub returns-in-None-clause-ok : goal.returns-in-None-clause-ok
returns-in-None-clause-ok g c =
    let flash = g.N.Nand.flash c.args.nand.now in
    let at = c.peek.ensures flash.blocks flash.image c.entries.invariant.stands in
    walked_all flash.blocks flash.image (g.S.Ordered.rest c.args.source flash.image) (g.S.Ordered.rest c.entries.source flash.image) c.entries.visible (sym at ∙ ap option_copied c.in-None.is) c.entries.invariant.walked

pub entries-init : goal.entries-init
entries-init g c =
    let flash = g.N.Nand.flash c.args.nand.now in
    record { walked = record { done = []; all_are = refl; seen = c.new-visible.ensures flash.blocks flash.image }; stands = c.requires.stands; reads = reads_still flash }
