use Rattle.kssd_recover.proofs.Judging.{judged_sound, limits_none}
use Rattle.kssd_recover.proofs.recovering.judge_limits.Goals as goal

pub returns-in-None-clause-ok : goal.returns-in-None-clause-ok
returns-in-None-clause-ok g c =
    let flash = g.N.Nand.flash c.args.nand.now in
    let index = c.args.index.now in
    judged_sound flash.blocks flash.image index c.args.visible.now c.requires.read c.requires.visible
    (limits_none c.args.layout.now.blocks flash.blocks flash.image index.found.anchor c.in_ok-counts.counts c.first_passed.result c.requires.device c.first_passed.ensures c.in_ok-counts.ensures.ok c.in-None.is)
