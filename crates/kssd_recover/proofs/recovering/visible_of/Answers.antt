use Rattle.std.proofs.Common.{ℕ, Option, subst}
use Rattle.kssd_image.specs.Stages.{shown_by}
use Rattle.kssd_image.specs.Damages.{lacks_value}
use Rattle.kssd_recover.specs.Walk.{IsLeastOf}
use Rattle.kssd_recover.proofs.Judging.{value_damage}
use Rattle.kssd_recover.proofs.PartsAre.{bad_is, visible_are}
use Rattle.kssd_recover.proofs.recovering.visible_of.Goals as goal

pub returns-in-Some-clause-err : goal.returns-in-Some-clause-err
returns-in-Some-clause-err g c =
    let flash = g.N.Nand.flash c.args.nand.now in
    let index = c.args.index.now in
    let least = bad_is flash.blocks flash.image index c.in_ok-visible.visible.bad c.requires.read c.in_ok-visible.ensures.ok.bad in
    let first = subst (λ (bad : Option ℕ). IsLeastOf (lacks_value flash.blocks flash.image (shown_by flash.image index.found.anchor)) bad) c.in-Some.is least in
    (value_damage flash.blocks flash.image index c.in-Some.page c.requires.read first, c.in_ok-visible.ensures.reads)

pub returns-in-None-clause-ok : goal.returns-in-None-clause-ok
returns-in-None-clause-ok g c =
    let flash = g.N.Nand.flash c.args.nand.now in
    visible_are flash.blocks flash.image c.args.index.now c.in_ok-visible.visible c.requires.read c.in_ok-visible.ensures.ok c.in-None.is
