use Rattle.std.proofs.lemmas.Result.{err_from_is_err_and}
use Rattle.kssd_root.specs.Costs.{most_place_cost, usual_place_cost}
use Rattle.std.proofs.Common.{◌^◌}
use Rattle.kssd_machine.proofs.Standing.{works_same}
use Rattle.kssd_mount.proofs.Settling.{usual_then, leaves, objects_stay, idle, machine_is}
use Rattle.kssd_mount.proofs.Failing.{settling_fails}
use Rattle.kssd_root.proofs.Logs.{has_bytes}
use Rattle.kssd_mount.proofs.Numbers.{low_age}
use Rattle.kssd_mount.proofs.Sparing.{spared_read, spared_sound}
use Rattle.kssd_image.specs.Damages.{IsDamage}
use Rattle.kssd_mount.proofs.mounting.mount.Goals as goal

pub returns-in_err-mounted-clause-err : goal.returns-in_err-mounted-clause-err
returns-in_err-mounted-clause-err g c =
    let flash = g.N.Nand.flash in
    let old = flash c.args.nand.now in
    let mid = flash c.recover.new.nand in
    let new = flash c.stand_up.new.nand in
    let h = c.in_err-mounted.ensures in
    let objects = objects_stay old mid new c.in_ok-parts.parts.clean c.in_ok-parts.ensures.ok.sound c.in_ok-parts.ensures.reads h.settled in
    let p = err_from_is_err_and c.from_residual-in_err-mounted.result c.from_residual-in_err-mounted.ensures.1 in
    rw (p.1, p.2) (settling_fails old mid new _ (most_place_cost mid.blocks) (2 ^ 64) (g.met.N.Nand.sound c.stand_up.new.nand) c.in_ok-parts.ensures.powered c.in_ok-parts.ensures.reads h.stops objects)

pub returns-in_err-mounted-clause-leaves : goal.returns-in_err-mounted-clause-leaves
returns-in_err-mounted-clause-leaves g c sound =
    let flash = g.N.Nand.flash in
    leaves (flash c.args.nand.now) (flash c.recover.new.nand) (flash c.stand_up.new.nand) c.in_ok-parts.parts.clean c.in_ok-parts.ensures.ok.sound c.in_ok-parts.ensures.reads c.in_err-mounted.ensures.settled

pub returns-in_err-mounted-clause-objects : goal.returns-in_err-mounted-clause-objects
returns-in_err-mounted-clause-objects g c =
    let flash = g.N.Nand.flash in
    objects_stay (flash c.args.nand.now) (flash c.recover.new.nand) (flash c.stand_up.new.nand) c.in_ok-parts.parts.clean c.in_ok-parts.ensures.ok.sound c.in_ok-parts.ensures.reads c.in_err-mounted.ensures.settled

pub returns-in_err-mounted-clause-clean : goal.returns-in_err-mounted-clause-clean
returns-in_err-mounted-clause-clean g c =
    let flash = g.N.Nand.flash in
    idle (flash c.args.nand.now) (flash c.recover.new.nand) (flash c.stand_up.new.nand) c.in_ok-parts.parts c.in_ok-parts.ensures.ok c.in_ok-parts.ensures.reads c.in_err-mounted.ensures.settled

pub returns-clause-machine : goal.returns-clause-machine
returns-clause-machine g c =
    let flash = g.N.Nand.flash in
    let h = c.in_ok-mounted.ensures in
    let mid = flash c.recover.new.nand in
    machine_is (flash c.args.nand.now) mid (flash c.stand_up.new.nand) c.in_ok-parts.parts.clean c.in_ok-mounted.mounted.changes c.in_ok-parts.ensures.ok.sound c.in_ok-parts.ensures.reads h.settled (works_same mid (flash c.stand_up.new.nand) (most_place_cost mid.blocks) (2 ^ 64) h.works) h.none

pub returns-clause-leaves : goal.returns-clause-leaves
returns-clause-leaves g c sound =
    let flash = g.N.Nand.flash in
    leaves (flash c.args.nand.now) (flash c.recover.new.nand) (flash c.stand_up.new.nand) c.in_ok-parts.parts.clean c.in_ok-parts.ensures.ok.sound c.in_ok-parts.ensures.reads c.in_ok-mounted.ensures.settled

pub returns-clause-objects : goal.returns-clause-objects
returns-clause-objects g c =
    let flash = g.N.Nand.flash in
    objects_stay (flash c.args.nand.now) (flash c.recover.new.nand) (flash c.stand_up.new.nand) c.in_ok-parts.parts.clean c.in_ok-parts.ensures.ok.sound c.in_ok-parts.ensures.reads c.in_ok-mounted.ensures.settled

pub returns-clause-clean : goal.returns-clause-clean
returns-clause-clean g c =
    let flash = g.N.Nand.flash in
    idle (flash c.args.nand.now) (flash c.recover.new.nand) (flash c.stand_up.new.nand) c.in_ok-parts.parts c.in_ok-parts.ensures.ok c.in_ok-parts.ensures.reads c.in_ok-mounted.ensures.settled

pub returns-in_err-parts-clause-spared : goal.returns-in_err-parts-clause-spared
returns-in_err-parts-clause-spared g c =
    let flash = g.N.Nand.flash in
    let old = flash c.args.nand.now in
    spared_read (IsDamage old.blocks old.image) old (flash c.recover.new.nand) _ c.in_err-parts.ensures.err

pub returns-in_err-mounted-clause-spared : goal.returns-in_err-mounted-clause-spared
returns-in_err-mounted-clause-spared g c =
    let flash = g.N.Nand.flash in
    spared_sound (flash c.args.nand.now) (flash c.recover.new.nand) (flash c.stand_up.new.nand) c.in_ok-parts.parts.clean c.in_ok-parts.ensures.ok.sound c.in_ok-parts.ensures.reads c.in_err-mounted.ensures.settled

pub returns-clause-spared : goal.returns-clause-spared
returns-clause-spared g c =
    let flash = g.N.Nand.flash in
    spared_sound (flash c.args.nand.now) (flash c.recover.new.nand) (flash c.stand_up.new.nand) c.in_ok-parts.parts.clean c.in_ok-parts.ensures.ok.sound c.in_ok-parts.ensures.reads c.in_ok-mounted.ensures.settled

pub returns-clause-low : goal.returns-clause-low
returns-clause-low g c =
    let old = g.N.Nand.flash c.args.nand.now in
    let parts = c.in_ok-parts.parts in
    low_age old.blocks old.image parts.anchor_page parts.anchor (has_bytes old (g.met.N.Nand.sound c.args.nand.now)) c.in_ok-parts.ensures.ok.sound c.in_ok-parts.ensures.ok.found

pub returns-in_err-mounted-clause-usual : goal.returns-in_err-mounted-clause-usual
returns-in_err-mounted-clause-usual g c low =
    let flash = g.N.Nand.flash in
    usual_then (flash c.args.nand.now) (flash c.recover.new.nand) (flash c.stand_up.new.nand) usual_place_cost c.in_ok-parts.ensures.reads c.stand_up.ensures.usual low

pub returns-clause-usual : goal.returns-clause-usual
returns-clause-usual g c low =
    let flash = g.N.Nand.flash in
    usual_then (flash c.args.nand.now) (flash c.recover.new.nand) (flash c.stand_up.new.nand) usual_place_cost c.in_ok-parts.ensures.reads c.stand_up.ensures.usual low
