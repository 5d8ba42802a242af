use Rattle.std.proofs.Common.{refl, ap}
use Rattle.kv_nand.specs.Flash.{Flash}
use Rattle.kssd_values.proofs.Putting.{keeps_put, sound_put, puts, fills_put}
use Rattle.kssd_values.proofs.values.Values.put.Goals as goal

pub returns-in_err-page-clause-keeps : goal.returns-in_err-page-clause-keeps
returns-in_err-page-clause-keeps g c =
    let flash = g.N.Nand.flash in
    keeps_put c.args.self.now c.open_with_room.new.self c.in_ok-opened.opened c.in_ok-opened.ensures.ok (flash c.args.nand.now).image (flash c.open_with_room.new.nand).image (flash c.program.new.nand).image c.in_ok-bytes.bytes c.in_ok-opened.ensures.keeps c.in_ok-opened.ensures.fills c.program.ensures.left

pub invariant_of-self : goal.invariant_of-self
invariant_of-self g c = record { sound = sound_put c.args.self.now c.open_with_room.new.self c.in_ok-opened.opened c.in_ok-opened.ensures.ok c.program.new.self c.in_ok-page.ensures.next }

pub returns-clause-ok : goal.returns-clause-ok
returns-clause-ok g c = puts c.args.self.now c.open_with_room.new.self c.in_ok-opened.opened c.in_ok-opened.ensures.ok _ c.program.new.self c.in_ok-page.page refl refl refl refl refl c.in_ok-page.ensures.next c.in_ok-page.ensures.page

pub returns-clause-fills : goal.returns-clause-fills
returns-clause-fills g c =
    let flash = g.N.Nand.flash in
    let before = (flash c.open_with_room.new.nand).image in
    let is = ap (λ (f : Flash). f.image) c.in_ok-page.ensures.ok in
    let p = fills_put c.args.self.now c.open_with_room.new.self c.in_ok-opened.opened c.in_ok-opened.ensures.ok before (flash c.program.new.nand).image c.in_ok-bytes.bytes c.program.new.self c.in_ok-opened.ensures.fills c.in_ok-page.ensures.next is in
    record { opened = p.0; target = p.1 }

pub returns-clause-keeps : goal.returns-clause-keeps
returns-clause-keeps g c =
    let flash = g.N.Nand.flash in
    keeps_put c.args.self.now c.open_with_room.new.self c.in_ok-opened.opened c.in_ok-opened.ensures.ok (flash c.args.nand.now).image (flash c.open_with_room.new.nand).image (flash c.program.new.nand).image c.in_ok-bytes.bytes c.in_ok-opened.ensures.keeps c.in_ok-opened.ensures.fills c.program.ensures.left
