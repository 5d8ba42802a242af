use Rattle.std.proofs.lemmas.Result.{err_from_is_err_and}
use Rattle.std.proofs.Common.{arith, subst, sym}
use Rattle.kv_nand.proofs.Chaining.{works_blocks, stops_blocks}
use Rattle.kssd_tx.specs.Lists.{Transactions}
use Rattle.kssd_mounted.specs.Standing.{Stands}
use Rattle.kssd_commit.proofs.Leaving.{left_still}
use Rattle.kssd_commit.proofs.Roomy.{has_room_after, room_after, room_for_them}
use Rattle.kssd_commit.proofs.Committed.{leaves_then, stopped, done}
use Rattle.kssd_commit.proofs.Restanding.{may_die, may_show, stands_then}
use Rattle.kssd_commit.proofs.committing.commit.Goals as goal

pub returns-in_err-entries-clause-leaves : goal.returns-in_err-entries-clause-leaves
returns-in_err-entries-clause-leaves g c = left_still c.args.mounted.now (g.N.Nand.flash c.args.nand.now) _ c.requires.stands (omega arith)

pub add_group-requires-clause-room : goal.add_group-requires-clause-room
add_group-requires-clause-room g c =
    room_for_them c.args.mounted.now (g.N.Nand.flash c.args.nand.now) c.args.tx.0 c.args.judged c.requires.stands c.requires.judged c.requires.room (g.met.N.Nand.sound c.args.nand.now) c.in_ok-entries.entries c.in_ok-entries.ensures.value

pub returns-in_err-add_group-clause-leaves : goal.returns-in_err-add_group-clause-leaves
returns-in_err-add_group-clause-leaves g c =
    let old = g.N.Nand.flash c.args.nand.now in
    let new = g.N.Nand.flash c.add_group.new.nand in
    let room = room_after c.args.mounted.now old c.args.tx.0 c.args.judged c.requires.stands c.requires.judged c.requires.room (g.met.N.Nand.sound c.args.nand.now) in
    leaves_then c.args.mounted.now old c.args.tx.0 c.requires.stands room new c.in_ok-entries.entries _ c.in_ok-entries.ensures.value (stops_blocks old new _ _ _ c.in_err-add_group.ensures.stops) c.in_err-add_group.ensures.kept c.in_err-add_group.ensures.aged

pub mark_pages-requires-clause-replaced : goal.mark_pages-requires-clause-replaced
mark_pages-requires-clause-replaced g c =
    let old = g.N.Nand.flash c.args.nand.now in
    let room = room_after c.args.mounted.now old c.args.tx.0 c.args.judged c.requires.stands c.requires.judged c.requires.room (g.met.N.Nand.sound c.args.nand.now) in
    may_die c.args.mounted.now old c.args.tx.0 c.args.judged c.requires.stands c.requires.judged room

pub mark_pages-requires-clause-entries : goal.mark_pages-requires-clause-entries
mark_pages-requires-clause-entries g c =
    let old = g.N.Nand.flash c.args.nand.now in
    let room = room_after c.args.mounted.now old c.args.tx.0 c.args.judged c.requires.stands c.requires.judged c.requires.room (g.met.N.Nand.sound c.args.nand.now) in
    may_show c.args.mounted.now old c.args.tx.0 c.args.judged c.requires.stands c.requires.judged room c.in_ok-entries.entries c.in_ok-entries.ensures.value

pub returns-clause-ok : goal.returns-clause-ok
returns-clause-ok g c =
    let old = g.N.Nand.flash c.args.nand.now in
    let new = g.N.Nand.flash c.add_group.new.nand in
    let room = room_after c.args.mounted.now old c.args.tx.0 c.args.judged c.requires.stands c.requires.judged c.requires.room (g.met.N.Nand.sound c.args.nand.now) in
    done c.args.mounted.now old c.args.tx.0 c.requires.stands room new c.in_ok-entries.entries c.take_changes.new.changes _ _ c.requires.opened (has_room_after c.args.mounted.now old c.args.tx.0 c.args.judged c.requires.stands c.requires.judged c.requires.room)
    c.in_ok-entries.ensures.value c.in_ok-entries.ensures.ok c.in_ok-add_group.ensures.works c.in_ok-add_group.ensures.kept.values c.in_ok-add_group.ensures.shown

pub returns-clause-stands : goal.returns-clause-stands
returns-clause-stands g c =
    let old = g.N.Nand.flash c.args.nand.now in
    let new = g.N.Nand.flash c.add_group.new.nand in
    let room = room_after c.args.mounted.now old c.args.tx.0 c.args.judged c.requires.stands c.requires.judged c.requires.room (g.met.N.Nand.sound c.args.nand.now) in
    subst (λ (l : Transactions). Stands (record { index = c.add_group.new.index; values = c.mark_pages.new.values; changes = l; collection = c.args.mounted.now.collection; keys = c.args.judged.keys; pages = c.args.judged.pages }) new) (sym c.in_ok-entries.ensures.ok)
    (stands_then c.args.mounted.now old c.args.tx.0 c.args.judged c.requires.stands c.requires.judged room new c.in_ok-entries.entries c.add_group.new.index c.mark_pages.new.values _ _ (g.met.N.Nand.sound c.args.nand.now)
    c.in_ok-entries.ensures.value c.in_ok-add_group.ensures.works c.in_ok-add_group.ensures.stands c.in_ok-add_group.ensures.kept c.in_ok-add_group.ensures.shown c.mark_pages.ensures.marks c.mark_pages.ensures.places)

pub returns-clause-leaves : goal.returns-clause-leaves
returns-clause-leaves g c =
    let old = g.N.Nand.flash c.args.nand.now in
    let new = g.N.Nand.flash c.add_group.new.nand in
    let room = room_after c.args.mounted.now old c.args.tx.0 c.args.judged c.requires.stands c.requires.judged c.requires.room (g.met.N.Nand.sound c.args.nand.now) in
    leaves_then c.args.mounted.now old c.args.tx.0 c.requires.stands room new c.in_ok-entries.entries _ c.in_ok-entries.ensures.value (works_blocks old new _ _ c.in_ok-add_group.ensures.works) c.in_ok-add_group.ensures.kept c.in_ok-add_group.ensures.aged

pub returns-in_err-add_group-clause-err : goal.returns-in_err-add_group-clause-err
returns-in_err-add_group-clause-err g c =
    let old = g.N.Nand.flash c.args.nand.now in
    let new = g.N.Nand.flash c.add_group.new.nand in
    let room = room_after c.args.mounted.now old c.args.tx.0 c.args.judged c.requires.stands c.requires.judged c.requires.room (g.met.N.Nand.sound c.args.nand.now) in
    let p = err_from_is_err_and c.from_residual-in_err-add_group.result c.from_residual-in_err-add_group.ensures.1 in
    rw (p.1, p.2) (stopped c.args.mounted.now old c.args.tx.0 c.requires.stands room new c.in_ok-entries.entries c.in_err-add_group.field-0.0 _ _ (g.met.N.Nand.sound c.add_group.new.nand) c.requires.opened (has_room_after c.args.mounted.now old c.args.tx.0 c.args.judged c.requires.stands c.requires.judged c.requires.room)
    c.in_ok-entries.ensures.value c.in_err-add_group.ensures.stops c.in_err-add_group.ensures.kept)
