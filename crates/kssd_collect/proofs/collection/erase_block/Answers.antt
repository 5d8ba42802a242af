use Rattle.std.proofs.lemmas.Result.{err_from_is_err_and}
use Rattle.kv_nand.proofs.Chaining.{falls_stops, falls_blocks, erased_works, works_blocks}
use Rattle.kssd_reclaim.specs.Reclaim.{block_of}
use Rattle.kssd_machine.proofs.Remaining.{block_after_clear}
use Rattle.kssd_collect.proofs.Kept.{stands_from, objects_kept, leaves_kept, busy_kept, machine_kept, room_after, frees}
use Rattle.kssd_collect.proofs.collection.erase_block.Goals as goal

pub returns-in_err-finish-clause-objects : goal.returns-in_err-finish-clause-objects
returns-in_err-finish-clause-objects g c = objects_kept c.args.mounted.now (g.N.Nand.flash c.args.nand.now) (g.N.Nand.flash c.finish.new.nand) c.requires.emptied.busy c.in_err-finish.ensures.keeps

pub returns-in_err-finish-clause-leaves : goal.returns-in_err-finish-clause-leaves
returns-in_err-finish-clause-leaves g c =
    let old = g.N.Nand.flash c.args.nand.now in
    let new = g.N.Nand.flash c.finish.new.nand in
    leaves_kept c.args.mounted.now old new c.requires.emptied.busy c.in_err-finish.ensures.keeps (falls_blocks old new _ c.in_err-finish.ensures.err)

pub returns-in_err-finish-clause-stops : goal.returns-in_err-finish-clause-stops
returns-in_err-finish-clause-stops g c =
    let old = g.N.Nand.flash c.args.nand.now in
    let new = g.N.Nand.flash c.finish.new.nand in
    let p = err_from_is_err_and c.from_residual.result c.from_residual.ensures.1 in
    rw (p.1, p.2) (falls_stops old new c.in_err-finish.field-0.0 (g.met.N.Nand.sound c.args.nand.now) c.in_err-finish.ensures.err)

pub returns-clause-stands : goal.returns-clause-stands
returns-clause-stands g c =
    let m = c.args.mounted.now in
    let old = g.N.Nand.flash c.args.nand.now in
    let new = g.N.Nand.flash c.finish.new.nand in
    let clears = c.in_ok-finish.ensures.ok in
    let busy = c.requires.emptied.busy in
    stands_from (record m { values = c.finish.new.values }) new
    (busy_kept m c.finish.new.values old new 1 0 busy c.in_ok-finish.ensures.keeps clears.device clears.marks (c.in_ok-finish.ensures.fills busy.fills) (block_after_clear m.values c.finish.new.values (block_of c.args.reclaim) clears)
    (erased_works old new (block_of c.args.reclaim) (g.met.N.Nand.sound c.args.nand.now) c.in_ok-finish.ensures.erased))
    clears.over

pub returns-clause-machine : goal.returns-clause-machine
returns-clause-machine g c =
    let old = g.N.Nand.flash c.args.nand.now in
    let new = g.N.Nand.flash c.finish.new.nand in
    machine_kept c.args.mounted.now old new 1 0 c.requires.emptied.busy c.in_ok-finish.ensures.keeps (erased_works old new (block_of c.args.reclaim) (g.met.N.Nand.sound c.args.nand.now) c.in_ok-finish.ensures.erased)

pub returns-clause-room : goal.returns-clause-room
returns-clause-room g c = room_after c.args.reclaim c.args.mounted.now (g.N.Nand.flash c.args.nand.now) c.finish.new.values (block_of c.args.reclaim) c.requires.emptied c.in_ok-finish.ensures.ok

pub returns-clause-frees : goal.returns-clause-frees
returns-clause-frees g c = frees c.args.reclaim c.args.mounted.now (g.N.Nand.flash c.args.nand.now) c.finish.new.values (block_of c.args.reclaim) c.requires.emptied c.in_ok-finish.ensures.ok

pub returns-clause-objects : goal.returns-clause-objects
returns-clause-objects g c = objects_kept c.args.mounted.now (g.N.Nand.flash c.args.nand.now) (g.N.Nand.flash c.finish.new.nand) c.requires.emptied.busy c.in_ok-finish.ensures.keeps

pub returns-clause-leaves : goal.returns-clause-leaves
returns-clause-leaves g c =
    let old = g.N.Nand.flash c.args.nand.now in
    let new = g.N.Nand.flash c.finish.new.nand in
    leaves_kept c.args.mounted.now old new c.requires.emptied.busy c.in_ok-finish.ensures.keeps (works_blocks old new 1 0 (erased_works old new (block_of c.args.reclaim) (g.met.N.Nand.sound c.args.nand.now) c.in_ok-finish.ensures.erased))

pub returns-clause-works : goal.returns-clause-works
returns-clause-works g c = erased_works (g.N.Nand.flash c.args.nand.now) (g.N.Nand.flash c.finish.new.nand) (block_of c.args.reclaim) (g.met.N.Nand.sound c.args.nand.now) c.in_ok-finish.ensures.erased
