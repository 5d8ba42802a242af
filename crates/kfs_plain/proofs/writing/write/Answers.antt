use Rattle.std.proofs.Common.{◌<◌, ap, sym, arith}
use Rattle.kfs_model.specs.Step.{World, bytes_of}
use Rattle.kfs_plain.specs.Tables.{tree_of, desk_of, limits_of}
use Rattle.kfs_plain.proofs.Opened.{kept-offset}
use Rattle.kfs_plain.proofs.Writable.{writable-room}
use Rattle.kfs_plain.proofs.writing.write.Goals as goal

pub returns-clause-kept : goal.returns-clause-kept
returns-clause-kept c =
    let t = c.args.t.now in
    kept-offset c.put_bytes.new.t c.in_ok-desk.desk (desk_of t.desk) c.args.fd c.in-Some.number c.in-Some.it _ c.put_bytes.ensures.kept (ap (λ (w : World). w.desk) c.in_ok-put_bytes.ensures.ok) c.in_ok-desk.ensures (sym c.in-Some.ensures)

pub overflow_add-place : goal.overflow_add-place
overflow_add-place c =
    let t = c.args.t.now in
    let some : 0 < c.in_ok-count.count = omega (arith, c.if-count-eq0.false) in
    let room = writable-room (limits_of t) (tree_of t.files) c.in-Some.it.node c.place_of-place.result (bytes_of c.args.given.now) c.in_ok-count.count c.in_ok-count.ensures some in
    let within = room.1 in
    omega arith
