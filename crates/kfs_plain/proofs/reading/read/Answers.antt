use Rattle.std.proofs.Common.{refl}
use Rattle.kfs_plain.specs.Tables.{desk_of, world_of}
use Rattle.kfs_plain.proofs.Opened.{kept-offset, readable-opened}
use Rattle.kfs_plain.proofs.reading.read.Goals as goal

pub returns-clause-kept : goal.returns-clause-kept
returns-clause-kept c =
    let t = c.args.t.now in
    kept-offset t c.in_ok-desk.desk (desk_of t.desk) c.args.fd c.in_ok-number.number c.in_ok-number.it _ c.requires.kept refl c.in_ok-desk.ensures
    (readable-opened (world_of t) c.args.fd c.args.count (c.in_ok-number.number, c.in_ok-number.it) c.in_ok-number.ensures)
