use Rattle.std.proofs.Common.{refl, sym}
use Rattle.kfs_plain.specs.Tables.{desk_of}
use Rattle.kfs_plain.proofs.Opened.{kept-offset}
use Rattle.kfs_plain.proofs.reading.lseek.Goals as goal

pub returns-clause-kept : goal.returns-clause-kept
returns-clause-kept c =
    let t = c.args.t.now in
    kept-offset t c.in_ok-desk.desk (desk_of t.desk) c.args.fd c.in-Some.number c.in-Some.it _ c.requires.kept refl c.in_ok-desk.ensures (sym c.in-Some.ensures)
