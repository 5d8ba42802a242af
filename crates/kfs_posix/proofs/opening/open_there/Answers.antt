use Rattle.std.proofs.lemmas.Result.{err_from_is_err_and}
use Rattle.kfs_posix.proofs.OpenParts.{there_done, cut_done, cut_failed}
use Rattle.kfs_posix.proofs.opening.open_there.Goals as goal

pub returns-then-not-flags-clause-does : goal.returns-then-not-flags-clause-does
returns-then-not-flags-clause-does g c =
    there_done c.args.kfs.now c.args.files.now.opens c.free_for.new.files.opens c.args.node c.args.inode.kind c.args.inode.length c.args.trailing c.args.flags c.in_ok-fd.fd c.in_ok-fd.ensures.gives c.in_ok-fd.ensures.same
    c.open.new.self.opens c.open.result c.opened_file-file.result c.open.ensures.free c.opened_file-file.ensures c.if-not-flags.true c.open.ensures.opened

pub returns-in_err-set_length-clause-does : goal.returns-in_err-set_length-clause-does
returns-in_err-set_length-clause-does g c =
    let p = err_from_is_err_and c.from_residual-in_err-set_length.result c.from_residual-in_err-set_length.ensures.1 in
    rw (p.1, p.2) (cut_failed c.args.kfs.now c.args.files.now.opens c.free_for.new.files.opens c.args.node c.args.inode.kind c.args.inode.length c.args.trailing c.args.flags c.in_ok-fd.fd c.in_ok-fd.ensures.gives c.in_ok-fd.ensures.same
    c.if-not-flags.false c.in_err-set_length.field-0.0 c.set_length.new.self c.in_err-set_length.ensures.does)

pub returns-clause-does : goal.returns-clause-does
returns-clause-does g c =
    cut_done c.args.kfs.now c.args.files.now.opens c.free_for.new.files.opens c.args.node c.args.inode.kind c.args.inode.length c.args.trailing c.args.flags c.in_ok-fd.fd c.in_ok-fd.ensures.gives c.in_ok-fd.ensures.same
    c.open-2.new.self.opens c.open-2.result c.opened_file-file.result c.open-2.ensures.free c.opened_file-file.ensures c.if-not-flags.false c.set_length.new.self c.set_length-2.new.self.opens c.open-2.ensures.opened c.set_length-2.ensures c.in_ok-set_length.ensures.does
