use Rattle.std.proofs.lemmas.Result.{err_from_is_err_and}
use Rattle.kssd_mounted.proofs.Changing.{delete_refused, delete_memory, delete_done}
use Rattle.kssd_mounted.proofs.mounted.Mounted.delete.Goals as goal

pub returns-in-Some-clause-err : goal.returns-in-Some-clause-err
returns-in-Some-clause-err g c = delete_refused c.args.self.now (g.N.Nand.flash c.args.nand.now) c.args.tx.0 c.args.key.now c.refusal.result c.in-Some.fault c.tx_fault.result c.requires.stands c.refusal.ensures c.in-Some.is c.tx_fault.ensures

pub returns-in_err-key-clause-err : goal.returns-in_err-key-clause-err
returns-in_err-key-clause-err g c =
    let p = err_from_is_err_and c.from_residual.result c.from_residual.ensures.1 in
    rw (p.1, p.2) (delete_memory c.args.self.now (g.N.Nand.flash c.args.nand.now) c.args.tx.0 c.args.key.now c.refusal.result c.requires.stands c.refusal.ensures c.in_default.not-Some)

pub returns-in_err-change-clause-err : goal.returns-in_err-change-clause-err
returns-in_err-change-clause-err g c =
    let p = err_from_is_err_and c.from_residual-in_err-change.result c.from_residual-in_err-change.ensures.1 in
    rw (p.1, p.2) (delete_memory c.args.self.now (g.N.Nand.flash c.args.nand.now) c.args.tx.0 c.args.key.now c.refusal.result c.requires.stands c.refusal.ensures c.in_default.not-Some)

pub returns-clause-ok : goal.returns-clause-ok
returns-clause-ok g c = delete_done c.args.self.now (g.N.Nand.flash c.args.nand.now) c.args.tx.0 c.args.key.now c.in_ok-key.key c.change.new.self.changes c.refusal.result c.requires.stands c.refusal.ensures c.in_default.not-Some c.in_ok-key.ensures c.in_ok-change.ensures.ok
