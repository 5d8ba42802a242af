use Rattle.std.proofs.Common.{◌∙◌}
use Rattle.std.proofs.lemmas.Result.{err_from_is_err_and}
use Rattle.kssd_mounted.proofs.Changing.{set_refused, set_memory, set_done}
use Rattle.kssd_mounted.proofs.mounted.Mounted.set_inline.Goals as goal

pub returns-in-Some-clause-err : goal.returns-in-Some-clause-err
returns-in-Some-clause-err g c = set_refused c.args.self.now (g.N.Nand.flash c.args.nand.now) c.args.tx.0 c.args.key.now c.args.value.now c.refusal.result c.in-Some.fault c.tx_fault.result c.requires.stands c.requires.short c.refusal.ensures c.in-Some.is c.tx_fault.ensures

pub returns-in_err-key-clause-err : goal.returns-in_err-key-clause-err
returns-in_err-key-clause-err g c =
    let p = err_from_is_err_and c.from_residual.result c.from_residual.ensures.1 in
    rw (p.1, p.2) (set_memory c.args.self.now (g.N.Nand.flash c.args.nand.now) c.args.tx.0 c.args.key.now c.args.value.now c.refusal.result c.requires.stands c.requires.short c.refusal.ensures c.in_default.not-Some)

pub returns-in_err-copy-clause-err : goal.returns-in_err-copy-clause-err
returns-in_err-copy-clause-err g c =
    let p = err_from_is_err_and c.from_residual-in_err-copy.result c.from_residual-in_err-copy.ensures.1 in
    rw (p.1, p.2) (set_memory c.args.self.now (g.N.Nand.flash c.args.nand.now) c.args.tx.0 c.args.key.now c.args.value.now c.refusal.result c.requires.stands c.requires.short c.refusal.ensures c.in_default.not-Some)

pub returns-in_err-change-clause-err : goal.returns-in_err-change-clause-err
returns-in_err-change-clause-err g c =
    let p = err_from_is_err_and c.from_residual-in_err-change.result c.from_residual-in_err-change.ensures.1 in
    rw (p.1, p.2) (set_memory c.args.self.now (g.N.Nand.flash c.args.nand.now) c.args.tx.0 c.args.key.now c.args.value.now c.refusal.result c.requires.stands c.requires.short c.refusal.ensures c.in_default.not-Some)

pub returns-clause-ok : goal.returns-clause-ok
returns-clause-ok g c =
    set_done c.args.self.now (g.N.Nand.flash c.args.nand.now) c.args.tx.0 c.args.key.now c.args.value.now c.in_ok-key.key c.new-value.result c.change.new.self.changes c.refusal.result c.requires.stands c.requires.short c.refusal.ensures c.in_default.not-Some c.in_ok-key.ensures (c.new-value.ensures ∙ c.in_ok-copy.ensures) c.in_ok-change.ensures.ok
