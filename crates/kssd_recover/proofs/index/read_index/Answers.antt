use Rattle.std.proofs.Common.{ℕ, sym, subst}
use Rattle.std.proofs.lemmas.Result.{err_from_is_err_and}
use Rattle.kssd_image.specs.AnchorForm.{IsAnchorForm}
use Rattle.kssd_recover.proofs.Judging.{low_log, run_fails, log_fails}
use Rattle.kssd_recover.proofs.index.read_index.Goals as goal

pub open_levels-requires-clause-form : goal.open_levels-requires-clause-form
open_levels-requires-clause-form g c =
    let state = g.N.Nand.flash in
    subst (λ (n : ℕ). IsAnchorForm n c.in_ok-found.found.anchor) (sym c.requires.device) c.in_ok-found.ensures.fit.form

pub returns-in_err-levels-clause-err : goal.returns-in_err-levels-clause-err
returns-in_err-levels-clause-err g c =
    let state = g.N.Nand.flash in
    let p = err_from_is_err_and c.from_residual-in_err-levels.result c.from_residual-in_err-levels.ensures.1 in
    rw (p.1, p.2) (run_fails (state c.args.nand.now).blocks (state c.args.nand.now) (state c.fit_anchor.new.nand) (state c.open_levels.new.nand) c.in_err-levels.field-0.0 c.in_ok-found.found c.in_ok-found.ensures.reads c.in_ok-found.ensures.ok c.in_ok-found.ensures.fit c.in_err-levels.ensures.err)

pub read_log-requires-clause-block : goal.read_log-requires-clause-block
read_log-requires-clause-block g c =
    let state = g.N.Nand.flash in
    let form = c.in_ok-found.ensures.fit.form in
    (form.log_low, form.log_high)

pub read_log-requires-clause-number : goal.read_log-requires-clause-number
read_log-requires-clause-number g c =
    let state = g.N.Nand.flash in
    low_log c.in_ok-found.found.anchor c.in_ok-found.ensures.fit.numbers

pub returns-in_err-log-clause-err : goal.returns-in_err-log-clause-err
returns-in_err-log-clause-err g c =
    let state = g.N.Nand.flash in
    let p = err_from_is_err_and c.from_residual-in_err-log.result c.from_residual-in_err-log.ensures.1 in
    rw (p.1, p.2) (log_fails (state c.args.nand.now).blocks (state c.args.nand.now) (state c.fit_anchor.new.nand) (state c.open_levels.new.nand) (state c.read_log.new.nand) c.in_err-log.field-0.0 c.in_ok-found.found c.in_ok-found.ensures.reads c.in_ok-levels.ensures.reads c.in_ok-found.ensures.ok c.in_ok-found.ensures.fit c.in_ok-levels.ensures.ok.good c.in_err-log.ensures.err)
