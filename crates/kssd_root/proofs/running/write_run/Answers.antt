use Rattle.std.proofs.Common.{◌-◌, ◌^◌, List, ap, arith}
use Rattle.std.specs.Option.{option_copied}
use Rattle.std.proofs.lemmas.Result.{err_from_is_err_and}
use Rattle.kv_nand.specs.Flash.{Flash}
use Rattle.kv_nand.proofs.Chaining.{works_within, stops_within}
use Rattle.kssd_entry.specs.declared.entry.Entry.{Entry}
use Rattle.kssd_compact.specs.Job.{steps_done, steps_most}
use Rattle.kssd_compact.specs.Starting.{frozen_entries}
use Rattle.kssd_root.proofs.Written.{no_table, steps_few, can_at, named_kept, is_new}
use Rattle.kssd_root.proofs.running.write_run.Goals as goal

pub finish-requires : goal.finish-requires
finish-requires g c = can_at c.args.kind c.args.levels.now (frozen_entries (option_copied c.args.table)) c.args.number _ _ c.in_ok-job.job c.in_ok-job.ensures c.requires.stand

pub returns-in_err-run-clause-named : goal.returns-in_err-run-clause-named
returns-in_err-run-clause-named g c =
    named_kept c.args.kind c.args.levels.now (frozen_entries (option_copied c.args.table)) c.args.number _ _ _ c.in_ok-job.job c.in_ok-job.ensures c.requires.stand c.in_err-run.ensures.outside

pub returns-clause-named : goal.returns-clause-named
returns-clause-named g c =
    named_kept c.args.kind c.args.levels.now (frozen_entries (option_copied c.args.table)) c.args.number _ _ _ c.in_ok-job.job c.in_ok-job.ensures c.requires.stand c.in_ok-run.ensures.outside

pub returns-in_err-run-clause-stops : goal.returns-in_err-run-clause-stops
returns-in_err-run-clause-stops g c =
    let old = g.N.Nand.flash c.args.nand.now in
    let new = g.N.Nand.flash c.finish.new.nand in
    let log : List Entry = frozen_entries (option_copied c.args.table) in
    let job = c.in_ok-job.job in
    let few = steps_few c.args.kind c.args.levels.now log c.args.number old.blocks job c.in_ok-job.ensures c.requires.stand.device_is c.requires.kind c.requires.entries (λ other. no_table c.args.table _ c.requires.table.1 other) c.requires.few in
    let p = err_from_is_err_and c.from_residual-in_err-run.result c.from_residual-in_err-run.ensures.1 in
    rw (p.1, p.2) (stops_within old new _ (steps_most job - steps_done job) (2 ^ 64) _ (2 ^ 64) c.in_err-run.ensures.stops few (omega arith))

pub returns-clause-works : goal.returns-clause-works
returns-clause-works g c =
    let old = g.N.Nand.flash c.args.nand.now in
    let new = g.N.Nand.flash c.finish.new.nand in
    let log : List Entry = frozen_entries (option_copied c.args.table) in
    let job = c.in_ok-job.job in
    let few = steps_few c.args.kind c.args.levels.now log c.args.number old.blocks job c.in_ok-job.ensures c.requires.stand.device_is c.requires.kind c.requires.entries (λ other. no_table c.args.table _ c.requires.table.1 other) c.requires.few in
    works_within old new (steps_most job - steps_done job) (2 ^ 64) _ (2 ^ 64) c.in_ok-run.ensures.works few (omega arith)

pub returns-clause-run : goal.returns-clause-run
returns-clause-run g c =
    let old = g.N.Nand.flash c.args.nand.now in
    let new = g.N.Nand.flash c.finish.new.nand in
    let log : List Entry = frozen_entries (option_copied c.args.table) in
    is_new c.args.kind c.args.levels.now log c.args.number old new c.in_ok-job.job c.in_ok-run.run' c.in_ok-job.ensures c.requires.stand c.in_ok-run.ensures.run (ap (λ (f : Flash). f.blocks) c.in_ok-run.ensures.works.after) c.requires.most c.requires.number
