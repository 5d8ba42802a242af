use Rattle.std.proofs.Common.{◌<◌, ◌+◌, length, ap, arith}
use Rattle.std.proofs.lemmas.List.{take_all}
use Rattle.kssd_model.specs.declared.runs.RunInfo.{RunInfo}
use Rattle.kssd_levels.specs.Laws.{entries_in}
use Rattle.kssd_compact.proofs.Sizes.{entries_at, entries_upto}
use Rattle.kssd_compact.proofs.starting.total_of.Goals as goal

pub overflow_add-total : goal.overflow_add-total
overflow_add-total c =
    let runs = c.as_slice-run-items.result.now in
    let lt : c.loop-run.run-index < length runs = omega arith in
    omega (arith, entries_at runs c.loop-run.run-index c.run-item.result lt c.run-item.is, entries_upto runs (c.loop-run.run-index + 1), ap entries_in c.as_slice-run-items.ensures, ap (λ (info : RunInfo). info.entries) c.info.ensures)

pub loop-run-preserved : goal.loop-run-preserved
loop-run-preserved c =
    let runs = c.as_slice-run-items.result.now in
    let lt : c.loop-run.run-index < length runs = omega arith in
    omega (arith, entries_at runs c.loop-run.run-index c.run-item.result lt c.run-item.is, ap (λ (info : RunInfo). info.entries) c.info.ensures)

pub returns : goal.returns
returns c =
    let runs = c.as_slice-run-items.result.now in
    omega (arith, ap entries_in (take_all c.loop-run.run-index runs (omega arith)), ap entries_in c.as_slice-run-items.ensures)
