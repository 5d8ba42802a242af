use Rattle.std.proofs.Common.{◌≡◌, ◌∙◌, ◌<◌, true, sym, ap, length, List, ℕ, arith}
use Rattle.kssd_model.specs.declared.runs.RunInfo.{RunInfo}
use Rattle.kssd_run.specs.declared.reader.Run.{Run}
use Rattle.kssd_run.specs.Run.{run_info}
use Rattle.kssd_levels.specs.Runs.{blocks_in, has_block}
use Rattle.kssd_levels.proofs.Finding.{names_at}
use Rattle.kssd_levels.proofs.runs.RunList.names.Goals as goal

pub returns-then-has : goal.returns-then-has
returns-then-has c =
    let runs = c.deref-run-items.result.now in
    let within : c.loop-run.run-index < length runs = omega arith in
    let has : has_block (run_info c.run-item.result).blocks c.args.block ≡ true = ap (λ (bs : List ℕ). has_block bs c.args.block) (sym (c.as_slice.ensures.value ∙ ap (λ (info : RunInfo). info.blocks) c.info.ensures)) ∙ sym c.has.ensures ∙ c.if-has.true in
    sym (names_at runs c.loop-run.run-index c.run-item.result c.args.block within c.run-item.is has)
    ∙ ap (λ (rs : List Run). has_block (blocks_in rs) c.args.block) (c.deref-run-items.ensures.value ∙ c.self.view_is)
