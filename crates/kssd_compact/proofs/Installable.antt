-- A job's run in the levels with which it was started.
use Rattle.std.proofs.Common.{◌≡◌, ◌∙◌, ℕ, zero, suc, ◌<◌, ◌≤◌, List, length, sym, ap, subst, arith}
use Rattle.std.specs.Prelude.{nat_eq}
use Rattle.std.proofs.Math.Logic.{∥∥₁_map}
use Rattle.std.proofs.lemmas.List.{get_or_default}
use Rattle.kv_nand.specs.Flash.{Image}
use Rattle.kssd_layout.specs.Numbers.{region_in}
use Rattle.kssd_entry.specs.declared.entry.Entry.{Entry}
use Rattle.kssd_model.specs.RunPages.{AreRunBlocks, run_entries, joined, page_entries}
use Rattle.kssd_image.specs.AnchorForm.{IsRunForm, most_entries, run_numbers}
use Rattle.kssd_run.specs.declared.reader.Run.{Run}
use Rattle.kssd_run.specs.Run.{run_info, StandsRun}
use Rattle.kssd_run.proofs.RunBlocks.{first_run_blocks}
use Rattle.kssd_levels.specs.Runs.{has_block}
use Rattle.kssd_levels.specs.Levels.{device_of, infos_of, target_of}
use Rattle.kssd_levels.proofs.Free.{any_taken}
use Rattle.kssd_compact.specs.declared.job.Job.{Job}
use Rattle.kssd_compact.specs.Job.{IsMade, StandsJob, CanStepJob, job_blocks}
use Rattle.kssd_compact.specs.Laws.{RunsMayBeInstalled}
use Rattle.kssd_compact.proofs.Jobs.{blocks_of}

some_pages : (page : ℕ → List Entry) (pages entries : ℕ) → length (joined page pages) ≡ entries → 0 < entries → 1 ≤ pages
some_pages page zero entries e some = absurd (omega (arith, e))
some_pages page (suc n) entries e some = omega arith

can_step : (job : Job) (goal : List Entry) (device : ℕ) (image : Image) → StandsJob job goal device image → CanStepJob job device image
can_step job goal device image h = ∥∥₁_map h (λ j. (goal, j))

-- the run in form
form_of : (device level : ℕ) (job : Job) (run : Run) (goal : List Entry) (image : Image) → (run_info run).level ≡ level → StandsRun run device image → run_entries image (run_info run) ≡ goal → length goal ≤ most_entries device level → IsMade job run → AreRunBlocks device (run_info run).blocks → 0 < (run_info run).entries → IsRunForm device (run_info run)
form_of device level job run goal image level_is stands are most made blocks some =
    let count = stands.run_in.count in
    record {
      entries_some = omega arith;
      entries_most = omega (arith, count, ap length are, most, ap (most_entries device) level_is);
      pages_some = some_pages (page_entries image (run_info run).number (run_info run).blocks) (run_info run).pages (run_info run).entries count some;
      pages_most = made.few;
      block_count = made.housed;
      region = λ k d lt. ap (region_in device) (get_or_default (run_info run).blocks k d 0 lt) ∙ blocks.region k lt;
    }

pub runs_may_be_installed : RunsMayBeInstalled
runs_may_be_installed kind levels job run goal image over h made few fresh =
    let device = device_of levels in
    let own = blocks_of job device image (can_step job goal device image h) in
    let blocks = subst (AreRunBlocks device) (sym made.blocks) (first_run_blocks device _ (job_blocks job) own) in
    let level : (run_info run).level ≡ target_of kind = made.level ∙ over.level in
    record {
      kind_is = over.kind_some;
      level = level;
      form = form_of device (target_of kind) job run goal image level (made.stands goal device image h) (made.entries goal device image h) few made blocks;
      differ = blocks.distinct;
      blocks = λ block has. over.free block (any_taken (nat_eq block) _ (job_blocks job) (ap (λ (bs : List ℕ). has_block bs block) (sym made.blocks) ∙ has));
      number = ap (has_block (run_numbers (infos_of levels))) made.number ∙ fresh;
      room = over.room;
    }
