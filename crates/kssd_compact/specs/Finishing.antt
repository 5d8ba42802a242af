-- A job whose steps are all done.
use Rattle.std.specs.Prelude.{◌≡◌, ◌/◌, ℕ, false, List}
use Rattle.kv_nand.specs.Flash.{Flash}
use Rattle.kssd_entry.specs.declared.entry.Entry.{Entry}
use Rattle.kssd_run.specs.declared.reader.Run.{Run}
use Rattle.kssd_compact.specs.declared.job.Job.{Job}
use Rattle.kssd_levels.specs.Runs.{has_block}
use Rattle.kssd_compact.specs.Job.{IsSameJob, IsMade, StandsJob, job_blocks}

-- the run is made by the same job, which writes the same entries, after its last step
pub record Finishes (job : Job) (before : Flash) (run : Run) (after : Flash) : Type 0 where
  pub last : Job
  pub same : IsSameJob job last
  pub made : IsMade last run
  pub stands : (goal : List Entry) → StandsJob job goal before.blocks before.image → StandsJob last goal after.blocks after.image

-- the same job after some of its steps, which changed nothing but in its blocks
pub record GoesOn (old : Job) (before : Flash) (new : Job) (after : Flash) : Type 0 where
  pub same : IsSameJob old new
  pub stands : (goal : List Entry) → StandsJob old goal before.blocks before.image → StandsJob new goal after.blocks after.image
  pub outside : (page : ℕ) → has_block (job_blocks old) (page / 32) ≡ false → after.image page ≡ before.image page
