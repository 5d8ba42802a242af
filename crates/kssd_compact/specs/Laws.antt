-- What holds of each job.
use Rattle.std.specs.Prelude.{◌≡◌, ◌<◌, ◌≤◌, ℕ, false, List, length}
use Rattle.kv_nand.specs.Flash.{Image}
use Rattle.kssd_entry.specs.declared.entry.Entry.{Entry}
use Rattle.kssd_merge.specs.Same.{AreSameIn}
use Rattle.kssd_image.specs.AnchorForm.{most_entries, run_numbers}
use Rattle.kssd_run.specs.declared.reader.Run.{Run}
use Rattle.kssd_levels.specs.declared.kind.JobKind.{JobKind}
use Rattle.kssd_levels.specs.declared.levels.Levels.{Levels}
use Rattle.kssd_levels.specs.Runs.{has_block}
use Rattle.kssd_levels.specs.Levels.{device_of, infos_of, target_of, MayInstall}
use Rattle.kssd_compact.specs.declared.job.Job.{Job}
use Rattle.kssd_compact.specs.Job.{StandsJob, IsJobOver, IsMade, job_number, job_blocks, job_inputs, job_done, steps_done, steps_most}

-- there are so many steps at most, and fewer were done while the run isn't written
abbrev pub JobsFinish : Type 0
JobsFinish =
    (job : Job) (goal : List Entry) (device : ℕ) (image : Image) → StandsJob job goal device image
    → (steps_done job ≤ steps_most job) × (job_done job ≡ false → steps_done job < steps_most job)

-- a job stands in each image that has the pages of its blocks, and of those that it reads, as they are
abbrev pub JobsStay : Type 0
JobsStay =
    (job : Job) (goal : List Entry) (device : ℕ) (old new : Image) → AreSameIn (job_blocks job) old new → AreSameIn (job_inputs job) old new
    → StandsJob job goal device old → StandsJob job goal device new

-- the run of a job over these levels that is done may be installed, where its entries are within its level's limit and no run has its number
abbrev pub RunsMayBeInstalled : Type 0
RunsMayBeInstalled =
    (kind : JobKind) (levels : Levels) (job : Job) (run : Run) (goal : List Entry) (image : Image) → IsJobOver kind levels job → StandsJob job goal (device_of levels) image → IsMade job run
    → length goal ≤ most_entries (device_of levels) (target_of kind) → has_block (run_numbers (infos_of levels)) (job_number job) ≡ false
    → MayInstall kind run levels
