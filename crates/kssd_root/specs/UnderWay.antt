-- A job that is under way.
use Rattle.std.specs.Prelude.{◌≡◌, ◌≤◌, ℕ, List, length}
use Rattle.kv_nand.specs.Flash.{Image}
use Rattle.kssd_entry.specs.declared.entry.Entry.{Entry}
use Rattle.kssd_model.specs.declared.anchor.Anchor.{Anchor}
use Rattle.kssd_levels.specs.declared.kind.JobKind.{JobKind}
use Rattle.kssd_levels.specs.declared.kind.JobKind.TheVariants.{Flush, Zero}
use Rattle.kssd_levels.specs.Runs.{blocks_in}
use Rattle.kssd_levels.specs.Levels.{first_entries, inputs_of}
use Rattle.kssd_compact.specs.declared.job.Job.{Job}
use Rattle.kssd_compact.specs.Job.{IsJobOver, StandsJob, goal_of, inputs_total, job_number, job_inputs, job_total}
use Rattle.kssd_root.specs.declared.root.Root.{Root}
use Rattle.kssd_root.specs.Following.{IsSplit}

-- a job of this kind, of which some steps were done, stands over the levels of a root, and a flush over this table too: its blocks are none of theirs, and its run has the number that the anchor keeps for the next
pub record IsUnderWay (kind : JobKind) (job : Job) (table : List Entry) (root : Root) (blocks : ℕ) (image : Image) : Type 0 where
  pub over : IsJobOver kind root.levels job
  pub few : kind ≡ Zero → first_entries root.levels.one ≤ 4096
  pub number : job_number job ≡ root.anchor.next_run
  pub inputs : job_inputs job ≡ blocks_in (inputs_of kind root.levels)
  pub total : job_total job ≡ inputs_total kind table root.levels
  pub stands : StandsJob job (goal_of kind table root.levels image) blocks image

-- a flush is under way whose table has the newest entries of the earlier part of the log of a root's anchor, of which the later part begins where the log of this anchor does
pub record IsFlushing (job : Job) (later : Anchor) (root : Root) (blocks : ℕ) (image : Image) : Type 0 where
  pub table : List Entry
  pub few : length table ≤ 2048
  pub split : IsSplit table later root blocks image
  pub way : IsUnderWay Flush job table root blocks image
