-- A job, its run that is half written, and what is still to come.
use Rattle.std.specs.Prelude.{◌≡◌, ◌≢◌, ◌⊎◌, ◌≤◌, ◌+◌, ◌*◌, ◌/◌, ◌&&◌, not, ℕ, Bool, true, false, List, [], ◌++◌, length, take, if◌then◌else◌}
use Rattle.kv_nand.specs.Flash.{Image, Flash}
use Rattle.kv_nand.specs.Working.{ops_more}
use Rattle.kssd_layout.specs.Laws.{pages_for, blocks_for}
use Rattle.kssd_entry.specs.declared.entry.Entry.{Entry}
use Rattle.kssd_model.specs.Rising.{is_rising}
use Rattle.kssd_model.specs.RunPages.{run_entries, AreRunBlocks}
use Rattle.kssd_run.specs.declared.reader.Run.{Run}
use Rattle.kssd_run.specs.Run.{run_info, StandsRun}
use Rattle.kssd_run.specs.Write.{waiting_pages}
use Rattle.kssd_run.specs.Writing.{Writes, page_waits, is_closed, pages_written, blocks_begun, run_blocks}
use Rattle.kssd_levels.specs.declared.kind.JobKind.{JobKind}
use Rattle.kssd_levels.specs.declared.kind.JobKind.TheVariants.{Flush, Zero, One, Collect}
use Rattle.kssd_levels.specs.declared.levels.Levels.{Levels}
use Rattle.kssd_levels.specs.Runs.{blocks_in, has_block}
use Rattle.kssd_levels.specs.Levels.{device_of, named_blocks, free_blocks_of, inputs_of, target_of, kept_by, merged_inputs, StandLevels}
use Rattle.kssd_levels.specs.Laws.{entries_in}
use Rattle.kssd_compact.specs.declared.job.Job.{Job}
use Rattle.kssd_compact.specs.Source.{source_rest, StandsSource, source_houses}

-- the entries of the run that a job writes: those of the table, or the newest of the runs that it reads
abbrev pub goal_of : JobKind → List Entry → Levels → Image → List Entry
goal_of Flush frozen levels image = frozen
goal_of Zero frozen levels image = merged_inputs Zero levels image
goal_of One frozen levels image = merged_inputs One levels image
goal_of Collect frozen levels image = []

-- how many entries all inputs of a job have
abbrev pub inputs_total : JobKind → List Entry → Levels → ℕ
inputs_total kind frozen levels = length frozen + entries_in (inputs_of kind levels)

abbrev pub job_kind : Job → JobKind
job_kind job = job.kind

-- the level of its run
abbrev pub job_level : Job → ℕ
job_level job = job.writer.info.level

-- the number of its run
abbrev pub job_number : Job → ℕ
job_number job = job.writer.info.number

-- the blocks for its run
abbrev pub job_blocks : Job → List ℕ
job_blocks job = run_blocks job.writer

-- the blocks of the runs that it reads
abbrev pub job_inputs : Job → List ℕ
job_inputs job = source_houses job.source

-- the entries over all its inputs
abbrev pub job_total : Job → ℕ
job_total job = job.total

-- whether its run is written
abbrev pub job_done : Job → Bool
job_done job = job.ended && not (page_waits job.writer)

-- the pages programmed and the blocks erased so far
abbrev pub steps_done : Job → ℕ
steps_done job = pages_written job.writer + blocks_begun job.writer

-- the most of them: a page for 9 entries, and a block for 32 pages
abbrev pub steps_most : Job → ℕ
steps_most job = pages_for (job_total job) + blocks_for (job_total job)

-- the entries still to come, none after the end
abbrev pub left_of : Job → Image → List Entry
left_of job image = if job.ended then [] else source_rest job.source image

-- what was fed and what counts of the entries still to come are the entries of the run; the blocks for it are its own, and just enough
pub record IsJob (job : Job) (goal : List Entry) (device : ℕ) (image : Image) : Type 0 where
  pub fed : List Entry
  pub device_is : (256 ≤ device) × (device ≤ 2048)
  pub writes : Writes job.writer image fed
  pub parts : fed ++ kept_by job.kind (left_of job image) ≡ goal
  pub rising : is_rising goal ≡ true
  pub stands : job.ended ≡ false → StandsSource job.source device image
  pub closed : is_closed job.writer ≡ job.ended
  pub blocks : AreRunBlocks device (job_blocks job)
  pub apart : (block : ℕ) → has_block (job_blocks job) block ≡ true → has_block (job_inputs job) block ≡ false
  pub size : length (job_blocks job) ≡ blocks_for (job_total job)
  pub few : length goal ≤ job_total job
  pub none : job_total job ≡ 0 → job.ended ≡ true
  pub begun : 32 * blocks_begun job.writer ≤ pages_written job.writer + waiting_pages (page_waits job.writer) + 31

-- a job whose run gets these entries stands so in an image
abbrev pub StandsJob : Job → List Entry → ℕ → Image → Type 0
StandsJob job goal device image = ∥ IsJob job goal device image ∥₁

-- a job stands so in an image
abbrev pub CanStepJob : Job → ℕ → Image → Type 0
CanStepJob job device image = ∥ ((goal : List Entry) × IsJob job goal device image) ∥₁

-- it is the same job, with the same inputs and blocks
pub record IsSameJob (old new : Job) : Type 0 where
  pub kind : job_kind new ≡ job_kind old
  pub level : job_level new ≡ job_level old
  pub number : job_number new ≡ job_number old
  pub total : job_total new ≡ job_total old
  pub blocks : job_blocks new ≡ job_blocks old
  pub inputs : job_inputs new ≡ job_inputs old

-- a page was programmed or a block erased by one operation; or nothing was left to do
abbrev pub CountsStep : Job → Flash → Job → Flash → Type 0
CountsStep old before new after =
    ((steps_done new ≡ steps_done old + 1) × (after.ops ≡ ops_more before 1))
    ⊎ ((steps_done new ≡ steps_done old) × (after.ops ≡ before.ops) × (job_done new ≡ true))

-- an operation was done; or none, since nothing was left to do
abbrev pub TellsStep : Bool → Flash → Job → Flash → Type 0
TellsStep true before new after = after.ops ≡ ops_more before 1
TellsStep false before new after = (after.ops ≡ before.ops) × (job_done new ≡ true)

-- a job of this kind, which these levels have room for, with blocks of its own that no run of them has
pub record IsJobOver (kind : JobKind) (levels : Levels) (job : Job) : Type 0 where
  pub kind_some : kind ≢ Collect
  pub room : kind ≡ Flush → length levels.zero ≤ 3
  pub kind_is : job_kind job ≡ kind
  pub level : job_level job ≡ target_of kind
  pub free : (block : ℕ) → has_block (job_blocks job) block ≡ true → has_block (named_blocks levels) block ≡ false

-- a job over these levels and this table, of which nothing is written, in the lowest free blocks
pub record IsStartedJob (kind : JobKind) (levels : Levels) (frozen : List Entry) (number : ℕ) (job : Job) : Type 0 where
  pub over : IsJobOver kind levels job
  pub number_is : job_number job ≡ number
  pub total : job_total job ≡ inputs_total kind frozen levels
  pub steps : steps_done job ≡ 0
  pub inputs : job_inputs job ≡ blocks_in (inputs_of kind levels)
  pub blocks : job_blocks job ≡ take (blocks_for (inputs_total kind frozen levels)) (free_blocks_of levels)
  pub stands : (image : Image) → StandLevels levels (device_of levels) image → StandsJob job (goal_of kind frozen levels image) (device_of levels) image

-- the run has just the entries that the job was to write, and stands in its blocks; at most one page for 9 entries, and just the blocks for these
pub record IsMade (job : Job) (run : Run) : Type 0 where
  pub level : (run_info run).level ≡ job_level job
  pub number : (run_info run).number ≡ job_number job
  pub few : (run_info run).pages ≤ pages_for (run_info run).entries
  pub housed : length (run_info run).blocks ≡ ((run_info run).pages + 31) / 32
  pub blocks : (run_info run).blocks ≡ take (((run_info run).pages + 31) / 32) (job_blocks job)
  pub entries : (goal : List Entry) (device : ℕ) (image : Image) → StandsJob job goal device image → run_entries image (run_info run) ≡ goal
  pub stands : (goal : List Entry) (device : ℕ) (image : Image) → StandsJob job goal device image → StandsRun run device image
