-- The runs of a device by levels.
use Rattle.std.specs.Prelude.{◌≡◌, ◌≢◌, ◌≤◌, ◌<◌, ◌==◌, not, ℕ, true, false, nat_eq, nat_lt, nat_le, List, [], ◌∷◌, ◌++◌, length, filter, Option, Some, None, if◌then◌else◌, sum_by}
use Rattle.std.specs.List.{All, IsDistinct, range_with_len}
use Rattle.kv_nand.specs.Flash.{Image, Flash}
use Rattle.kv_nand.specs.declared.fault.FlashFault.TheVariants as flash
use Rattle.kssd_layout.specs.Numbers.{run_blocks_in}
use Rattle.kssd_entry.specs.declared.entry.Entry.{Entry}
use Rattle.kssd_entry.specs.declared.entry.Entry.TheVariants.{Put, At, Gone}
use Rattle.kssd_model.specs.declared.runs.RunInfo.{RunInfo}
use Rattle.kssd_model.specs.OnlyReading.{OnlyReads, StopsReading}
use Rattle.kssd_model.specs.Rising.{find_entry, first_of}
use Rattle.kssd_model.specs.RunPages.{run_entries, IsGoodRun}
use Rattle.kssd_image.specs.AnchorForm.{AreOnLevels, IsRunForm, blocks_of, run_numbers}
use Rattle.kssd_image.specs.Damages.{IsBadRunOf}
use Rattle.kssd_image.specs.Stages.{runs_map, without_marks}
use Rattle.kssd_run.specs.declared.reader.Run.{Run}
use Rattle.kssd_run.specs.declared.fault.RunFault.{RunFault}
use Rattle.kssd_run.specs.declared.fault.RunFault.TheVariants as run
use Rattle.kssd_run.specs.Run.{run_info, StandsRun}
use Rattle.kssd_levels.specs.declared.kind.JobKind.{JobKind}
use Rattle.kssd_levels.specs.declared.kind.JobKind.TheVariants.{Flush, Zero, One, Collect}
use Rattle.kssd_levels.specs.declared.levels.Levels.{Levels}
use Rattle.kssd_levels.specs.Runs.{infos_in, has_block, StandRuns}
use Rattle.kssd_levels.specs.Written.{written}

-- the blocks of the device
abbrev pub device_of : Levels → ℕ
device_of levels = levels.layout.blocks

-- the runs of a level, newest first
abbrev pub level_runs : ℕ → Levels → List Run
level_runs level levels = if level == 0 then levels.zero else (if level == 1 then levels.one else levels.base)

-- all runs, in the anchor's order
abbrev pub all_runs : Levels → List Run
all_runs levels = levels.zero ++ (levels.one ++ levels.base)

-- what an anchor says of them
abbrev pub infos_of : Levels → List RunInfo
infos_of levels = infos_in (all_runs levels)

-- the blocks that they fill
abbrev pub named_blocks : Levels → List ℕ
named_blocks levels = blocks_of (infos_of levels)

-- the blocks of runs that none of them fills, the lowest first
abbrev pub free_blocks_of : Levels → List ℕ
free_blocks_of levels = filter (λ block. not (has_block (named_blocks levels) block)) (range_with_len 20 (run_blocks_in (device_of levels)))

-- for each key the newest entry, deletion marks too
abbrev pub levels_map : Levels → Image → List Entry
levels_map levels image = runs_map image (infos_of levels)

-- each run stands in an image of the device's blocks
pub record StandLevels (levels : Levels) (device : ℕ) (image : Image) : Type 0 where
  pub device_is : device ≡ device_of levels
  pub zero : StandRuns levels.zero device image
  pub one : StandRuns levels.one device image
  pub base : StandRuns levels.base device image

-- ---- jobs

-- how many entries the first run of a list has
abbrev pub first_entries : List Run → ℕ
first_entries [] = 0
first_entries (run ∷ runs) = (run_info run).entries

-- the job that merges runs and is due: level 0 into level 1 where level 0 is full and level 1 isn't above 4,096 entries, and level 1 into the base where it is
abbrev pub due_of : Levels → Option JobKind
due_of levels =
    if nat_le (first_entries levels.one) 4096 then (if nat_lt (length levels.zero) 4 then None else Some Zero)
    else Some One

-- the runs that a job reads
abbrev pub inputs_of : JobKind → Levels → List Run
inputs_of Flush levels = []
inputs_of Zero levels = levels.zero ++ levels.one
inputs_of One levels = levels.one ++ levels.base
inputs_of Collect levels = []

-- the level to which a job writes
abbrev pub target_of : JobKind → ℕ
target_of Flush = 0
target_of Zero = 1
target_of One = 2
target_of Collect = 2

-- without deletion marks, where a job drops them
abbrev pub kept_by : JobKind → List Entry → List Entry
kept_by Flush entries = entries
kept_by Zero entries = entries
kept_by One entries = without_marks entries
kept_by Collect entries = entries

-- the entries of the run that a job writes of its runs: the newest of each key
abbrev pub merged_inputs : JobKind → Levels → Image → List Entry
merged_inputs kind levels image = kept_by kind (runs_map image (infos_in (inputs_of kind levels)))

-- a job's run is there in place of what the job read
abbrev pub Installs : JobKind → Run → Levels → Levels → Type 0
Installs Flush run old new = (new.zero ≡ written run ++ old.zero) × (new.one ≡ old.one) × (new.base ≡ old.base) × (new.layout ≡ old.layout)
Installs Zero run old new = (new.zero ≡ []) × (new.one ≡ written run) × (new.base ≡ old.base) × (new.layout ≡ old.layout)
Installs One run old new = (new.zero ≡ old.zero) × (new.one ≡ []) × (new.base ≡ written run) × (new.layout ≡ old.layout)
Installs Collect run old new = ⊥

-- an entry, unless it is a deletion mark
abbrev pub unmarked : Option Entry → Option Entry
unmarked None = None
unmarked (Some (Put key value)) = Some (Put key value)
unmarked (Some (At key page size)) = Some (At key page size)
unmarked (Some (Gone key)) = None

-- the run is one that the job may leave: of the job's level, in form where it has entries, and with blocks and a number that no run of the levels has
pub record MayInstall (kind : JobKind) (run : Run) (levels : Levels) : Type 0 where
  pub kind_is : kind ≢ Collect
  pub level : (run_info run).level ≡ target_of kind
  pub form : 0 < (run_info run).entries → IsRunForm (device_of levels) (run_info run)
  pub differ : IsDistinct nat_eq (run_info run).blocks
  pub blocks : (block : ℕ) → has_block (run_info run).blocks block ≡ true → has_block (named_blocks levels) block ≡ false
  pub number : has_block (run_numbers (infos_of levels)) (run_info run).number ≡ false
  pub room : kind ≡ Flush → length levels.zero ≤ 3

-- a flush gives each key of its run the run's entry; a merge keeps the entry of every key, deletion marks in the base apart
abbrev pub KeepsKeys : JobKind → Run → Levels → Levels → Image → Type 0
KeepsKeys Flush run old new image = (key : List ℕ) → find_entry (levels_map new image) key ≡ first_of (find_entry (run_entries image (run_info run)) key) (find_entry (levels_map old image) key)
KeepsKeys Zero run old new image = run_entries image (run_info run) ≡ merged_inputs Zero old image → (key : List ℕ) → find_entry (levels_map new image) key ≡ find_entry (levels_map old image) key
KeepsKeys One run old new image = run_entries image (run_info run) ≡ merged_inputs One old image → (key : List ℕ) → unmarked (find_entry (levels_map new image) key) ≡ unmarked (find_entry (levels_map old image) key)
KeepsKeys Collect run old new image = Unit {0}

-- wherever the runs stand, the new levels stand and keep the keys
abbrev pub Keeps : JobKind → Run → Levels → Levels → Type 0
Keeps kind run old new = (device : ℕ) (image : Image) → StandLevels old device image → StandsRun run device image → StandLevels new device image × KeepsKeys kind run old new image

-- what an anchor may name on a device of so many blocks
pub record MayName (device : ℕ) (infos : List RunInfo) : Type 0 where
  pub levels : AreOnLevels infos
  pub runs : All (IsRunForm device) infos
  pub blocks_differ : IsDistinct nat_eq (blocks_of infos)
  pub numbers_differ : IsDistinct nat_eq (run_numbers infos)

-- the pages of these runs
abbrev pub pages_in : List RunInfo → ℕ
pages_in infos = sum_by (λ info. info.pages) infos

-- what opening gives: the runs that are named, which stand and aren't damaged
pub record AreOpened (infos : List RunInfo) (device : ℕ) (image : Image) (levels : Levels) : Type 0 where
  pub infos_are : infos_of levels ≡ infos
  pub stand : StandLevels levels device image
  pub good : All (IsGoodRun image) infos

-- why levels aren't opened
abbrev pub OpensFail : List RunInfo → Flash → RunFault → Flash → Type 0
OpensFail infos old (run.Bad page) new = IsBadRunOf old.image infos page × OnlyReads old new
OpensFail infos old run.Off new = StopsReading old flash.Off new
OpensFail infos old run.Failed new = StopsReading old flash.Failed new
OpensFail infos old run.Memory new = StopsReading old flash.Memory new
