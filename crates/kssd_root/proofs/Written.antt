-- A job is run to its end.
use Rattle.std.proofs.Common.{false, ◌≡◌, ◌≢◌, ◌∙◌, ℕ, ◌+◌, ◌-◌, ◌/◌, ◌≤◌, List, [], length, Option, Some, None, Bor, refl, sym, ap, subst, arith}
use Rattle.std.specs.Prelude.{IsSome}
use Rattle.std.specs.Option.{option_copied}
use Rattle.std.proofs.Math.Logic.{∥∥₁_map}
use Rattle.kv_nand.specs.Flash.{Image, Flash}
use Rattle.kssd_layout.specs.Numbers.{base_blocks_in}
use Rattle.kssd_layout.specs.Laws.{pages_for, blocks_for}
use Rattle.kssd_entry.specs.declared.entry.Entry.{Entry}
use Rattle.kssd_image.specs.AnchorForm.{most_entries, run_numbers}
use Rattle.kssd_run.specs.declared.reader.Run.{Run}
use Rattle.kssd_levels.specs.declared.kind.JobKind.{JobKind}
use Rattle.kssd_levels.specs.declared.kind.JobKind.TheVariants.{Flush, Zero, One, Collect}
use Rattle.kssd_levels.specs.declared.levels.Levels.{Levels}
use Rattle.kssd_levels.specs.Runs.{has_block}
use Rattle.kssd_levels.specs.Levels.{device_of, infos_of, named_blocks, first_entries, target_of, StandLevels}
use Rattle.kssd_levels.proofs.Spare.{job_blocks_suffice}
use Rattle.kssd_compact.specs.declared.job.Job.{Job}
use Rattle.kssd_compact.specs.Job.{goal_of, inputs_total, IsJobOver, IsStartedJob, StandsJob, CanStepJob, job_blocks, steps_done, steps_most}
use Rattle.kssd_compact.specs.Starting.{frozen_entries}
use Rattle.kssd_compact.specs.Finishing.{Finishes}
use Rattle.kssd_compact.proofs.Jobs.{blocks_of}
use Rattle.kssd_compact.proofs.Installable.{runs_may_be_installed}
use Rattle.kssd_root.specs.Costs.{run_cost}
use Rattle.kssd_root.specs.Following.{KeepsNamed, IsNewRun}
use Rattle.kssd_root.proofs.RunsWritten.{keeps_named}

-- without a table there are no entries
pub no_table : (o : Option (Bor (List Entry))) (P : Type 0) → (IsSome o → P) → (P → ⊥) → frozen_entries (option_copied o) ≡ []
no_table None P f g = refl
no_table (Some x) P f g = absurd (g (f refl))

-- ---- how many operations a job takes

pub total_most : (kind : JobKind) (levels : Levels) (log : List Entry) (blocks : ℕ) → blocks ≡ device_of levels → kind ≢ Collect → length log ≤ 2048 → (kind ≢ Flush → log ≡ []) → (kind ≡ Zero → first_entries levels.one ≤ 4096)
    → pages_for (inputs_total kind log levels) + blocks_for (inputs_total kind log levels) ≤ run_cost kind blocks
total_most Flush levels log blocks device some few none low = omega arith
total_most Zero levels log blocks device some few none low =
    let empty = ap (λ (es : List Entry). length es) (none (λ e. cc)) in
    omega (arith, (job_blocks_suffice levels).zero_most (low refl), empty)
total_most One levels log blocks device some few none low =
    let empty = ap (λ (es : List Entry). length es) (none (λ e. cc)) in
    omega (arith, (job_blocks_suffice levels).one_most, empty, ap base_blocks_in device)
total_most Collect levels log blocks device some few none low = absurd (some refl)

pub steps_few : (kind : JobKind) (levels : Levels) (log : List Entry) (number blocks : ℕ) (job : Job) → IsStartedJob kind levels log number job → blocks ≡ device_of levels → kind ≢ Collect → length log ≤ 2048 → (kind ≢ Flush → log ≡ []) → (kind ≡ Zero → first_entries levels.one ≤ 4096) → steps_most job - steps_done job ≤ run_cost kind blocks
steps_few kind levels log number blocks job started device some few none low =
    let most = total_most kind levels log blocks device some few none low in
    omega (arith, ap (λ (n : ℕ). pages_for n + blocks_for n) started.total, most)

-- ---- the job stands

pub stands_at : (kind : JobKind) (levels : Levels) (log : List Entry) (number blocks : ℕ) (image : Image) (job : Job) → IsStartedJob kind levels log number job → StandLevels levels blocks image → StandsJob job (goal_of kind log levels image) blocks image
stands_at kind levels log number blocks image job started stand =
    subst (λ (d : ℕ). StandsJob job (goal_of kind log levels image) d image) (sym stand.device_is)
    (started.stands image (subst (λ (d : ℕ). StandLevels levels d image) stand.device_is stand))

pub can_at : (kind : JobKind) (levels : Levels) (log : List Entry) (number blocks : ℕ) (image : Image) (job : Job) → IsStartedJob kind levels log number job → StandLevels levels blocks image → CanStepJob job blocks image
can_at kind levels log number blocks image job started stand = ∥∥₁_map (stands_at kind levels log number blocks image job started stand) (λ j. (goal_of kind log levels image, j))

pub named_kept : (kind : JobKind) (levels : Levels) (log : List Entry) (number blocks : ℕ) (old new : Image) (job : Job) → IsStartedJob kind levels log number job → StandLevels levels blocks old → ((page : ℕ) → has_block (job_blocks job) (page / 32) ≡ false → new page ≡ old page) → KeepsNamed blocks (named_blocks levels) old new
named_kept kind levels log number blocks old new job started stand outside =
    keeps_named blocks (job_blocks job) (named_blocks levels) old new (blocks_of job blocks old (can_at kind levels log number blocks old job started stand)) started.over.free outside

-- ---- the run

pub is_new : (kind : JobKind) (levels : Levels) (log : List Entry) (number : ℕ) (old new : Flash) (job : Job) (run : Run) → IsStartedJob kind levels log number job → StandLevels levels old.blocks old.image → Finishes job old run new → new.blocks ≡ old.blocks
    → length (goal_of kind log levels old.image) ≤ most_entries old.blocks (target_of kind) → has_block (run_numbers (infos_of levels)) number ≡ false
    → IsNewRun kind number levels (goal_of kind log levels old.image) run old.blocks new.image
is_new kind levels log number old new job run started stand finished same most fresh =
    let goal = goal_of kind log levels old.image in
    let at : StandsJob finished.last goal old.blocks new.image = subst (λ (d : ℕ). StandsJob finished.last goal d new.image) same (finished.stands goal (stands_at kind levels log number old.blocks old.image job started stand)) in
    let over : IsJobOver kind levels finished.last = record {
      kind_some = started.over.kind_some;
      room = started.over.room;
      kind_is = finished.same.kind ∙ started.over.kind_is;
      level = finished.same.level ∙ started.over.level;
      free = λ block has. started.over.free block (ap (λ (bs : List ℕ). has_block bs block) (sym finished.same.blocks) ∙ has);
    } in
    record {
      may = runs_may_be_installed kind levels finished.last run goal new.image over (subst (λ (d : ℕ). StandsJob finished.last goal d new.image) stand.device_is at) finished.made
          (subst (λ (d : ℕ). length goal ≤ most_entries d (target_of kind)) stand.device_is most)
          (ap (has_block (run_numbers (infos_of levels))) (finished.same.number ∙ started.number_is) ∙ fresh);
      number_is = finished.made.number ∙ finished.same.number ∙ started.number_is;
      entries = finished.made.entries goal old.blocks new.image at;
      stands = finished.made.stands goal old.blocks new.image at;
    }
