-- A job of which nothing is written.
use Rattle.std.proofs.Common.{◌≡◌, ◌≢◌, ◌∙◌, ℕ, ◌≤◌, ◌==◌, Bool, true, false, cond, not, ◌||◌, List, [], ◌++◌, length, take, refl, sym, ap, subst, arith, length-append}
use Rattle.std.specs.Prelude.{nat_eq}
use Rattle.std.specs.List.{flat_map}
use Rattle.std.proofs.lemmas.Bool.{eq-eqb, eqb-true}
use Rattle.std.proofs.lemmas.List.{map-append, nil_from_length}
use Rattle.std.proofs.lemmas.List.Concat.{flat_map-append}
use Rattle.std.proofs.lemmas.List.Folds.{list_any-append}
use Rattle.kv_nand.specs.Flash.{Image}
use Rattle.kssd_layout.specs.Laws.{blocks_for}
use Rattle.kssd_entry.specs.declared.entry.Entry.{Entry}
use Rattle.kssd_model.specs.declared.runs.RunInfo.{RunInfo}
use Rattle.kssd_model.specs.Rising.{is_rising, is_gone, merged}
use Rattle.kssd_model.specs.RunPages.{AreRunBlocks}
use Rattle.kssd_model.proofs.RisingEntries.{is_rising-filter}
use Rattle.kssd_image.specs.Stages.{runs_map}
use Rattle.kssd_run.specs.declared.writer.RunWriter.{RunWriter}
use Rattle.kssd_run.specs.declared.reader.Run.{Run}
use Rattle.kssd_run.specs.Run.{run_info}
use Rattle.kssd_run.specs.Writing.{IsStarted}
use Rattle.kssd_levels.specs.declared.kind.JobKind.{JobKind}
use Rattle.kssd_levels.specs.declared.kind.JobKind.TheVariants.{Flush, Zero, One, Collect}
use Rattle.kssd_levels.specs.declared.levels.Levels.{Levels}
use Rattle.kssd_levels.specs.Runs.{infos_in, blocks_in, has_block, StandRuns}
use Rattle.kssd_levels.specs.Levels.{device_of, named_blocks, free_blocks_of, inputs_of, target_of, kept_by, StandLevels}
use Rattle.kssd_levels.proofs.Layers.{stand_join}
use Rattle.kssd_levels.proofs.Lookups.{rising_runs}
use Rattle.kssd_compact.specs.declared.job.Job.{Job}
use Rattle.kssd_compact.specs.declared.source.Inputs.{Inputs}
use Rattle.kssd_compact.specs.declared.source.Source.{Source}
use Rattle.kssd_compact.specs.Inputs.{inputs_rest}
use Rattle.kssd_compact.specs.Source.{source_rest, source_houses, StandsSource}
use Rattle.kssd_compact.specs.Steps.{Begins}
use Rattle.kssd_compact.specs.Job.{IsJob, IsStartedJob, goal_of, job_blocks, inputs_total}
use Rattle.kssd_compact.proofs.Jobs.{kept_nothing}
use Rattle.kssd_compact.proofs.Sizes.{runs_length, kept_length, merged_nothing}

-- a table's entries, which only a flush has
pub record IsTable (kind : JobKind) (frozen : List Entry) : Type 0 where
  pub kind_is : kind ≢ Collect
  pub rising : is_rising frozen ≡ true
  pub none : kind ≢ Flush → frozen ≡ []

merged_is : (kind : JobKind) (frozen : List Entry) (levels : Levels) (image : Image) → IsTable kind frozen → kept_by kind (merged frozen (runs_map image (infos_in (inputs_of kind levels)))) ≡ goal_of kind frozen levels image
merged_is Flush frozen levels image h = merged_nothing frozen h.rising
merged_is Zero frozen levels image h = ap (λ (xs : List Entry). kept_by Zero (merged xs (runs_map image (infos_in (inputs_of Zero levels))))) (h.none (λ e. cc))
merged_is One frozen levels image h = ap (λ (xs : List Entry). kept_by One (merged xs (runs_map image (infos_in (inputs_of One levels))))) (h.none (λ e. cc))
merged_is Collect frozen levels image h = absurd (h.kind_is refl)

inputs_stand : (kind : JobKind) (levels : Levels) (device : ℕ) (image : Image) → StandLevels levels device image → StandRuns (inputs_of kind levels) device image
inputs_stand Flush levels device image h = tt
inputs_stand Zero levels device image h = stand_join levels.zero levels.one device image h.zero h.one
inputs_stand One levels device image h = stand_join levels.one levels.base device image h.one h.base
inputs_stand Collect levels device image h = tt

inputs_few : (kind : JobKind) (levels : Levels) → length (inputs_of kind levels) ≤ 6
inputs_few Flush levels = omega arith
inputs_few Zero levels = omega (arith, length-append levels.zero levels.one, levels.sound.zero_few, levels.sound.one_few)
inputs_few One levels = omega (arith, length-append levels.one levels.base, levels.sound.one_few, levels.sound.base_few)
inputs_few Collect levels = omega arith

goal_rising : (kind : JobKind) (frozen : List Entry) (levels : Levels) (device : ℕ) (image : Image) → IsTable kind frozen → StandLevels levels device image → is_rising (goal_of kind frozen levels image) ≡ true
goal_rising Flush frozen levels device image h stand = h.rising
goal_rising Zero frozen levels device image h stand = rising_runs (inputs_of Zero levels) device image (inputs_stand Zero levels device image stand)
goal_rising One frozen levels device image h stand = is_rising-filter (λ entry. not (is_gone entry)) (runs_map image (infos_in (inputs_of One levels))) (rising_runs (inputs_of One levels) device image (inputs_stand One levels device image stand))
goal_rising Collect frozen levels device image h stand = refl

goal_few : (kind : JobKind) (frozen : List Entry) (levels : Levels) (device : ℕ) (image : Image) → StandLevels levels device image → length (goal_of kind frozen levels image) ≤ inputs_total kind frozen levels
goal_few Flush frozen levels device image stand = omega arith
goal_few Zero frozen levels device image stand = omega (arith, runs_length (inputs_of Zero levels) device image (inputs_stand Zero levels device image stand))
goal_few One frozen levels device image stand = omega (arith, kept_length (runs_map image (infos_in (inputs_of One levels))), runs_length (inputs_of One levels) device image (inputs_stand One levels device image stand))
goal_few Collect frozen levels device image stand = omega arith

-- ---- the blocks of the inputs are named

blocks_join : (xs ys : List Run) → blocks_in (xs ++ ys) ≡ blocks_in xs ++ blocks_in ys
blocks_join xs ys = ap (flat_map (λ (info : RunInfo). info.blocks)) (map-append run_info xs ys) ∙ flat_map-append (λ (info : RunInfo). info.blocks) (infos_in xs) (infos_in ys)

neither : (a b : Bool) → (a || b) ≡ false → (a ≡ false) × (b ≡ false)
neither true b h = absurd cc
neither false b h = (refl, h)

both_none : (a b : Bool) → a ≡ false → b ≡ false → (a || b) ≡ false
both_none true b h g = absurd cc
both_none false b h g = g

split_none : (xs ys : List Run) (block : ℕ) → has_block (blocks_in (xs ++ ys)) block ≡ false → (has_block (blocks_in xs) block ≡ false) × (has_block (blocks_in ys) block ≡ false)
split_none xs ys block h = neither _ _ (sym (ap (λ (bs : List ℕ). has_block bs block) (blocks_join xs ys) ∙ list_any-append (nat_eq block) (blocks_in xs) (blocks_in ys)) ∙ h)

join_none : (xs ys : List Run) (block : ℕ) → has_block (blocks_in xs) block ≡ false → has_block (blocks_in ys) block ≡ false → has_block (blocks_in (xs ++ ys)) block ≡ false
join_none xs ys block h g = ap (λ (bs : List ℕ). has_block bs block) (blocks_join xs ys) ∙ list_any-append (nat_eq block) (blocks_in xs) (blocks_in ys) ∙ both_none _ _ h g

inputs_none : (kind : JobKind) (levels : Levels) (block : ℕ) → has_block (named_blocks levels) block ≡ false → has_block (blocks_in (inputs_of kind levels)) block ≡ false
inputs_none Flush levels block h = refl
inputs_none Zero levels block h =
    let upper = split_none levels.zero (levels.one ++ levels.base) block h in
    join_none levels.zero levels.one block upper.0 (split_none levels.one levels.base block upper.1).0
inputs_none One levels block h = (split_none levels.zero (levels.one ++ levels.base) block h).1
inputs_none Collect levels block h = refl

-- ---- the job

-- what a job begins with
pub record IsBeginning (kind : JobKind) (levels : Levels) (frozen : List Entry) (number : ℕ) (inputs : Inputs) (total : ℕ) (blocks : List ℕ) (writer : RunWriter) (job : Job) : Type 0 where
  pub table : IsTable kind frozen
  pub entries : inputs.entries ≡ frozen
  pub runs : inputs.runs ≡ inputs_of kind levels
  pub total_is : total ≡ inputs_total kind frozen levels
  pub room : kind ≡ Flush → length levels.zero ≤ 3
  pub count : length blocks ≡ blocks_for total
  pub lowest : blocks ≡ take (blocks_for total) (free_blocks_of levels)
  pub own : AreRunBlocks (device_of levels) blocks
  pub apart : (block : ℕ) → has_block blocks block ≡ true → has_block (named_blocks levels) block ≡ false
  pub started : IsStarted (target_of kind) number blocks writer
  pub begins : Begins kind inputs writer total job

rest_is : (kind : JobKind) (frozen : List Entry) (levels : Levels) (inputs : Inputs) (image : Image) → IsTable kind frozen → inputs.entries ≡ frozen → inputs.runs ≡ inputs_of kind levels → kept_by kind (inputs_rest inputs image) ≡ goal_of kind frozen levels image
rest_is kind frozen levels inputs image h entries runs =
    ap (λ (xs : List Entry). kept_by kind (merged xs (runs_map image (infos_in inputs.runs)))) entries
    ∙ ap (λ (rs : List Run). kept_by kind (merged frozen (runs_map image (infos_in rs)))) runs
    ∙ merged_is kind frozen levels image h

parts_are : (kind : JobKind) (goal : List Entry) (s : Source) (image : Image) (total : ℕ) (ended : Bool) → ended ≡ (total == 0) → length goal ≤ total → kept_by kind (source_rest s image) ≡ goal → kept_by kind (cond ended [] (source_rest s image)) ≡ goal
parts_are kind goal s image total true e few rest =
    let none : total ≡ 0 = eqb-true total 0 (sym e) in
    kept_nothing kind ∙ sym (nil_from_length goal (omega arith))
parts_are kind goal s image total false e few rest = rest

blocks_are : (kind : JobKind) (levels : Levels) (frozen : List Entry) (number : ℕ) (inputs : Inputs) (total : ℕ) (blocks : List ℕ) (writer : RunWriter) (job : Job) → IsBeginning kind levels frozen number inputs total blocks writer job → job_blocks job ≡ blocks
blocks_are kind levels frozen number inputs total blocks writer job b = b.begins.place.blocks ∙ b.started.blocks_are

stands_at_start : (kind : JobKind) (levels : Levels) (frozen : List Entry) (number : ℕ) (inputs : Inputs) (total : ℕ) (blocks : List ℕ) (writer : RunWriter) (job : Job) (image : Image) → IsBeginning kind levels frozen number inputs total blocks writer job → StandLevels levels (device_of levels) image → IsJob job (goal_of kind frozen levels image) (device_of levels) image
stands_at_start kind levels frozen number inputs total blocks writer job image b stand =
    let own = blocks_are kind levels frozen number inputs total blocks writer job b in
    let few = goal_few kind frozen levels (device_of levels) image stand in
    let goal = goal_of kind frozen levels image in
    let rest : kept_by kind (source_rest job.source image) ≡ goal = ap (λ (s : Source). kept_by kind (source_rest s image)) b.begins.source_is ∙ rest_is kind frozen levels inputs image b.table b.entries b.runs in
    record {
      fed = [];
      device_is = (levels.layout.exact.least, levels.layout.exact.most);
      writes = b.begins.writes image [] (b.started.writes image);
      parts = ap (λ (k : JobKind). kept_by k (cond job.ended [] (source_rest job.source image))) b.begins.kind_is ∙ parts_are kind goal job.source image total job.ended b.begins.ended_is (omega (arith, few, b.total_is)) rest;
      rising = goal_rising kind frozen levels (device_of levels) image b.table stand;
      stands = λ e. subst (λ (s : Source). StandsSource s (device_of levels) image) (sym b.begins.source_is) (record {
        rising = ap is_rising b.entries ∙ b.table.rising;
        few = omega (arith, ap length b.runs, inputs_few kind levels);
        runs = subst (λ (rs : List Run). StandRuns rs (device_of levels) image) (sym b.runs) (inputs_stand kind levels (device_of levels) image stand);
      });
      closed = b.begins.closed ∙ sym b.begins.ended_is;
      blocks = subst (AreRunBlocks (device_of levels)) (sym own) b.own;
      apart = λ block has.
          ap (λ (s : Source). has_block (source_houses s) block) b.begins.source_is
          ∙ ap (λ (rs : List Run). has_block (blocks_in rs) block) b.runs
          ∙ inputs_none kind levels block (b.apart block (ap (λ (bs : List ℕ). has_block bs block) (sym own) ∙ has));
      size = ap length own ∙ b.count ∙ sym (ap blocks_for b.begins.total_is);
      few = omega (arith, few, b.total_is, b.begins.total_is);
      none = λ e. b.begins.ended_is ∙ eq-eqb total 0 (sym b.begins.total_is ∙ e);
      begun = omega (arith, b.begins.place.begun, b.started.begun);
    }

pub is_started : (kind : JobKind) (levels : Levels) (frozen : List Entry) (number : ℕ) (inputs : Inputs) (total : ℕ) (blocks : List ℕ) (writer : RunWriter) (job : Job) → IsBeginning kind levels frozen number inputs total blocks writer job → IsStartedJob kind levels frozen number job
is_started kind levels frozen number inputs total blocks writer job b =
    let own = blocks_are kind levels frozen number inputs total blocks writer job b in
    record {
      over = record {
        kind_some = b.table.kind_is;
        room = b.room;
        kind_is = b.begins.kind_is;
        level = b.begins.place.level ∙ b.started.level_is;
        free = λ block has. b.apart block (ap (λ (bs : List ℕ). has_block bs block) (sym own) ∙ has);
      };
      number_is = b.begins.place.number ∙ b.started.number_is;
      total = b.begins.total_is ∙ b.total_is;
      steps = omega (arith, b.begins.place.pages, b.begins.place.begun, b.started.pages, b.started.begun);
      inputs = ap source_houses b.begins.source_is ∙ ap blocks_in b.runs;
      blocks = own ∙ b.lowest ∙ ap (λ (n : ℕ). take (blocks_for n) (free_blocks_of levels)) b.total_is;
      stands = λ image stand. ∣ stands_at_start kind levels frozen number inputs total blocks writer job image b stand ∣₁;
    }
