-- A job from its begin to the anchor that names its run.
use Rattle.std.proofs.Common.{true, false, ◌≡◌, ◌≢◌, ◌⊎◌, ◌∙◌, ℕ, ◌+◌, ◌≤◌, ◌/◌, Bool, cond, List, [], ◌∷◌, ◌++◌, length, refl, sym, ap, subst, arith, inl, inr, append_assoc}
use Rattle.std.specs.Prelude.{nat_eq, ◌==◌}
use Rattle.std.specs.List.{list_any}
use Rattle.std.proofs.Math.Logic.{∥∥₁_map}
use Rattle.std.proofs.lemmas.Bool.{false≢true}
use Rattle.kv_nand.specs.Flash.{Image, Flash}
use Rattle.kssd_layout.specs.Numbers.{region_in, max_keys_in}
use Rattle.kssd_layout.specs.Laws.{pages_for, blocks_for}
use Rattle.kssd_layout.specs.declared.region.Region.TheVariants as regions
use Rattle.kssd_entry.specs.declared.entry.Entry.{Entry}
use Rattle.kssd_model.specs.declared.anchor.Anchor.{Anchor}
use Rattle.kssd_model.specs.declared.runs.RunInfo.{RunInfo}
use Rattle.kssd_model.specs.Rising.{is_rising, merged}
use Rattle.kssd_image.specs.Stages.{without_marks}
use Rattle.kssd_image.specs.AnchorForm.{blocks_of, most_entries, run_numbers}
use Rattle.kssd_merge.specs.Same.{AreSameIn}
use Rattle.kssd_run.specs.declared.reader.Run.{Run}
use Rattle.kssd_run.specs.Run.{run_info}
use Rattle.kssd_levels.specs.declared.kind.JobKind.{JobKind}
use Rattle.kssd_levels.specs.declared.kind.JobKind.TheVariants.{Flush, Zero, One, Collect}
use Rattle.kssd_levels.specs.declared.levels.Levels.{Levels}
use Rattle.kssd_levels.specs.Runs.{blocks_in, has_block}
use Rattle.kssd_levels.specs.Levels.{infos_of, levels_map, named_blocks, first_entries, inputs_of, target_of, StandLevels, Installs, Keeps}
use Rattle.kssd_compact.specs.declared.job.Job.{Job}
use Rattle.kssd_compact.specs.Job.{goal_of, IsStartedJob, IsMade, StandsJob, CanStepJob, job_blocks, steps_most}
use Rattle.kssd_compact.specs.Finishing.{GoesOn}
use Rattle.kssd_compact.proofs.Jobs.{jobs_stay, blocks_of as own_blocks}
use Rattle.kssd_compact.proofs.Installable.{runs_may_be_installed}
use Rattle.kssd_root.specs.declared.root.Root.{Root}
use Rattle.kssd_root.specs.Costs.{run_cost}
use Rattle.kssd_root.specs.Standing.{IsRoot}
use Rattle.kssd_root.specs.Following.{KeepsNamed, IsNewRun}
use Rattle.kssd_root.specs.UnderWay.{IsUnderWay, IsFlushing}
use Rattle.kssd_root.proofs.Installed.{IsDone, goal_most, number_free, goal_same, named_same, known, over_still, may_follow}
use Rattle.kssd_root.proofs.Layers.{same_in_first, same_in_second}
use Rattle.kssd_root.proofs.Moving.{IsRun}
use Rattle.kssd_root.proofs.Runs.{in_region, named_is_run}
use Rattle.kssd_root.proofs.RunsWritten.{keeps_named, regions_all}
use Rattle.kssd_root.proofs.Written.{stands_at, total_most}

-- ---- it begins

pub way_begun : (kind : JobKind) (table : List Entry) (root : Root) (job : Job) → (kind ≡ Zero → first_entries root.levels.one ≤ 4096) → IsStartedJob kind root.levels table root.anchor.next_run job → (blocks : ℕ) (image : Image) → IsRoot root blocks image → IsUnderWay kind job table root blocks image
way_begun kind table root job few started blocks image h = record {
  over = started.over;
  few = few;
  number = started.number_is;
  inputs = started.inputs;
  total = started.total;
  stands = stands_at kind root.levels table root.anchor.next_run blocks image job started h.runs.stand;
}

-- ---- what it needs of an image

pub way_can : (kind : JobKind) (job : Job) (table : List Entry) (root : Root) (blocks : ℕ) (image : Image) → IsUnderWay kind job table root blocks image → CanStepJob job blocks image
way_can kind job table root blocks image h = ∥∥₁_map h.stands (λ j. (goal_of kind table root.levels image, j))

none_same : (old new : Image) → AreSameIn (blocks_in []) old new
none_same old new page has = absurd (false≢true has)

inputs_same : (kind : JobKind) (levels : Levels) (old new : Image) → AreSameIn (named_blocks levels) old new → AreSameIn (blocks_in (inputs_of kind levels)) old new
inputs_same Flush levels old new same = none_same old new
inputs_same Zero levels old new same =
    same_in_first (levels.zero ++ levels.one) levels.base old new (subst (λ (rs : List Run). AreSameIn (blocks_in rs) old new) (sym (append_assoc levels.zero levels.one levels.base)) same)
inputs_same One levels old new same = same_in_second levels.zero (levels.one ++ levels.base) old new same
inputs_same Collect levels old new same = none_same old new

-- it stands wherever its blocks and those of the levels stay
pub way_stays : (kind : JobKind) (job : Job) (table : List Entry) (root : Root) (blocks : ℕ) (old new : Image) → StandLevels root.levels blocks old → AreSameIn (job_blocks job) old new → AreSameIn (named_blocks root.levels) old new → IsUnderWay kind job table root blocks old → IsUnderWay kind job table root blocks new
way_stays kind job table root blocks old new stand own named h = record {
  over = h.over;
  few = h.few;
  number = h.number;
  inputs = h.inputs;
  total = h.total;
  stands = subst (λ (es : List Entry). StandsJob job es blocks new) (sym (goal_same kind root.levels table blocks old new stand named))
      (jobs_stay job (goal_of kind table root.levels old) blocks old new own (subst (λ (bs : List ℕ). AreSameIn bs old new) (sym h.inputs) (inputs_same kind root.levels old new named)) h.stands);
}

-- and where nothing is written in blocks for runs
pub way_beside : (kind : JobKind) (job : Job) (table : List Entry) (root : Root) (blocks : ℕ) (old new : Image) → ((q : ℕ) → region_in blocks (q / 32) ≡ regions.Run → new q ≡ old q) → IsRoot root blocks old → IsUnderWay kind job table root blocks old → IsUnderWay kind job table root blocks new
way_beside kind job table root blocks old new same h way =
    way_stays kind job table root blocks old new h.runs.stand
    (λ page has. same page (in_region blocks (page / 32) (job_blocks job) (regions_all blocks (job_blocks job) (own_blocks job blocks old (way_can kind job table root blocks old way))) has))
    (λ page has. same page (named_is_run blocks (page / 32) root.anchor.runs h.anchored.index.form.runs (ap (λ (infos : List RunInfo). list_any (nat_eq (page / 32)) (blocks_of infos)) (sym h.runs.named) ∙ has)))
    way

-- ---- how many steps it has

pub way_steps : (kind : JobKind) (job : Job) (table : List Entry) (root : Root) (blocks : ℕ) (image : Image) → IsRoot root blocks image → length table ≤ 2048 → (kind ≢ Flush → table ≡ []) → IsUnderWay kind job table root blocks image → steps_most job ≤ run_cost kind blocks
way_steps kind job table root blocks image h few none way =
    let most = total_most kind root.levels table blocks h.runs.stand.device_is way.over.kind_some few none way.few in
    omega (arith, ap (λ (n : ℕ). pages_for n + blocks_for n) way.total, most)

-- ---- some steps are done

-- they change no block of the levels
pub way_named : (kind : JobKind) (job : Job) (table : List Entry) (root : Root) (blocks : ℕ) (old new : Image) → IsUnderWay kind job table root blocks old → ((page : ℕ) → has_block (job_blocks job) (page / 32) ≡ false → new page ≡ old page) → KeepsNamed blocks (named_blocks root.levels) old new
way_named kind job table root blocks old new h outside =
    keeps_named blocks (job_blocks job) (named_blocks root.levels) old new (own_blocks job blocks old (way_can kind job table root blocks old h)) h.over.free outside

pub way_on : (kind : JobKind) (job on : Job) (table : List Entry) (root : Root) (before after : Flash) → IsRoot root before.blocks before.image → after.blocks ≡ before.blocks → GoesOn job before on after → IsUnderWay kind job table root before.blocks before.image → IsUnderWay kind on table root before.blocks after.image
way_on kind job on table root before after h same goes way = record {
  over = record {
    kind_some = way.over.kind_some;
    room = way.over.room;
    kind_is = goes.same.kind ∙ way.over.kind_is;
    level = goes.same.level ∙ way.over.level;
    free = λ block has. way.over.free block (ap (λ (bs : List ℕ). has_block bs block) (sym goes.same.blocks) ∙ has);
  };
  few = way.few;
  number = goes.same.number ∙ way.number;
  inputs = goes.same.inputs ∙ way.inputs;
  total = goes.same.total ∙ way.total;
  stands = subst (λ (es : List Entry). StandsJob on es before.blocks after.image) (sym (goal_same kind root.levels table before.blocks before.image after.image h.runs.stand named))
      (subst (λ (d : ℕ). StandsJob on (goal_of kind table root.levels before.image) d after.image) same (goes.stands (goal_of kind table root.levels before.image) way.stands));
}
  where
    named : AreSameIn (named_blocks root.levels) before.image after.image
    named = named_same before.blocks root.levels before.image after.image (way_named kind job table root before.blocks before.image after.image way goes.outside)

-- ---- it is done

pub way_done : (kind : JobKind) (job : Job) (run : Run) (table : List Entry) (root : Root) (blocks : ℕ) (image : Image) → IsRoot root blocks image → length table ≤ 2048 → IsUnderWay kind job table root blocks image → IsMade job run → IsNewRun kind root.anchor.next_run root.levels (goal_of kind table root.levels image) run blocks image
way_done kind job run table root blocks image h few way made = record {
  may = runs_may_be_installed kind root.levels job run goal image way.over (subst (λ (d : ℕ). StandsJob job goal d image) h.runs.stand.device_is way.stands) made
      (subst (λ (d : ℕ). length goal ≤ most_entries d (target_of kind)) h.runs.stand.device_is (goal_most kind root.page root.anchor root.levels table blocks image h.anchored h.runs few way.few))
      (ap (has_block (run_numbers (infos_of root.levels))) way.number ∙ number_free root.page root.anchor root.levels blocks image h.anchored h.runs);
  number_is = made.number ∙ way.number;
  entries = made.entries goal blocks image way.stands;
  stands = made.stands goal blocks image way.stands;
}
  where
    goal : List Entry
    goal = goal_of kind table root.levels image

-- the levels of a root with what a job wrote
pub job_run : (kind : JobKind) (job : Job) (run : Run) (table : List Entry) (root : Root) (levels : Levels) (blocks : ℕ) (image : Image) → length table ≤ 2048 → (kind ≡ Flush → is_rising table ≡ true) → (kind ≡ Flush → length (without_marks (merged table (levels_map root.levels image))) ≤ max_keys_in blocks)
    → IsRoot root blocks image → IsUnderWay kind job table root blocks image → IsMade job run → Installs kind run root.levels levels → Keeps kind run root.levels levels → IsRun kind table root blocks image (record root { levels = levels }) image
job_run kind job run table root levels blocks image most rising few h way made installs keeps = record {
  root_is = h;
  same = refl;
  follow = may_follow kind root.page root.anchor table root.levels run levels blocks image image done;
  over = over_still kind root.page root.anchor table root.levels run levels blocks image image way.over.kind_some (known kind root.page root.anchor table root.levels run levels blocks image image done);
  named = λ q has. refl;
}
  where
    done : IsDone kind root.page root.anchor table root.levels run levels blocks image image
    done = record {
      some = way.over.kind_some;
      anchored = h.anchored;
      runs = h.runs;
      rising = rising;
      few = few;
      named = λ q has. refl;
      made = way_done kind job run table root blocks image h most way made;
      installs = installs;
      keeps = keeps;
    }

no_flush : (kind : JobKind) → (kind ≡ Zero) ⊎ (kind ≡ One) → kind ≡ Flush → ⊥
no_flush kind which flush = elim which [ inl e ↦ let f : Zero ≡ Flush = sym e ∙ flush in cc | inr e ↦ let f : One ≡ Flush = sym e ∙ flush in cc ]

-- with what a merge wrote in place of what it read
pub merge_run : (kind : JobKind) (job : Job) (run : Run) (root : Root) (levels : Levels) (blocks : ℕ) (image : Image) → (kind ≡ Zero) ⊎ (kind ≡ One) → IsRoot root blocks image → IsUnderWay kind job [] root blocks image → IsMade job run → Installs kind run root.levels levels → Keeps kind run root.levels levels
    → IsRun kind [] root blocks image (record root { levels = levels }) image
merge_run kind job run root levels blocks image which h way made installs keeps =
    job_run kind job run [] root levels blocks image (omega arith) (λ flush. absurd (no_flush kind which flush)) (λ flush. absurd (no_flush kind which flush)) h way made installs keeps

-- and with the table that a flush wrote
pub flush_run : (job : Job) (run : Run) (later : Anchor) (root : Root) (levels : Levels) (blocks : ℕ) (image : Image) → IsRoot root blocks image → (flush : IsFlushing job later root blocks image) → IsMade job run → Installs Flush run root.levels levels → Keeps Flush run root.levels levels
    → IsRun Flush flush.table root blocks image (record root { levels = levels }) image
flush_run job run later root levels blocks image h flush made installs keeps =
    job_run Flush job run flush.table root levels blocks image flush.few (λ e. flush.split.rising) (λ e. flush.split.keys) h flush.way made installs keeps

-- ---- how many runs there are after a flush

few_written : (none : Bool) (run : Run) (runs : List Run) → length (cond none [] (run ∷ []) ++ runs) ≤ length runs + 1
few_written true run runs = omega arith
few_written false run runs = omega arith

pub one_more_run : (run : Run) (old mid new : Levels) → new ≡ mid → Installs Flush run old mid → length new.zero ≤ length old.zero + 1
one_more_run run old mid new same installs =
    subst (λ (runs : List Run). length runs ≤ length old.zero + 1) (sym (ap (λ (l : Levels). l.zero) same ∙ installs.0)) (few_written ((run_info run).entries == 0) run old.zero)
