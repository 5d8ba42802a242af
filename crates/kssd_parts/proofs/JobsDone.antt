-- Jobs that are done over levels that stand.
use Rattle.std.proofs.Common.{◌≡◌, ◌∙◌, ℕ, zero, suc, ◌/◌, ◌<◌, ◌≤◌, Bool, true, false, ◌||◌, List, [], ◌∷◌, length, get_or, refl, sym, ap, subst, arith}
use Rattle.std.specs.Prelude.{nat_eq}
use Rattle.std.specs.List.{IsDistinct, IsDistinct-prop}
use Rattle.std.proofs.Props.{props}
use Rattle.std.proofs.Math.Logic.{∥∥₁_elim, ∥∥₁_map}
use Rattle.std.proofs.lemmas.Bool.{eq-eqb}
use Rattle.kv_nand.specs.Flash.{Image}
use Rattle.kssd_entry.specs.declared.entry.Entry.{Entry}
use Rattle.kssd_model.specs.declared.anchor.Anchor.{Anchor}
use Rattle.kssd_model.specs.declared.runs.RunInfo.{RunInfo}
use Rattle.kssd_merge.specs.Same.{AreSameIn}
use Rattle.kssd_image.specs.AnchorForm.{IsAnchorForm, AreOnLevels, IsRunForm, blocks_of, run_numbers, most_entries}
use Rattle.kssd_run.specs.declared.reader.Run.{Run}
use Rattle.kssd_run.specs.Run.{run_info, StandsRun}
use Rattle.kssd_levels.specs.declared.kind.JobKind.{JobKind}
use Rattle.kssd_levels.specs.declared.kind.JobKind.TheVariants.{Flush, Zero, One, Collect}
use Rattle.kssd_levels.specs.declared.levels.Levels.{Levels}
use Rattle.kssd_levels.specs.Runs.{has_block}
use Rattle.kssd_levels.specs.Levels.{device_of, named_blocks, infos_of, target_of, StandLevels, MayInstall}
use Rattle.kssd_levels.proofs.Staying.{levels_stay}
use Rattle.kssd_compact.specs.declared.job.Job.{Job}
use Rattle.kssd_compact.specs.Job.{IsJobOver, IsSameJob, IsStartedJob, goal_of, IsMade, StandsJob, CanStepJob, job_blocks, job_kind, job_number}
use Rattle.kssd_compact.proofs.Installable.{runs_may_be_installed}

no_runs : (runs : List RunInfo) → runs ≡ [] → AreOnLevels runs
no_runs runs e = subst AreOnLevels (sym e) (record {
  known = λ k d lt. absurd (omega arith);
  order = λ i j d lt within. absurd (omega arith);
  level_0 = omega arith;
  level_1 = omega arith;
  base = omega arith;
})

-- an anchor without runs is in form
pub empty_form : (blocks : ℕ) (anchor : Anchor) → anchor.blocks ≡ blocks → anchor.log_block ≡ 2 → anchor.runs ≡ [] → IsAnchorForm blocks anchor
unfolding IsDistinct
empty_form blocks anchor device log none = record {
  device = device;
  log_low = omega (arith, log);
  log_high = omega (arith, log);
  levels = no_runs anchor.runs none;
  runs = λ k d lt. absurd (omega (arith, lt, ap length none));
  blocks_differ = subst (λ (runs : List RunInfo). IsDistinct nat_eq (blocks_of runs)) (sym none) tt;
  numbers_differ = subst (λ (runs : List RunInfo). IsDistinct nat_eq (run_numbers runs)) (sym none) tt;
  numbers_low = subst (λ (runs : List RunInfo). (k : ℕ) (d : ℕ) → k < length (run_numbers runs) → get_or (run_numbers runs) k d < anchor.next_run) (sym none) (λ k d lt. absurd (omega arith));
}

or_left : (a b : Bool) → a ≡ true → (a || b) ≡ true
or_left true b h = refl
or_left false b h = absurd cc

or_right : (a b : Bool) → b ≡ true → (a || b) ≡ true
or_right true b h = refl
or_right false b h = h

-- a number of one run is one of all
pub number_at : (infos : List RunInfo) (i : ℕ) (info : RunInfo) (number : ℕ) → i < length infos → info ≡ get_or infos i info → number ≡ info.number → has_block (run_numbers infos) number ≡ true
number_at [] i info number lt is e = absurd (omega arith)
number_at (x ∷ infos) zero info number lt is e = or_left _ _ (eq-eqb number x.number (e ∙ ap (λ (y : RunInfo). y.number) is))
number_at (x ∷ infos) (suc i) info number lt is e = or_right _ _ (number_at infos i info number (omega arith) is e)

not_true : (b : Bool) → (b ≡ true → ⊥) → b ≡ false
not_true true h = absurd (h refl)
not_true false h = refl

-- what is written in the job's blocks leaves the levels
pub named_same : (first job : Job) (levels : Levels) (old new : Image) → IsJobOver (job_kind first) levels first → IsSameJob first job → ((page : ℕ) → has_block (job_blocks job) (page / 32) ≡ false → new page ≡ old page) → AreSameIn (named_blocks levels) old new
named_same first job levels old new over same outside page named =
    outside page (not_true _ (λ own. let e : true ≡ false = sym named ∙ over.free (page / 32) (ap (λ (bs : List ℕ). has_block bs (page / 32)) (sym same.blocks) ∙ own) in cc))

pub still_stand : (first job : Job) (levels : Levels) (device now : ℕ) (old new : Image) → IsJobOver (job_kind first) levels first → IsSameJob first job → ((page : ℕ) → has_block (job_blocks job) (page / 32) ≡ false → new page ≡ old page) → now ≡ device → StandLevels levels device old → StandLevels levels now new
still_stand first job levels device now old new over same outside e h = subst (λ (n : ℕ). StandLevels levels n new) (sym e) (levels_stay levels device old new (named_same first job levels old new over same outside) h).0

pub same_job : (job : Job) → IsSameJob job job
same_job job = record { kind = refl; level = refl; number = refl; total = refl; blocks = refl; inputs = refl }

pub same_then : (a b c : Job) → IsSameJob a b → IsSameJob b c → IsSameJob a c
same_then a b c ab bc = record { kind = bc.kind ∙ ab.kind; level = bc.level ∙ ab.level; number = bc.number ∙ ab.number; total = bc.total ∙ ab.total; blocks = bc.blocks ∙ ab.blocks; inputs = bc.inputs ∙ ab.inputs }

-- one step more
pub steps_on : (old new : Job) (device now : ℕ) (before after : Image) → ((goal : List Entry) → StandsJob old goal device before → StandsJob new goal now after) → CanStepJob old device before → CanStepJob new now after
steps_on old new device now before after step h = ∥∥₁_elim h squash₁ (λ p. ∥∥₁_map (step p.0 ∣ p.1 ∣₁) (λ j. (p.0, j)))

over_same : (kind : JobKind) (first job : Job) (levels : Levels) → IsJobOver kind levels first → IsSameJob first job → IsJobOver kind levels job
over_same kind first job levels over same = record {
  kind_some = over.kind_some;
  room = over.room;
  kind_is = same.kind ∙ over.kind_is;
  level = same.level ∙ over.level;
  free = λ block own. over.free block (ap (λ (bs : List ℕ). has_block bs block) (sym same.blocks) ∙ own);
}

form-prop : (device : ℕ) (info : RunInfo) → IsProp (IsRunForm device info)
form-prop device info = Prim.hlevel props

install-prop : (kind : JobKind) (run : Run) (levels : Levels) → IsProp (MayInstall kind run levels)
install-prop kind run levels = Prim.hlevel (props, IsDistinct-prop, form-prop)

run-prop : (run : Run) (device : ℕ) (image : Image) → IsProp (StandsRun run device image)
run-prop run device image = Prim.hlevel props

least : (kind : JobKind) (device : ℕ) → 256 ≤ device → 100 ≤ most_entries device (target_of kind)
least Flush device h = omega arith
least Zero device h = omega arith
least One device h = omega arith
least Collect device h = omega arith

-- the run of a job that is done
pub done_run : (first job : Job) (run : Run) (levels : Levels) (device : ℕ) (image : Image) → IsJobOver (job_kind first) levels first → IsSameJob first job → StandLevels levels device image → has_block (run_numbers (infos_of levels)) (job_number first) ≡ false → CanStepJob job device image → IsMade job run → (run_info run).entries ≤ 100 → MayInstall (job_kind first) run levels × StandsRun run device image
done_run first job run levels device image over same stand fresh h made few = (
  ∥∥₁_elim h (install-prop (job_kind first) run levels) (λ p.
      let goal = p.0 in
      let stands = made.stands goal device image ∣ p.1 ∣₁ in
      let are = made.entries goal device image ∣ p.1 ∣₁ in
      let there = subst (λ (n : ℕ). StandsJob job goal n image) stand.device_is ∣ p.1 ∣₁ in
      runs_may_be_installed (job_kind first) levels job run goal image (over_same (job_kind first) first job levels over same) there made
      (omega (arith, ap length are, stands.run_in.count, least (job_kind first) (device_of levels) levels.layout.exact.least))
      (ap (has_block (run_numbers (infos_of levels))) same.number ∙ fresh)),
  ∥∥₁_elim h (run-prop run device image) (λ p. made.stands p.0 device image ∣ p.1 ∣₁),
)

-- a job that was started
pub starts : (kind : JobKind) (levels : Levels) (frozen : List Entry) (number : ℕ) (job : Job) (device : ℕ) (image : Image) → IsStartedJob kind levels frozen number job → StandLevels levels device image → CanStepJob job device image
starts kind levels frozen number job device image h stand =
    let there = subst (λ (n : ℕ). StandLevels levels n image) stand.device_is stand in
    subst (λ (n : ℕ). CanStepJob job n image) (sym stand.device_is) (∥∥₁_map (h.stands image there) (λ j. (goal_of kind frozen levels image, j)))
