-- A job from one step to the next.
use Rattle.std.proofs.Common.{◌≡◌, ◌≢◌, ◌∙◌, ℕ, zero, suc, ◌+◌, ◌*◌, ◌/◌, ◌<◌, ◌≤◌, Bool, true, false, cond, not, ◌&&◌, List, [], ◌++◌, length, refl, sym, ap, subst, arith, inl, inr, append_assoc, length-append}
use Rattle.std.specs.Prelude.{nat_eq}
use Rattle.std.proofs.Props.{props}
use Rattle.std.proofs.Math.Logic.{∥∥₁_elim, ∥∥₁_map}
use Rattle.std.specs.Coded.{le_prop}
use Rattle.std.proofs.lemmas.Bool.{eq-eqb, cases_lt}
use Rattle.std.proofs.lemmas.List.{append-nil}
use Rattle.std.proofs.lemmas.List.Folds.{list_any_at}
use Rattle.kv_nand.specs.Flash.{Image, Flash}
use Rattle.kssd_layout.specs.Laws.{blocks_for}
use Rattle.kssd_entry.specs.declared.entry.Entry.{Entry}
use Rattle.kssd_model.specs.OnlyReading.{OnlyReads}
use Rattle.kssd_model.proofs.ReadingOn.{reads_image, reads_blocks}
use Rattle.kssd_model.specs.Rising.{is_rising}
use Rattle.kssd_model.specs.RunPages.{AreRunBlocks}
use Rattle.kssd_merge.specs.Same.{AreSameIn}
use Rattle.kssd_run.specs.declared.writer.RunWriter.{RunWriter}
use Rattle.kssd_run.specs.declared.reader.Run.{Run}
use Rattle.kssd_run.specs.Write.{waiting_pages}
use Rattle.kssd_run.specs.Writing.{Steps, CanStep, IsWritten, AreCounts, page_waits, pages_written, blocks_begun, run_blocks, next_block, entries_fed}
use Rattle.kssd_run.proofs.GoingOn.{rising_first}
use Rattle.kssd_run.proofs.Opened.{place_within}
use Rattle.kssd_run.proofs.Staying.{writes_stay, writer_counts}
use Rattle.kssd_levels.specs.declared.kind.JobKind.{JobKind}
use Rattle.kssd_levels.specs.declared.kind.JobKind.TheVariants.{Flush, Zero, One, Collect}
use Rattle.kssd_levels.specs.Runs.{has_block}
use Rattle.kssd_levels.specs.ReaderLaws.{same_pages}
use Rattle.kssd_levels.specs.StreamLaws.{stream_stays}
use Rattle.kssd_levels.specs.Levels.{kept_by}
use Rattle.kssd_levels.proofs.Staying.{runs_stay}
use Rattle.kssd_compact.specs.declared.job.Job.{Job}
use Rattle.kssd_compact.specs.declared.source.Source.{Source}
use Rattle.kssd_compact.specs.declared.source.Source.TheVariants as source
use Rattle.kssd_compact.specs.Source.{source_rest, StandsSource, source_houses}
use Rattle.kssd_compact.specs.Job.{IsJob, StandsJob, CanStepJob, IsMade, left_of, job_inputs, job_total, job_done, steps_done, steps_most}
use Rattle.kssd_compact.specs.Steps.{Fills, WritesOn}
use Rattle.kssd_compact.specs.Laws.{JobsFinish, JobsStay}
use Rattle.kssd_compact.proofs.Merely.{entries-prop, run-prop, run_blocks-prop}

-- ---- what is read stays

source_stays : (s : Source) (device : ℕ) (old new : Image) → AreSameIn (source_houses s) old new → StandsSource s device old → StandsSource s device new × (source_rest s new ≡ source_rest s old)
source_stays (source.Inputs inputs) device old new same h =
    let p = runs_stay inputs.runs device old new same h.runs in
    (record { rising = h.rising; few = h.few; runs = p.0 }, ap (Rattle.kssd_model.specs.Rising.merged inputs.entries) p.1)
source_stays (source.Stream stream) device old new same h = stream_stays stream device old new same h

left_cases : (ended : Bool) (s : Source) (device : ℕ) (old new : Image) → AreSameIn (source_houses s) old new → (ended ≡ false → StandsSource s device old) → (ended ≡ false → StandsSource s device new) × (cond ended [] (source_rest s new) ≡ cond ended [] (source_rest s old))
left_cases true s device old new same h = (λ e. absurd cc, refl)
left_cases false s device old new same h = let p = source_stays s device old new same (h refl) in (λ e. p.0, p.1)

-- ---- counts

fed_few : (job : Job) (goal : List Entry) (device : ℕ) (image : Image) → IsJob job goal device image → entries_fed job.writer ≤ job_total job
fed_few job goal device image j = omega (arith, j.writes.count, ap length j.parts, length-append j.fed (kept_by job.kind (left_of job image)), j.few)

-- a page that waits has room
pub room_left : (job : Job) (goal : List Entry) (device : ℕ) (image : Image) → page_waits job.writer ≡ true → IsJob job goal device image → pages_written job.writer < 32 * length (run_blocks job.writer)
room_left job goal device image waits j =
    let counts = writer_counts job.writer in
    let few = fed_few job goal device image j in
    let one = ap waiting_pages waits in
    omega (arith, counts.pages, few, one, j.size)

-- there are so many steps at most
pub few_steps : (job : Job) (goal : List Entry) (device : ℕ) (image : Image) → IsJob job goal device image → steps_done job ≤ steps_most job
few_steps job goal device image j =
    let counts = writer_counts job.writer in
    let few = fed_few job goal device image j in
    omega (arith, counts.pages, counts.housed.1, few, j.size)

not_ended : (a b : Bool) → (a && not b) ≡ false → b ≡ false → a ≡ false
not_ended true true h e = absurd cc
not_ended true false h e = absurd cc
not_ended false b h e = refl

positive : (n : ℕ) → (n ≡ 0 → ⊥) → 0 < n
positive zero h = absurd (h refl)
positive (suc n) h = omega arith

-- fewer were done while the run isn't written
pub more_steps : (job : Job) (goal : List Entry) (device : ℕ) (image : Image) → IsJob job goal device image → job_done job ≡ false → steps_done job < steps_most job
more_steps job goal device image j going = by (page_waits job.writer) refl
  where
    few : entries_fed job.writer ≤ job_total job
    few = fed_few job goal device image j

    counts : AreCounts job.writer
    counts = writer_counts job.writer

    by : (b : Bool) → page_waits job.writer ≡ b → steps_done job < steps_most job
    by true waits =
        let one = ap waiting_pages waits in
        omega (arith, counts.pages, counts.housed.1, few, one, j.size)
    by false waits =
        let none = ap waiting_pages waits in
        let open_ : job.writer.closed ≡ false = j.closed ∙ not_ended job.ended (page_waits job.writer) going waits in
        let full = job.writer.sound.full open_ in
        let some = job.writer.sound.some open_ in
        let reads : 0 < job_total job = positive (job_total job) (λ e. let f : true ≡ false = sym (j.none e) ∙ not_ended job.ended (page_waits job.writer) going waits in cc) in
        elim (cases_lt 0 job.writer.info.entries) [
          | inl fed ↦ let filled = some fed in omega (arith, full, filled, none, few, counts.housed.1, j.size)
          | inr nothing ↦ omega (arith, full, none, reads, j.begun, nothing)
        ]

-- ---- one step

has_next : (writer : RunWriter) → pages_written writer < 32 * length (run_blocks writer) → has_block (run_blocks writer) (next_block writer) ≡ true
has_next writer lt =
    let within : pages_written writer / 32 < length (run_blocks writer) = omega arith in
    list_any_at (nat_eq (next_block writer)) (run_blocks writer) (pages_written writer / 32) 0 within (eq-eqb (next_block writer) (next_block writer) refl)

other_block : (blocks : List ℕ) (next block : ℕ) → has_block blocks next ≡ true → has_block blocks block ≡ false → block ≢ next
other_block blocks next block has none e = let f : true ≡ false = sym has ∙ ap (has_block blocks) (sym e) ∙ none in cc

-- nothing outside the job's blocks is written
pub outside_blocks : (writer : RunWriter) (block : ℕ) → pages_written writer < 32 * length (run_blocks writer) → has_block (run_blocks writer) block ≡ false → block ≢ next_block writer
outside_blocks writer block lt none = other_block (run_blocks writer) (next_block writer) block (has_next writer lt) none

not_true : (b : Bool) → (b ≡ true → ⊥) → b ≡ false
not_true true h = absurd (h refl)
not_true false h = refl

pub inputs_same : (job : Job) (goal : List Entry) (device : ℕ) (before after : Image) → pages_written job.writer < 32 * length (run_blocks job.writer) → ((q : ℕ) → q / 32 ≢ next_block job.writer → after q ≡ before q) → IsJob job goal device before → AreSameIn (job_inputs job) before after
inputs_same job goal device before after lt outside j page has =
    outside page (outside_blocks job.writer (page / 32) lt (not_true _ (λ own. let e : true ≡ false = sym has ∙ j.apart (page / 32) own in cc)))

begun_after : (old new : RunWriter) (before after : Image) (done : Bool) → Steps old before done new after → 32 * blocks_begun new ≤ pages_written new + waiting_pages (page_waits new) + 31
begun_after old new before after true s =
    let p = s.programs refl in
    let none = ap waiting_pages s.waits in
    let counts = writer_counts old in
    omega (arith, p.0, p.1, none, counts.begun)
begun_after old new before after false s =
    let one = ap waiting_pages s.waits in
    let counts = writer_counts new in
    omega (arith, one, counts.begun)

-- a page was programmed or a block erased
pub job_writes : (old new : Job) (goal : List Entry) (device : ℕ) (before after : Image) → pages_written old.writer < 32 * length (run_blocks old.writer) → ((q : ℕ) → q / 32 ≢ next_block old.writer → after q ≡ before q) → WritesOn old before new after → IsJob old goal device before → IsJob new goal device after
job_writes old new goal device before after lt outside w j =
    let inputs = inputs_same old goal device before after lt outside j in
    let left = left_cases old.ended old.source device before after inputs j.stands in
    let same : left_of new after ≡ left_of old before = ap (λ (b : Bool). cond b [] (source_rest new.source after)) w.ended_is ∙ ap (λ (s : Source). cond old.ended [] (source_rest s after)) w.source_is ∙ left.1 in
    record {
      fed = j.fed;
      device_is = j.device_is;
      writes = w.steps.writes j.fed j.writes;
      parts = ap (λ (kind : JobKind). j.fed ++ kept_by kind (left_of new after)) w.kind_is ∙ ap (λ (xs : List Entry). j.fed ++ kept_by old.kind xs) same ∙ j.parts;
      rising = j.rising;
      stands = λ e. subst (λ (s : Source). StandsSource s device after) (sym w.source_is) (left.0 (sym w.ended_is ∙ e));
      closed = w.steps.closed ∙ j.closed ∙ sym w.ended_is;
      blocks = subst (AreRunBlocks device) (sym w.steps.blocks) j.blocks;
      apart = λ block own. ap (λ (s : Source). has_block (source_houses s) block) w.source_is ∙ j.apart block (ap (λ (bs : List ℕ). has_block bs block) (sym w.steps.blocks) ∙ own);
      size = ap length w.steps.blocks ∙ j.size ∙ sym (ap blocks_for w.total_is);
      few = omega (arith, j.few, w.total_is);
      none = λ e. w.ended_is ∙ j.none (sym w.total_is ∙ e);
      begun = begun_after old.writer new.writer before after w.done w.steps;
    }

more_waits : (old new : RunWriter) → page_waits old ≡ false → waiting_pages (page_waits old) ≤ waiting_pages (page_waits new)
more_waits old new e = let none = ap waiting_pages e in omega arith

-- entries were fed
pub job_fills : (old new : Job) (goal : List Entry) (device : ℕ) (image : Image) → page_waits old.writer ≡ false → Fills device image old new → IsJob old goal device image → IsJob new goal device image
job_fills old new goal device image waits f j =
    let all : j.fed ++ (f.took ++ kept_by old.kind (left_of new image)) ≡ goal = ap (λ (xs : List Entry). j.fed ++ xs) (sym f.split) ∙ j.parts in
    let parts : (j.fed ++ f.took) ++ kept_by old.kind (left_of new image) ≡ goal = append_assoc j.fed f.took (kept_by old.kind (left_of new image)) ∙ all in
    record {
      fed = j.fed ++ f.took;
      device_is = j.device_is;
      writes = f.adds image j.fed j.writes (rising_first (j.fed ++ f.took) (kept_by old.kind (left_of new image)) (ap is_rising parts ∙ j.rising));
      parts = ap (λ (kind : JobKind). (j.fed ++ f.took) ++ kept_by kind (left_of new image)) f.kind_is ∙ parts;
      rising = j.rising;
      stands = f.stands;
      closed = f.closed;
      blocks = subst (AreRunBlocks device) (sym f.place.blocks) j.blocks;
      apart = λ block own. ap (λ (bs : List ℕ). has_block bs block) f.houses ∙ j.apart block (ap (λ (bs : List ℕ). has_block bs block) (sym f.place.blocks) ∙ own);
      size = ap length f.place.blocks ∙ j.size ∙ sym (ap blocks_for f.total_is);
      few = omega (arith, j.few, f.total_is);
      none = λ e. f.still (j.none (sym f.total_is ∙ e));
      begun = omega (arith, j.begun, f.place.pages, f.place.begun, more_waits old.writer new.writer waits);
    }

-- ---- elsewhere

pub jobs_stay : JobsStay
jobs_stay job goal device old new own inputs h = ∥∥₁_map h (λ j.
    let left = left_cases job.ended job.source device old new inputs j.stands in
    let counts = writer_counts job.writer in
    record {
      fed = j.fed;
      device_is = j.device_is;
      writes = writes_stay job.writer old new j.fed (same_pages (run_blocks job.writer) (32 * blocks_begun job.writer) old new (omega (arith, counts.housed.1)) own) j.writes;
      parts = ap (λ (xs : List Entry). j.fed ++ kept_by job.kind xs) left.1 ∙ j.parts;
      rising = j.rising;
      stands = left.0;
      closed = j.closed;
      blocks = j.blocks;
      apart = j.apart;
      size = j.size;
      few = j.few;
      none = j.none;
      begun = j.begun;
    })

lt_prop : (a b : ℕ) → IsProp (a < b)
lt_prop a b = le_prop

pub jobs_finish : JobsFinish
jobs_finish job goal device image h = (
  ∥∥₁_elim h le_prop (λ j. few_steps job goal device image j),
  λ going. ∥∥₁_elim h (lt_prop _ _) (λ j. more_steps job goal device image j going),
)

-- ---- the run

pub kept_nothing : (kind : JobKind) → kept_by kind [] ≡ []
kept_nothing Flush = refl
kept_nothing Zero = refl
kept_nothing One = refl
kept_nothing Collect = refl

-- all was fed
all_fed : (job : Job) (goal : List Entry) (device : ℕ) (image : Image) (j : IsJob job goal device image) → job.ended ≡ true → j.fed ≡ goal
all_fed job goal device image j ended =
    sym (append-nil j.fed)
    ∙ ap (λ (xs : List Entry). j.fed ++ xs) (sym (kept_nothing job.kind))
    ∙ ap (λ (b : Bool). j.fed ++ kept_by job.kind (cond b [] (source_rest job.source image))) (sym ended)
    ∙ j.parts

-- the run of a job that is done
pub made : (job : Job) (run : Run) → job.ended ≡ true → IsWritten job.writer run → IsMade job run
made job run ended w = record {
  level = w.level;
  number = w.number;
  few = w.few;
  housed = w.housed;
  blocks = w.blocks;
  entries = λ goal device image h. ∥∥₁_elim h (entries-prop _ goal) (λ j. w.entries image j.fed j.writes ∙ all_fed job goal device image j ended);
  stands = λ goal device image h. ∥∥₁_elim h (run-prop run device image) (λ j.
      let counts = writer_counts job.writer in
      w.stands device image j.fed j.writes (λ i lt. place_within device i (run_blocks job.writer) j.device_is.0 j.device_is.1 j.blocks (omega (arith, counts.housed.0, counts.housed.1))));
}

pub done_ended : (a b : Bool) → (a && not b) ≡ true → a ≡ true
done_ended true b h = refl
done_ended false b h = absurd cc

pub done_waits : (a b : Bool) → (a && not b) ≡ true → b ≡ false
done_waits true true h = absurd cc
done_waits true false h = refl
done_waits false b h = absurd cc

-- ---- what a step needs of a job that stands so

pub room_of : (job : Job) (device : ℕ) (image : Image) → page_waits job.writer ≡ true → CanStepJob job device image → pages_written job.writer < 32 * length (run_blocks job.writer)
room_of job device image waits h = ∥∥₁_elim h (lt_prop _ _) (λ p. room_left job p.0 device image waits p.1)

pub blocks_of : (job : Job) (device : ℕ) (image : Image) → CanStepJob job device image → AreRunBlocks device (run_blocks job.writer)
blocks_of job device image h = ∥∥₁_elim h (run_blocks-prop device (run_blocks job.writer)) (λ p. p.1.blocks)

both-prop : (device : ℕ) → IsProp ((256 ≤ device) × (device ≤ 2048))
both-prop device = Prim.hlevel props

pub device_of : (job : Job) (device : ℕ) (image : Image) → CanStepJob job device image → (256 ≤ device) × (device ≤ 2048)
device_of job device image h = ∥∥₁_elim h (both-prop device) (λ p. p.1.device_is)

pub step_of : (job : Job) (device : ℕ) (image : Image) → CanStepJob job device image → ∥ CanStep job.writer image ∥₁
step_of job device image h = ∥∥₁_map h (λ p. (p.1.fed, p.1.writes))

-- a job to which entries were fed, and the flash only read
pub fills_stands : (old new : Job) (goal : List Entry) (start mid : Flash) → page_waits old.writer ≡ false → Fills start.blocks start.image old new → OnlyReads start mid → StandsJob old goal start.blocks start.image → StandsJob new goal mid.blocks mid.image
fills_stands old new goal start mid waits f reads h =
    subst (λ (im : Image). StandsJob new goal mid.blocks im) (sym (reads_image start mid reads))
    (subst (λ (n : ℕ). StandsJob new goal n start.image) (sym (reads_blocks start mid reads))
    (∥∥₁_map h (λ j. job_fills old new goal start.blocks start.image waits f j)))

pub filled : (old new : Job) (start mid : Flash) → page_waits old.writer ≡ false → Fills start.blocks start.image old new → OnlyReads start mid → CanStepJob old start.blocks start.image → CanStepJob new mid.blocks mid.image
filled old new start mid waits f reads h =
    subst (λ (im : Image). CanStepJob new mid.blocks im) (sym (reads_image start mid reads))
    (subst (λ (n : ℕ). CanStepJob new n start.image) (sym (reads_blocks start mid reads))
    (∥∥₁_map h (λ p. (p.0, job_fills old new p.0 start.blocks start.image waits f p.1))))
