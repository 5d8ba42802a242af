-- Entries that are fed in a job's step.
use Rattle.std.proofs.Common.{◌≡◌, ◌∙◌, ℕ, Bool, true, false, cond, List, [], ◌++◌, refl, sym, ap}
use Rattle.kv_nand.specs.Flash.{Image}
use Rattle.kssd_entry.specs.declared.entry.Entry.{Entry}
use Rattle.kssd_run.specs.declared.writer.RunWriter.{RunWriter}
use Rattle.kssd_run.specs.Writing.{Writes, KeepsPlace, is_closed}
use Rattle.kssd_levels.specs.Levels.{kept_by}
use Rattle.kssd_compact.specs.declared.job.Job.{Job}
use Rattle.kssd_compact.specs.Feeding.{Feeds}
use Rattle.kssd_compact.specs.Source.{source_rest, StandsSource, source_houses}
use Rattle.kssd_compact.specs.Steps.{Fills}
use Rattle.kssd_compact.proofs.TakenOn.{adds_nothing, same_place, place_then}

-- at the end nothing is fed
pub fills_nothing : (device : ℕ) (image : Image) (job : Job) → job.ended ≡ true → is_closed job.writer ≡ job.ended → (job.ended ≡ false → StandsSource job.source device image) → Fills device image job job
fills_nothing device image job ended closed stands = record {
  kind_is = refl;
  total_is = refl;
  took = [];
  split = refl;
  adds = adds_nothing job.writer;
  place = same_place job.writer;
  closed = closed;
  houses = refl;
  stands = stands;
  still = λ e. e;
  waits = λ e. ended;
}

-- what is the same, and that nothing was left
pub record IsClosedJob (old : Job) (mid : RunWriter) (new : Job) : Type 0 where
  pub kind_is : new.kind ≡ old.kind
  pub total_is : new.total ≡ old.total
  pub ended_is : new.ended ≡ true
  pub closed : is_closed new.writer ≡ true
  pub place : KeepsPlace mid new.writer
  pub writes : (image : Image) (fed : List Entry) → Writes mid image fed → Writes new.writer image fed
  pub houses : source_houses new.source ≡ source_houses old.source

-- the last entries were fed, and the last page closed
pub fills_last : (device : ℕ) (image : Image) (old : Job) (mid : RunWriter) (new : Job) (before after : List Entry) → old.ended ≡ false → before ≡ source_rest old.source image → Feeds old.kind before old.writer after true mid → IsClosedJob old mid new → Fills device image old new
fills_last device image old mid new before after going is f c = record {
  kind_is = c.kind_is;
  total_is = c.total_is;
  took = f.took;
  split =
      ap (λ (b : Bool). kept_by old.kind (cond b [] (source_rest old.source image))) going
      ∙ ap (kept_by old.kind) (sym is)
      ∙ f.split
      ∙ ap (λ (xs : List Entry). f.took ++ kept_by old.kind xs) (f.none refl).0
      ∙ ap (λ (b : Bool). f.took ++ kept_by old.kind (cond b [] (source_rest new.source image))) (sym c.ended_is);
  adds = λ im fed h rising. c.writes im (fed ++ f.took) (f.adds im fed h rising);
  place = place_then old.writer mid new.writer f.place c.place;
  closed = c.closed ∙ sym c.ended_is;
  houses = c.houses;
  stands = λ e. absurd (let g : true ≡ false = sym c.ended_is ∙ e in cc);
  still = λ e. c.ended_is;
  waits = λ e. c.ended_is;
}

-- what is the same, and what is left
pub record IsGoingJob (old new : Job) (device : ℕ) (image : Image) (after : List Entry) : Type 0 where
  pub kind_is : new.kind ≡ old.kind
  pub total_is : new.total ≡ old.total
  pub ended_is : new.ended ≡ false
  pub left : source_rest new.source image ≡ after
  pub stands : StandsSource new.source device image
  pub houses : source_houses new.source ≡ source_houses old.source

-- entries were fed until a page waits
pub fills_page : (device : ℕ) (image : Image) (old new : Job) (before after : List Entry) → old.ended ≡ false → before ≡ source_rest old.source image → Feeds old.kind before old.writer after false new.writer → IsGoingJob old new device image after → Fills device image old new
fills_page device image old new before after going is f c = record {
  kind_is = c.kind_is;
  total_is = c.total_is;
  took = f.took;
  split =
      ap (λ (b : Bool). kept_by old.kind (cond b [] (source_rest old.source image))) going
      ∙ ap (kept_by old.kind) (sym is)
      ∙ f.split
      ∙ ap (λ (xs : List Entry). f.took ++ kept_by old.kind xs) (sym c.left)
      ∙ ap (λ (b : Bool). f.took ++ kept_by old.kind (cond b [] (source_rest new.source image))) (sym c.ended_is);
  adds = f.adds;
  place = f.place;
  closed = f.open_ ∙ sym c.ended_is;
  houses = c.houses;
  stands = λ e. c.stands;
  still = λ e. absurd (let g : true ≡ false = sym e ∙ going in cc);
  waits = λ e. absurd (let g : true ≡ false = sym (f.waits refl) ∙ e in cc);
}
