-- The parts of a job's step.
use Rattle.std.specs.Prelude.{◌≡◌, ◌==◌, ℕ, Bool, true, false, List, ◌++◌}
use Rattle.kv_nand.specs.Flash.{Image}
use Rattle.kssd_entry.specs.declared.entry.Entry.{Entry}
use Rattle.kssd_run.specs.declared.writer.RunWriter.{RunWriter}
use Rattle.kssd_run.specs.Writing.{Writes, Steps, KeepsPlace, page_waits, is_closed}
use Rattle.kssd_levels.specs.declared.kind.JobKind.{JobKind}
use Rattle.kssd_levels.specs.Levels.{kept_by}
use Rattle.kssd_compact.specs.declared.job.Job.{Job}
use Rattle.kssd_compact.specs.declared.source.Inputs.{Inputs}
use Rattle.kssd_compact.specs.declared.source.Source.TheVariants as source
use Rattle.kssd_compact.specs.Source.{source_houses, StandsSource}
use Rattle.kssd_compact.specs.Feeding.{Adds}
use Rattle.kssd_compact.specs.Job.{left_of}

-- a job of which nothing is written, at its end where it has nothing to read
pub record Begins (kind : JobKind) (inputs : Inputs) (writer : RunWriter) (total : ℕ) (job : Job) : Type 0 where
  pub kind_is : job.kind ≡ kind
  pub source_is : job.source ≡ source.Inputs inputs
  pub total_is : job.total ≡ total
  pub ended_is : job.ended ≡ (total == 0)
  pub closed : is_closed job.writer ≡ (total == 0)
  pub place : KeepsPlace writer job.writer
  pub writes : (image : Image) (fed : List Entry) → Writes writer image fed → Writes job.writer image fed

-- entries that count were fed until a page waits, or the last page was closed
pub record Fills (device : ℕ) (image : Image) (old new : Job) : Type 0 where
  pub kind_is : new.kind ≡ old.kind
  pub total_is : new.total ≡ old.total
  pub took : List Entry
  pub split : kept_by old.kind (left_of old image) ≡ took ++ kept_by old.kind (left_of new image)
  pub adds : Adds old.writer took new.writer
  pub place : KeepsPlace old.writer new.writer
  pub closed : is_closed new.writer ≡ new.ended
  pub houses : source_houses new.source ≡ source_houses old.source
  pub stands : new.ended ≡ false → StandsSource new.source device image
  pub still : old.ended ≡ true → new.ended ≡ true
  pub waits : page_waits new.writer ≡ false → new.ended ≡ true

-- a page was programmed or a block erased
pub record WritesOn (old : Job) (before : Image) (new : Job) (after : Image) : Type 0 where
  pub kind_is : new.kind ≡ old.kind
  pub total_is : new.total ≡ old.total
  pub source_is : new.source ≡ old.source
  pub ended_is : new.ended ≡ old.ended
  pub done : Bool
  pub steps : Steps old.writer before done new.writer after
