-- What is fed to a job's writer.
use Rattle.std.specs.Prelude.{◌≡◌, ◌&&◌, Bool, true, false, List, [], ◌∷◌, ◌++◌}
use Rattle.kv_nand.specs.Flash.{Image}
use Rattle.kssd_entry.specs.declared.entry.Entry.{Entry}
use Rattle.kssd_model.specs.Rising.{is_rising, is_gone}
use Rattle.kssd_run.specs.declared.writer.RunWriter.{RunWriter}
use Rattle.kssd_run.specs.Writing.{Writes, KeepsPlace, is_closed, page_waits}
use Rattle.kssd_levels.specs.declared.kind.JobKind.{JobKind}
use Rattle.kssd_levels.specs.declared.kind.JobKind.TheVariants.{Flush, Zero, One, Collect}
use Rattle.kssd_levels.specs.Levels.{kept_by}

-- whether a job of this kind drops deletion marks
abbrev pub drops_marks : JobKind → Bool
drops_marks Flush = false
drops_marks Zero = false
drops_marks One = true
drops_marks Collect = false

-- whether a job of this kind drops an entry
abbrev pub drops : JobKind → Entry → Bool
drops kind entry = drops_marks kind && is_gone entry

-- these were fed behind what was fed before, where the keys rise
abbrev pub Adds : RunWriter → List Entry → RunWriter → Type 0
Adds old more new = (image : Image) (fed : List Entry) → Writes old image fed → is_rising (fed ++ more) ≡ true → Writes new image (fed ++ more)

-- an entry was fed, or dropped
pub record Takes (kind : JobKind) (entry : Entry) (old new : RunWriter) : Type 0 where
  pub adds : Adds old (kept_by kind (entry ∷ [])) new
  pub place : KeepsPlace old new
  pub open_ : is_closed new ≡ false

-- what counts of the entries that were passed was fed, until a page waited or none was left
pub record Feeds (kind : JobKind) (before : List Entry) (old : RunWriter) (after : List Entry) (ended : Bool) (new : RunWriter) : Type 0 where
  pub took : List Entry
  pub split : kept_by kind before ≡ took ++ kept_by kind after
  pub adds : Adds old took new
  pub place : KeepsPlace old new
  pub open_ : is_closed new ≡ false
  pub waits : ended ≡ false → page_waits new ≡ true
  pub none : ended ≡ true → (after ≡ []) × (page_waits new ≡ false)
