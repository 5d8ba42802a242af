-- How a run of the program ends.
use Rattle.std.specs.Prelude.{Some, None, ℕ, ◌≡◌, ◌≤◌, ◌⊎◌, ◌++◌, nat_lt, if◌then◌else◌, List, [], ◌∷◌, length, codes, Option, Result, Ok, Err, IfSome}
use Rattle.kfs_model.specs.declared.Line.{Line}
use Rattle.kfs_model.specs.declared.Line.TheVariants as lines
use Rattle.kfs_model.specs.declared.Answer.{Answer}
use Rattle.kv_nand.specs.Flash.{Flash, Image}
use Rattle.nand_mem.specs.ImageFile.{image_bytes, Refuses}
use Rattle.nand_mem.specs.declared.fault.ImageFault.{ImageFault}
use Rattle.nand_mem.specs.declared.fault.ImageFault.TheVariants.{Memory as NoMemory}
use Rattle.kfs_script.specs.Script.{script_of}
use Rattle.kfs_script.specs.AnswerText.{and_number, newline}
use Rattle.kfs_runner.specs.declared.ending.Ending.{Ending}
use Rattle.kfs_runner.specs.declared.ending.Ending.TheVariants.{Quiet, Prints}
use Rattle.kfs_runner.specs.declared.words.Task.{Task}
use Rattle.kfs_runner.specs.declared.words.Task.TheVariants.{Nothing, Run, Make}
use Rattle.kfs_runner.specs.Outside.{Side, HasRisen, Takes, TakesSome, IsReadOut}
use Rattle.kfs_runner.specs.Reading.{script_limit}
use Rattle.kfs_runner.specs.Numbers.{limits_of}
use Rattle.kfs_runner.specs.Serving.{IsAnswered, Overflows, IsServedOn, OverflowsOn}
use Rattle.kfs_runner.specs.Words.{task_of}
use Rattle.kfs_runner.specs.Load.{load_text}

-- what words and a script come to: a status with its text, the answers to the lines on a new file
-- system of so many blocks or on the image of the shelf, or the line of a load
pub data Due : Type 0 where
  Refused : (status : ℕ) (text : List ℕ) → Due
  Answered : (blocks : ℕ) (lines : List Line) → Due
  OnImage : (lines : List Line) → Due
  Made : (seed : ℕ) (count : ℕ) (blocks : ℕ) → Due

abbrev pub bad_words : List ℕ
bad_words = codes "bad words" ++ newline

abbrev pub bad_line : ℕ → List ℕ
bad_line number = codes "line" ++ and_number number ++ newline

abbrev pub bad_image : List ℕ
bad_image = codes "bad image" ++ newline

abbrev pub too_long : List ℕ
too_long = codes "script too long" ++ newline

abbrev pub too_much : List ℕ
too_much = codes "output too long" ++ newline

-- a script that doesn't begin with a format is done on the image of the shelf
abbrev pub due_by : Result (List Line) ℕ → Due
due_by (Err number) = Refused 2 (bad_line number)
due_by (Ok []) = OnImage []
due_by (Ok (lines.Format blocks ∷ more)) = Answered blocks more
due_by (Ok (lines.Mount ∷ more)) = OnImage (lines.Mount ∷ more)
due_by (Ok (lines.Cut n how ∷ more)) = OnImage (lines.Cut n how ∷ more)
due_by (Ok (lines.Fail kind n ∷ more)) = OnImage (lines.Fail kind n ∷ more)
due_by (Ok (lines.Call call ∷ more)) = OnImage (lines.Call call ∷ more)

-- what is asked for comes first, then the script's length, then its lines; a load takes no script
unfoldable pub due : Task → List ℕ → Due
due Nothing bytes = Refused 1 bad_words
due Run bytes = if nat_lt script_limit (length bytes) then Refused 8 too_long else due_by (script_of bytes)
due (Make seed count blocks) bytes = Made seed count blocks

-- the shelf holds the file of this image now, where it tells what it holds
abbrev pub HoldsImage : Side → ℕ → Image → Side → Type 0
HoldsImage old blocks image new = IfSome old.bytes (λ _. new.bytes ≡ Some (image_bytes image blocks)) × (new.faults ≡ old.faults)

-- the text of all answers at status 0, with the image on the shelf that stands for a tree with which their life ends
pub record IsRun (blocks : ℕ) (ls : List Line) (shelf shelf_new : Side) (status : ℕ) (text : List ℕ) : Type 0 where
  pub status_is : status ≡ 0
  pub given : List Answer
  pub image : Image
  pub answered : IsAnswered blocks ls given text image
  pub put : HoldsImage shelf blocks image shelf_new

-- the answers would be too long, and nothing was put
pub record IsTooMuch (blocks : ℕ) (ls : List Line) (shelf shelf_new : Side) (status : ℕ) (text : List ℕ) : Type 0 where
  pub status_is : status ≡ 9
  pub text_is : text ≡ too_much
  pub all : List ℕ
  pub overflows : Overflows (limits_of blocks) ls all
  pub unput : shelf_new ≡ shelf

-- what the shelf holds is no image file, which is told, and nothing was put
pub record IsBadImage (shelf shelf_new : Side) (status : ℕ) (text : List ℕ) : Type 0 where
  pub status_is : status ≡ 3
  pub text_is : text ≡ bad_image
  pub fault : ImageFault
  pub refuses : IfSome shelf.bytes (λ bytes. Refuses bytes fault)
  pub unput : shelf_new ≡ shelf
  pub found : fault ≡ NoMemory → ⊥

-- the shelf holds the file of the image of this flash, where it tells what it holds
pub record IsTaken (shelf : Side) (flash : Flash) : Type 0 where
  pub file : IfSome shelf.bytes (λ bytes. bytes ≡ image_bytes flash.image flash.blocks)
  pub least : 256 ≤ flash.blocks
  pub most : flash.blocks ≤ 2048

-- the text of all answers at status 0 on a flash with the image of the shelf, and its image on the shelf then
pub record IsRunOn (ls : List Line) (shelf shelf_new : Side) (status : ℕ) (text : List ℕ) : Type 0 where
  pub status_is : status ≡ 0
  pub old : Flash
  pub new : Flash
  pub taken : IsTaken shelf old
  pub served : IsServedOn ls text old new
  pub put : HoldsImage shelf new.blocks new.image shelf_new

-- the answers would be too long, and nothing was put
pub record IsTooMuchOn (ls : List Line) (shelf shelf_new : Side) (status : ℕ) (text : List ℕ) : Type 0 where
  pub status_is : status ≡ 9
  pub text_is : text ≡ too_much
  pub old : Flash
  pub taken : IsTaken shelf old
  pub all : List ℕ
  pub overflows : OverflowsOn old ls all
  pub unput : shelf_new ≡ shelf

-- a shelf and a source
pub record Sides : Type 0 where
  pub shelf : Side
  pub source : Side

abbrev pub sides : Side → Side → Sides
sides shelf source = record { shelf = shelf; source = source }

-- the status and the text that are due, and what was put; where the script was answered, the source was
-- read to its end
abbrev pub IsDue : Due → Sides → Sides → ℕ → List ℕ → Type 0
IsDue (Refused due_status due_text) old new status text = (status ≡ due_status) × (text ≡ due_text) × (new.shelf ≡ old.shelf)
IsDue (Made seed count blocks) old new status text = (status ≡ 0) × (text ≡ load_text seed count blocks) × (new.shelf ≡ old.shelf)
IsDue (Answered blocks ls) old new status text =
    IsReadOut old.source.bytes new.source.bytes
    × (IsRun blocks ls old.shelf new.shelf status text ⊎ IsTooMuch blocks ls old.shelf new.shelf status text)
IsDue (OnImage ls) old new status text =
    IsReadOut old.source.bytes new.source.bytes
    × (IsBadImage old.shelf new.shelf status text ⊎ (IsRunOn ls old.shelf new.shelf status text ⊎ IsTooMuchOn ls old.shelf new.shelf status text))

-- a run that writes nothing: the source failed (4) and so the script that is asked for was not read, or
-- memory was wanting (7), and nothing was put; or the shelf failed (6)
abbrev pub IsQuiet : Task → Sides → Sides → ℕ → Type 0
IsQuiet task old new status =
    ((status ≡ 4) × (task ≡ Run) × HasRisen old.source.faults new.source.faults × (new.shelf ≡ old.shelf))
    ⊎ (((status ≡ 7) × (new.source.faults ≡ old.source.faults) × (new.shelf ≡ old.shelf))
    ⊎ ((status ≡ 6) × (task ≡ Run) × (new.source.faults ≡ old.source.faults) × HasRisen old.shelf.faults new.shelf.faults))

-- what a task comes to before its text is written: nothing to write, or what is due for it and the
-- source's bytes
abbrev pub TaskComesTo : Task → Sides → Sides → Ending → Type 0
TaskComesTo task old new (Quiet status) = IsQuiet task old new status
TaskComesTo task old new (Prints status text) =
    (bytes : List ℕ) × IfSome old.source.bytes (λ all. bytes ≡ all) × IsDue (due task bytes) old new status text × (new.source.faults ≡ old.source.faults)

abbrev pub ComesTo : List (List ℕ) → Sides → Sides → Ending → Type 0
ComesTo words old new ending = TaskComesTo (task_of words) old new ending

-- only a script takes something of the source, and only its image is put
abbrev pub LeavesAlone : List (List ℕ) → Sides → Sides → Type 0
LeavesAlone words old new = (task_of words ≡ Run → ⊥) → new ≡ old

-- the text stands whole behind what the sink got before, or the sink failed (5) and got a first
-- part of it
abbrev pub IsWritten : Ending → Side → Side → ℕ → Type 0
IsWritten (Quiet due_status) old new status = (status ≡ due_status) × (new ≡ old)
IsWritten (Prints due_status text) old new status =
    ((status ≡ due_status) × Takes old.bytes text new.bytes × (new.faults ≡ old.faults))
    ⊎ ((status ≡ 5) × TakesSome old.bytes text new.bytes × HasRisen old.faults new.faults)

-- the whole run: the words, the shelf and the source before and after, the sink before and after, and
-- the status
abbrev pub Ends : List (List ℕ) → Sides → Sides → Side → Side → ℕ → Type 0
Ends words old new sink sink_new status = (ending : Ending) × ComesTo words old new ending × IsWritten ending sink sink_new status

-- what a load comes to
abbrev pub IsLoadDue : ℕ → ℕ → ℕ → Ending → Type 0
IsLoadDue seed count blocks (Quiet status) = status ≡ 7
IsLoadDue seed count blocks (Prints status text) = (status ≡ 0) × (text ≡ load_text seed count blocks)

-- a source that told nothing
abbrev pub unread : Side
unread = record { bytes = None; faults = 0 }

-- what a script comes to once it is read, and what was put
abbrev pub IsScriptDue : Result (List Line) ℕ → Side → Side → Ending → Type 0
IsScriptDue script old new (Quiet status) = ((status ≡ 7) × (new ≡ old)) ⊎ ((status ≡ 6) × HasRisen old.faults new.faults)
IsScriptDue script old new (Prints status text) = IsDue (due_by script) (sides old unread) (sides new unread) status text
