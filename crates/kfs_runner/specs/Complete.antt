-- What is left of the ends of a script, and of the answers to lines, where nothing fails.
use Rattle.std.specs.Prelude.{ℕ, ◌≡◌, ◌≤◌, ◌<◌, ◌^◌, ◌⊎◌, true, false, List, [], ◌∷◌, length, Ok, Some, Option}
use Rattle.kv_nand.specs.Flash.{Image, IsPageState}
use Rattle.nand_mem.specs.ImageFile.{IsBlocks, image_bytes}
use Rattle.kv_device.specs.Machine.{Machine}
use Rattle.kfs_path.specs.declared.call.Reply.TheVariants as replies
use Rattle.kfs_model.specs.declared.Line.{Line}
use Rattle.kfs_model.specs.declared.Line.TheVariants as lines
use Rattle.kfs_model.specs.declared.Answer.{Answer}
use Rattle.kfs_model.specs.declared.Answer.TheVariants as answers
use Rattle.kfs_model.specs.Tree.{Tree, Limits}
use Rattle.kfs_model.specs.Life.{State, Now, newborn}
use Rattle.kfs_laws.specs.Plain.{is_plain, ArePlain, AnsweredPlainly, PlainAnswer, no_memory}
use Rattle.kfs_posix.specs.Mounting.{IsStored}
use Rattle.kfs_posix.specs.Unplanned.{IsUnplanned}
use Rattle.kfs_script.specs.Script.{script_of}
use Rattle.kfs_runner.specs.declared.words.Task.TheVariants.{Run}
use Rattle.kfs_runner.specs.Outside.{Side, HasRisen, Takes}
use Rattle.kfs_runner.specs.Reading.{script_limit}
use Rattle.kfs_runner.specs.Numbers.{limits_of}
use Rattle.kfs_runner.specs.Words.{task_of}
use Rattle.kfs_runner.specs.Ending.{Sides, IsRun, IsTooMuch, IsRunOn, IsTooMuchOn, Ends}
use Rattle.kfs_runner.specs.Serving.{IsHonest, formats_first, rests_at}
use Rattle.kfs_runner.specs.MountPoints.{MountState, Bare, PointGoes, IsLow, IsPointWhole, device_age, shows_point, point_limits, point_machine}
use Rattle.kfs_runner.specs.Refusals.{Rested, whole_in}

-- ---- a script

-- no count of faults of shelf, source and sink rose
pub record NothingFailed (old new : Sides) (out out_new : Side) : Type 0 where
  pub shelf : HasRisen old.shelf.faults new.shelf.faults → ⊥
  pub source : HasRisen old.source.faults new.source.faults → ⊥
  pub sink : HasRisen out.faults out_new.faults → ⊥

-- `ok` to a format, and to the lines behind it what a plain tree answers, from that of a root alone on
abbrev pub ArePlainAnswers : Limits → List Line → List Answer → Now → Type 0
ArePlainAnswers limits ls [] end = ⊥
ArePlainAnswers limits ls (first ∷ given) end = (first ≡ answers.Reply replies.Done) × AnsweredPlainly limits newborn.now ls given end

-- the answers to all lines are printed, and the image is put; they are a plain tree's where no line plans a cut or a fault
pub record IsAnsweredWhole (blocks : ℕ) (ls : List Line) (old new : Sides) (sink sink_new : Side) (status : ℕ) : Type 0 where
  pub text : List ℕ
  pub run : IsRun blocks ls old.shelf new.shelf status text
  pub printed : Takes sink.bytes text sink_new.bytes
  pub plain : ArePlain ls → ArePlainAnswers (limits_of blocks) ls run.given run.answered.end.now

-- the answers are too long, which is printed
abbrev pub IsAnsweredTooLong : ℕ → List Line → Sides → Sides → Side → Side → ℕ → Type 0
IsAnsweredTooLong blocks ls old new sink sink_new status = (text : List ℕ) × IsTooMuch blocks ls old.shelf new.shelf status text × Takes sink.bytes text sink_new.bytes

-- on the image of the shelf likewise; the answers are a plain tree's where that image stands for one and no line plans a cut or a fault
pub record IsAnsweredOn (ls : List Line) (old new : Sides) (sink sink_new : Side) (status : ℕ) : Type 0 where
  pub text : List ℕ
  pub run : IsRunOn ls old.shelf new.shelf status text
  pub printed : Takes sink.bytes text sink_new.bytes
  pub plain : (t : Tree) (k : ℕ) → IsHonest run.old.blocks run.old.image t k → ArePlain ls
      → (end : Now) × AnsweredPlainly (limits_of run.old.blocks) (rests_at t k).now ls run.served.given end

abbrev pub IsTooLongOn : List Line → Sides → Sides → Side → Side → ℕ → Type 0
IsTooLongOn ls old new sink sink_new status = (text : List ℕ) × IsTooMuchOn ls old.shelf new.shelf status text × Takes sink.bytes text sink_new.bytes

-- the shelf holds the file of an image
pub record HoldsFile (shelf : Side) : Type 0 where
  pub blocks : ℕ
  pub image : Image
  pub range : IsBlocks blocks
  pub whole : (page : ℕ) → IsPageState (image page)
  pub file : shelf.bytes ≡ Some (image_bytes image blocks)

-- a script in the grammar, whose first line formats, is answered whole where the outside didn't fail; or its answers are too long,
-- or memory is wanting
abbrev pub IsFormattedComplete : List (List ℕ) → Sides → Sides → Side → Side → ℕ → Type 0
IsFormattedComplete words old new sink sink_new status =
    (bytes : List ℕ) (blocks : ℕ) (ls : List Line)
    → task_of words ≡ Run → old.source.bytes ≡ Some bytes → length bytes ≤ script_limit → script_of bytes ≡ Ok (lines.Format blocks ∷ ls)
    → NothingFailed old new sink sink_new
    → IsAnsweredWhole blocks ls old new sink sink_new status ⊎ (IsAnsweredTooLong blocks ls old new sink sink_new status ⊎ (status ≡ 7))

-- so is one whose first line doesn't format, where the shelf holds the file of an image
abbrev pub IsTakenComplete : List (List ℕ) → Sides → Sides → Side → Side → ℕ → Type 0
IsTakenComplete words old new sink sink_new status =
    (bytes : List ℕ) (ls : List Line)
    → task_of words ≡ Run → old.source.bytes ≡ Some bytes → length bytes ≤ script_limit → script_of bytes ≡ Ok ls → formats_first ls ≡ false
    → HoldsFile old.shelf → NothingFailed old new sink sink_new
    → IsAnsweredOn ls old new sink sink_new status ⊎ (IsTooLongOn ls old new sink sink_new status ⊎ (status ≡ 7))

-- both
pub record EndsComplete (words : List (List ℕ)) (old new : Sides) (sink sink_new : Side) (status : ℕ) : Type 0 where
  pub formatted : IsFormattedComplete words old new sink sink_new status
  pub taken : IsTakenComplete words old new sink sink_new status

-- so is each that ends as runs do
abbrev pub EachEndIsComplete : Type 0
EachEndIsComplete =
    (words : List (List ℕ)) (old new : Sides) (sink sink_new : Side) (status : ℕ)
    → Ends words old new sink sink_new status → EndsComplete words old new sink sink_new status

-- ---- a line

-- where neither a cut nor a fault is planned for its device, a session or a device without one answers a line that plans
-- nothing as a plain tree does, or memory is wanting, in each state that it shows, where a mount takes what it rests on
abbrev pub LinesFailUnplannedByMemoryAlone : Type 0
LinesFailUnplannedByMemoryAlone =
    (old new : MountState) (line : Line) (answer : Answer)
    → PointGoes old line answer new → is_plain line ≡ true → IsUnplanned (point_machine old)
    → (s : State) → shows_point old s → IsLow s → IsPointWhole old → device_age old < 2 ^ 62 → PlainAnswer (point_limits old) s.now line answer

-- a mount of a device that stores the tree after k changes answers k then, or memory is wanting
abbrev pub MountsFailUnplannedByMemoryAlone : Type 0
MountsFailUnplannedByMemoryAlone =
    (m : Machine) (age k : ℕ) (rested : Option Rested) (t : Tree) (answer : Answer) (new : MountState)
    → PointGoes (Bare m age rested) lines.Mount answer new → IsUnplanned m → m.cuts < 2 ^ 63 → m.faults < 2 ^ 63 → IsStored m t k
    → k < 2 ^ 62 → t.next < 2 ^ 62 → whole_in rested → age < 2 ^ 62
    → (answer ≡ answers.Mounted k) ⊎ (answer ≡ no_memory)
