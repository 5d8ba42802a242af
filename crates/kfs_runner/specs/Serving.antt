-- What doing the lines of a script on a flash gives.
use Rattle.std.specs.Prelude.{ℕ, ◌≡◌, ◌≤◌, ◌<◌, ◌+◌, ◌++◌, ◌==◌, ◌^◌, Bool, true, false, List, [], ◌∷◌, length, take, drop}
use Rattle.std.specs.List.{count_by}
use Rattle.kv_nand.specs.Flash.{Flash, Image}
use Rattle.kfs_path.specs.declared.call.Reply.TheVariants as replies
use Rattle.kfs_model.specs.declared.Line.{Line}
use Rattle.kfs_model.specs.declared.Line.TheVariants as lines
use Rattle.kfs_model.specs.declared.Answer.{Answer}
use Rattle.kfs_model.specs.declared.Answer.TheVariants as answers
use Rattle.kfs_model.specs.Life.{State, Life, Down, Past, tree_at, newborn}
use Rattle.kfs_script.specs.AnswerText.{texts_of}
use Rattle.kfs_posix.specs.Showing.{IsSaved, one_if}
use Rattle.kssd_image.specs.Stages.{objects_in}
use Rattle.kssd_image.specs.Whole.{Sound, age_in}
use Rattle.kssd_image.specs.Damages.{IsDamage}
use Rattle.kv_base.specs.declared.damage.Damage.{Damage}
use Rattle.kfs_damages.specs.Damages.{IsTreeDamage}
use Rattle.kfs_damages.specs.Laws.{StandFor}
use Rattle.kfs_judge.specs.Judging.{heard}
use Rattle.kfs_runner.specs.declared.serving.ServeFault.{ServeFault}
use Rattle.kfs_runner.specs.declared.serving.ServeFault.TheVariants.{TooLong, Memory}
use Rattle.kfs_runner.specs.Numbers.{limits_of}
use Rattle.kfs_posix.specs.Mounting.{limits_in}
use Rattle.kfs_model.specs.Tree.{Tree, Limits}
use Rattle.kv_device.specs.Machine.{Machine}
use Rattle.kfs_runner.specs.MountPoints.{StandsAt, Stores}
use Rattle.kfs_runner.specs.Refusals.{AnswerDamage}
use Rattle.kfs_runner.specs.Lines.{AreLives, AreRefusals, OverflowsFrom}
use Rattle.kfs_runner.specs.Strikes.{strikes_of, struck_by, is_cut, is_failure, is_cut_planned, PlanCuts}

-- the most bytes of the text of the answers
abbrev pub output_limit : ℕ
output_limit = 268435456

-- the first line formats a device of so many blocks
abbrev pub formats : ℕ → List Line → Bool
formats blocks [] = false
formats blocks (lines.Format wanted ∷ more) = wanted == blocks
formats blocks (line ∷ more) = false

-- the first line formats a device
abbrev pub formats_first : List Line → Bool
formats_first [] = false
formats_first (lines.Format wanted ∷ more) = true
formats_first (lines.Mount ∷ more) = false
formats_first (lines.Cut n how ∷ more) = false
formats_first (lines.Fail kind n ∷ more) = false
formats_first (lines.Call call ∷ more) = false

-- no cut and no fault is planned
pub record IsUnplanned (flash : Flash) : Type 0 where
  pub cuts : flash.most_cuts ≡ flash.cuts
  pub faults : flash.most_faults ≡ flash.faults
  pub few_cuts : flash.cuts ≤ 2 ^ 62
  pub few_faults : flash.faults ≤ 2 ^ 62

-- a mount takes the image, and its objects stand for a tree of the life's past at which the device may
-- stand: they show it, or that without some of its nameless nodes; its numbers are far from their end
pub record StandsFor (blocks : ℕ) (image : Image) (end : State) : Type 0 where
  pub sound : Sound blocks image
  pub past : Past
  pub k : ℕ
  pub stands : StandsAt end.now past k
  pub saved : IsSaved (limits_of blocks) (objects_in image) (tree_at past k) k
  pub few : k < 2 ^ 62
  pub low : (tree_at past k).next < 2 ^ 62

-- answers to a format and to the lines behind it, on a device that holds so much: `ok`, and a life that
-- begins with the tree of a root alone
abbrev pub AreAnswers : Limits → List Line → List Answer → State → Type 0
AreAnswers limits ls [] end = ⊥
AreAnswers limits ls (first ∷ given) end = (first ≡ answers.Reply replies.Done) × Life limits newborn ls given end

-- the text of the answers to all lines, of at most so many bytes, and an image that stands for a tree
-- with which their life ends
pub record IsAnswered (blocks : ℕ) (ls : List Line) (given : List Answer) (text : List ℕ) (image : Image) : Type 0 where
  pub end : State
  pub are : AreAnswers (limits_of blocks) ls given end
  pub same : text ≡ texts_of given
  pub short : length text ≤ output_limit
  pub stands : StandsFor blocks image end

-- the text of the answers to the first lines, of which the last brings it above the limit
pub record Overflows (limits : Limits) (ls : List Line) (text : List ℕ) : Type 0 where
  pub count : ℕ
  pub given : List Answer
  pub last : Answer
  pub end : State
  pub some : count ≤ length ls
  pub are : AreAnswers limits (take count ls) (given ++ last ∷ []) end
  pub same : text ≡ texts_of (given ++ last ∷ [])
  pub below : length (texts_of given) ≤ output_limit
  pub above : output_limit < length text

-- lines were done on a device that rests now: their answers, each cut and each fault told by one; they are lives from what was shown,
-- with a tree with which they end stored, and refusals of what was damaged; and whether a cut is planned
pub record AreDone (limits : Limits) (ls : List Line) (old text : List ℕ) (begins : State → Type 0) (refused : Damage → Type 0) (before device : Machine) : Type 0 where
  pub given : List Answer
  pub one_each : length given ≡ length ls
  pub same : text ≡ old ++ texts_of given
  pub short : length text ≤ output_limit
  pub lives : AreLives limits ls given begins (Stores device)
  pub damaged : AreRefusals ls given refused
  pub room : limits_in device ≡ limits
  pub strikes : strikes_of device ≡ struck_by (strikes_of before) given
  pub plans : PlanCuts before ls given device

-- the lines behind a format were done on a flash: their answers, each cut and each fault of the flash
-- told by one, what the flash holds then, and whether one more cut is planned
pub record IsServed (ls : List Line) (text : List ℕ) (old new : Flash) : Type 0 where
  pub given : List Answer
  pub blocks : new.blocks ≡ old.blocks
  pub answered : IsAnswered old.blocks ls given text new.image
  pub cuts : new.cuts ≡ old.cuts + count_by is_cut given
  pub faults : new.faults ≡ old.faults + count_by is_failure given
  pub planned : new.most_cuts ≡ new.cuts + one_if (is_cut_planned ls (drop 1 given))

-- an image from which a life begins: a mount takes it, and its objects stand for this tree with this number, and its numbers are below `2 ^ 61`
pub record IsHonest (blocks : ℕ) (image : Image) (t : Tree) (k : ℕ) : Type 0 where
  pub sound : Sound blocks image
  pub stands : StandFor (limits_of blocks) (objects_in image) t k
  pub age : age_in image < 2 ^ 61
  pub few : k < 2 ^ 61
  pub low : t.next < 2 ^ 61

-- an image that a mount of the device takes, with numbers below `2 ^ 61`, whose objects have this first damage
pub record IsUnmountable (blocks : ℕ) (image : Image) (damage : Damage) : Type 0 where
  pub sound : Sound blocks image
  pub age : age_in image < 2 ^ 61
  pub damaged : IsTreeDamage (limits_of blocks) (heard (objects_in image)) damage

-- the answers to lines on it are that damage's, and its objects stay
pub record AreTreeRefusals (ls : List Line) (given : List Answer) (damage : Damage) (blocks : ℕ) (old new : Image) : Type 0 where
  pub answers : AnswerDamage damage ls given
  pub sound : Sound blocks new
  pub stays : objects_in new ≡ objects_in old

-- a life of this tree that is down
abbrev pub rests_at : Tree → ℕ → State
rests_at t k = record { now = Down (record { count = k; trees = t ∷ [] }) (k ∷ []); cut_armed = false; fail_armed = false }

-- lines were done on a flash with an image that was taken: an answer to each, each cut and each fault of the flash told by one, and whether one more cut is
-- planned. An honest image begins a life that is down, and the flash holds a tree with which it ends. A damaged image is refused by each mount, and stays; of
-- one with a damaged tree the objects stay
pub record IsServedOn (ls : List Line) (text : List ℕ) (old new : Flash) : Type 0 where
  pub given : List Answer
  pub one_each : length given ≡ length ls
  pub blocks : new.blocks ≡ old.blocks
  pub same : text ≡ texts_of given
  pub short : length text ≤ output_limit
  pub cuts : new.cuts ≡ old.cuts + count_by is_cut given
  pub faults : new.faults ≡ old.faults + count_by is_failure given
  pub planned : new.most_cuts ≡ new.cuts + one_if (is_cut_planned ls given)
  pub honest : (t : Tree) (k : ℕ) → IsHonest old.blocks old.image t k → (end : State) × Life (limits_of old.blocks) (rests_at t k) ls given end × StandsFor old.blocks new.image end
  pub damaged : (damage : Damage) → IsDamage old.blocks old.image damage → AnswerDamage damage ls given × (new.image ≡ old.image)
  pub unmountable : (damage : Damage) → IsUnmountable old.blocks old.image damage → AreTreeRefusals ls given damage old.blocks old.image new.image

-- the text of the answers to the first lines likewise, of which the last brings it above the limit
pub record OverflowsOn (old : Flash) (ls : List Line) (text : List ℕ) : Type 0 where
  pub count : ℕ
  pub given : List Answer
  pub last : Answer
  pub some : count ≤ length ls
  pub same : text ≡ texts_of (given ++ last ∷ [])
  pub below : length (texts_of given) ≤ output_limit
  pub above : output_limit < length text
  pub honest : (t : Tree) (k : ℕ) → IsHonest old.blocks old.image t k → (end : State) × Life (limits_of old.blocks) (rests_at t k) (take count ls) (given ++ last ∷ []) end
  pub damaged : (damage : Damage) → IsDamage old.blocks old.image damage → AnswerDamage damage (take count ls) (given ++ last ∷ [])
  pub unmountable : (damage : Damage) → IsUnmountable old.blocks old.image damage → AnswerDamage damage (take count ls) (given ++ last ∷ [])

abbrev pub StopsOn : Flash → List Line → ServeFault → Type 0
StopsOn old ls (TooLong text) = OverflowsOn old ls text
StopsOn old ls Memory = Unit {0}

-- lines were not all answered behind a text, which they brought above the limit, or memory was wanting
abbrev pub StopsBehind : Limits → List Line → List ℕ → (State → Type 0) → (Damage → Type 0) → ServeFault → Type 0
StopsBehind limits ls old begins refused (TooLong text) = OverflowsFrom limits ls output_limit old text begins refused
StopsBehind limits ls old begins refused Memory = Unit {0}

-- an answer brought the text above the limit, or memory was wanting
abbrev pub StopsServing : Limits → List Line → ServeFault → Type 0
StopsServing limits ls (TooLong text) = Overflows limits ls text
StopsServing limits ls Memory = Unit {0}
