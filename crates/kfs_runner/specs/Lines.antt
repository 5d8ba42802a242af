-- What doing lines gives.
use Rattle.std.specs.Prelude.{ℕ, ◌≡◌, ◌≤◌, ◌<◌, ◌++◌, ◌∷◌, ◌^◌, ◌⊎◌, List, [], length, take, Option}
use Rattle.kv_base.specs.declared.damage.Damage.{Damage}
use Rattle.kv_device.specs.Machine.{Machine}
use Rattle.kfs_model.specs.declared.Line.{Line}
use Rattle.kfs_model.specs.declared.Answer.{Answer}
use Rattle.kfs_model.specs.Tree.{Limits}
use Rattle.kfs_model.specs.Life.{State, Life}
use Rattle.kfs_script.specs.AnswerText.{texts_of}
use Rattle.kfs_runner.specs.Refusals.{Rested, damaged_in, AnswerDamage}
use Rattle.kfs_runner.specs.Strikes.{strikes_of, struck_by, PlanCuts}
use Rattle.kfs_runner.specs.Young.{IsYoung}

-- from each state that they began with, with numbers below `2 ^ 61`, lines and answers are a life, whose end is shown
abbrev pub AreLives : Limits → List Line → List Answer → (State → Type 0) → (State → Type 0) → Type 0
AreLives limits ls given begins shows = (s : State) → begins s → IsYoung (2 ^ 61) s.now → (end : State) × Life limits s ls given end × shows end

-- a mount tells this damage: that of the image, or, where the device takes the image, that of the tree in it
abbrev pub IsRefused : Option Rested → Type 0 → (Damage → Type 0) → Damage → Type 0
IsRefused rested takes tree_damage damage = damaged_in rested damage ⊎ (takes × tree_damage damage)

-- where a mount tells a damage, each line is answered as that damage is
abbrev pub AreRefusals : List Line → List Answer → (Damage → Type 0) → Type 0
AreRefusals ls given refused = (damage : Damage) → refused damage → AnswerDamage damage ls given

-- the text of answers was added, one for each line. They are lives from what was shown, and refusals of what was damaged; the whole text
-- has at most so many bytes, and the answers tell each cut and each fault of the device, and whether a cut is planned for it
pub record AnsweredFrom (limits : Limits) (ls : List Line) (most : ℕ) (old new : List ℕ) (begins shows : State → Type 0) (refused : Damage → Type 0) (before now : Machine) : Type 0 where
  pub given : List Answer
  pub one_each : length given ≡ length ls
  pub text : new ≡ old ++ texts_of given
  pub short : length new ≤ most
  pub strikes : strikes_of now ≡ struck_by (strikes_of before) given
  pub plans : PlanCuts before ls given now
  pub lives : AreLives limits ls given begins shows
  pub damaged : AreRefusals ls given refused

-- nothing is told of a state
abbrev pub IsAny : State → Type 0
IsAny s = Unit {0}

-- the text of the answers to the first lines was added, likewise; the last of them brings the text above that
pub record OverflowsFrom (limits : Limits) (ls : List Line) (most : ℕ) (old new : List ℕ) (begins : State → Type 0) (refused : Damage → Type 0) : Type 0 where
  pub count : ℕ
  pub given : List Answer
  pub last : Answer
  pub some : count ≤ length ls
  pub text : new ≡ old ++ texts_of (given ++ last ∷ [])
  pub below : length (old ++ texts_of given) ≤ most
  pub above : most < length new
  pub lives : AreLives limits (take count ls) (given ++ last ∷ []) begins IsAny
  pub damaged : AreRefusals (take count ls) (given ++ last ∷ []) refused
