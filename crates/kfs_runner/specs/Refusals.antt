-- Images that a mount refuses, and what the lines of a script are answered then.
use Rattle.std.specs.Prelude.{ℕ, ◌≡◌, Option, Some, None, List, [], ◌∷◌}
use Rattle.kv_base.specs.declared.damage.Damage.{Damage}
use Rattle.kv_nand.specs.Flash.{Flash, Image}
use Rattle.kssd_image.specs.Damages.{IsDamage}
use Rattle.kssd_image.specs.Whole.{IsWhole}
use Rattle.kfs_path.specs.declared.call.Reply.TheVariants as replies
use Rattle.kfs_model.specs.declared.Line.{Line}
use Rattle.kfs_model.specs.declared.Line.TheVariants as lines
use Rattle.kfs_model.specs.declared.Answer.{Answer}
use Rattle.kfs_model.specs.declared.Answer.TheVariants as answers

-- the image of a flash with so many blocks
pub record Rested : Type 0 where
  pub blocks : ℕ
  pub image : Image

-- that of this flash
abbrev pub rested_on : Flash → Rested
rested_on flash = record { blocks = flash.blocks; image = flash.image }

-- the first damage of the image; a device that rests on none has no damage
abbrev pub damaged_in : Option Rested → Damage → Type 0
damaged_in (Some rested) damage = IsDamage rested.blocks rested.image damage
damaged_in None damage = ⊥

-- a mount takes the image, up to the limit on its numbers
abbrev pub whole_in : Option Rested → Type 0
whole_in (Some rested) = IsWhole rested.blocks rested.image
whole_in None = Unit {0}

-- a mount tells the damage, or fails by an outside cause
abbrev pub TellsDamage : Damage → Answer → Type 0
TellsDamage damage (answers.Refused told) = told ≡ damage
TellsDamage damage (answers.Reply (replies.Down cause)) = Unit {0}
TellsDamage damage answer = ⊥

-- a line on an image with this damage: mounts tell it, plans are made, and each call is off
abbrev pub AnswersDamage : Damage → Line → Answer → Type 0
AnswersDamage damage (lines.Call call) answer = answer ≡ answers.Reply replies.Off
AnswersDamage damage lines.Mount answer = TellsDamage damage answer
AnswersDamage damage (lines.Cut n how) answer = answer ≡ answers.Reply replies.Done
AnswersDamage damage (lines.Fail kind n) answer = answer ≡ answers.Reply replies.Done
AnswersDamage damage (lines.Format blocks) answer = ⊥

-- so all lines are answered
abbrev pub AnswerDamage : Damage → List Line → List Answer → Type 0
AnswerDamage damage [] [] = Unit {0}
AnswerDamage damage (line ∷ ls) (answer ∷ given) = AnswersDamage damage line answer × AnswerDamage damage ls given
AnswerDamage damage [] (answer ∷ given) = ⊥
AnswerDamage damage (line ∷ ls) [] = ⊥
