-- What is counted while lines are done on a session, and on a plain tree beside it.
use Rattle.std.specs.Prelude.{◌+◌, ◌≡◌, Bool, true, false, List}
use Rattle.kfs_path.specs.declared.call.Cause.TheVariants as causes
use Rattle.kfs_path.specs.declared.call.Reply.{Reply}
use Rattle.kfs_path.specs.declared.call.Reply.TheVariants as replies
use Rattle.kfs_model.specs.declared.Line.{Line}
use Rattle.kfs_model.specs.declared.Line.TheVariants as lines
use Rattle.kfs_model.specs.declared.Answer.{Answer}
use Rattle.kfs_model.specs.declared.Answer.TheVariants as answers
use Rattle.kfs_model.specs.Tree.{Limits}
use Rattle.kfs_model.specs.Step.{step}
use Rattle.kfs_plain.specs.Tables.{free_number}
use Rattle.kfs_plain.specs.Plain.{Plain, totals_of}
use Rattle.kfs_plain.specs.declared.tree.Totals.{Totals}
use Rattle.kfs_load.specs.Coming.{first_live, is_error, errors_in, dones_in, replies_to, behind_lines}
use Rattle.kfs_runner.specs.declared.load.Tally.{Tally}

-- an error more, or one more that is none
abbrev pub counted : Tally → Bool → Tally
counted t true = record { dones = t.dones; errors = t.errors + 1; changes = t.changes }
counted t false = record { dones = t.dones + 1; errors = t.errors; changes = t.changes }

-- a reply where neither a cut nor a fault is planned: the session isn't down but for want of memory
abbrev pub IsUnplannedReply : Reply → Type 0
IsUnplannedReply (replies.Down causes.Cut) = ⊥
IsUnplannedReply (replies.Down causes.Eio) = ⊥
IsUnplannedReply replies.Off = ⊥
IsUnplannedReply reply = Unit {0}

-- an answer likewise: nothing is refused
abbrev pub IsUnplannedAnswer : Answer → Type 0
IsUnplannedAnswer (answers.Reply reply) = IsUnplannedReply reply
IsUnplannedAnswer (answers.Mounted n) = Unit {0}
IsUnplannedAnswer (answers.Refused damage) = ⊥

-- the session is down
abbrev pub is_down : Reply → Bool
is_down (replies.Down cause) = true
is_down replies.Off = true
is_down reply = false

-- a reply is counted, unless the session is down
pub record CountsReply (old : Tally) (reply : Reply) (new : Tally) : Type 0 where
  pub up : is_down reply ≡ false
  pub now : new ≡ counted old (is_error reply)

-- an answer is counted; of a mount its number
abbrev pub Counts : Tally → Answer → Tally → Type 0
Counts old (answers.Reply reply) new = CountsReply old reply new
Counts old (answers.Mounted n) new = new ≡ record { dones = old.dones; errors = old.errors; changes = n }
Counts old (answers.Refused damage) new = ⊥

-- a line's call is done on the plain tree
abbrev pub plain_behind : Plain → Line → Plain
plain_behind p (lines.Call call) = record { world = (step p.limits (free_number p.world.desk) p.world call).world; limits = p.limits }
plain_behind p line = p

-- what was counted is that of the lines where nothing fails
pub record IsCounted (k : Limits) (ls : List Line) (tally : Tally) (held : Totals) : Type 0 where
  pub dones : tally.dones ≡ dones_in (replies_to k first_live ls)
  pub errors : tally.errors ≡ errors_in (replies_to k first_live ls)
  pub changes : tally.changes ≡ (behind_lines k first_live ls).mark
  pub totals : held ≡ totals_of (behind_lines k first_live ls).world.tree
