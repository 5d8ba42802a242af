-- Why a mount failed, as an answer tells it.
use Rattle.kfs_path.specs.declared.call.Cause.TheVariants as causes
use Rattle.kfs_path.specs.declared.call.Reply.TheVariants as replies
use Rattle.kfs_model.specs.declared.Answer.{Answer}
use Rattle.kfs_model.specs.declared.Answer.TheVariants as answers
use Rattle.kfs_core.specs.declared.fault.HostFault.{HostFault}
use Rattle.kfs_core.specs.declared.fault.HostFault.TheVariants.{Damaged, Cut, Eio, NoMem}

-- that the session is down with its cause, or the first damage
abbrev pub answer_of_host : HostFault → Answer
answer_of_host Cut = answers.Reply (replies.Down causes.Cut)
answer_of_host Eio = answers.Reply (replies.Down causes.Eio)
answer_of_host NoMem = answers.Reply (replies.Down causes.NoMem)
answer_of_host (Damaged damage) = answers.Refused damage
