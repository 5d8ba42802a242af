use Rattle.kfs_script.proofs.ScriptLaws.{held_push}
use Rattle.kfs_script.proofs.script.Script.push.Goals as goal

pub invariant_of-self-2 : goal.invariant_of-self-2
invariant_of-self-2 c = rw c.in_ok-push.ensures.items (held_push _ _ c.self.invariant c.requires.line (rw (← c.self.view_is) at c.requires.place))
