use Rattle.std.proofs.Common.{sym, ◌∙◌}
use Rattle.kfs_script.proofs.EscapeLaws.{a_byte}
use Rattle.kfs_script.proofs.escape.esc_of.Goals as goal

pub loop-rest-preserved : goal.loop-rest-preserved
loop-rest-preserved c = rw c.in_ok-push.ensures.ok (a_byte c.loop-rest.text c.loop-rest.rest.now c.args.word.now c.in-Some.after.now c.in-Some.byte (sym c.is_empty.ensures ∙ c.loop-rest-test.true) c.in-Some.ensures.value c.loop-rest.invariant)
