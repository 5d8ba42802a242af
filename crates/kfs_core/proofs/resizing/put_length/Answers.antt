use Rattle.std.proofs.Common.{Result, Ok, Err, OnOk}
use Rattle.std.proofs.lemmas.Result.{IfErr-weaker}
use Rattle.kfs_core.proofs.Lengths.{puts_cut, puts_none, cut_fails}
use Rattle.kfs_core.proofs.resizing.put_length.Goals as goal

puts_cut_ok : {X E : Type 0} {P Q R : Type 0} (r : Result X E) → (P → Q → R) → OnOk r P → OnOk r Q → OnOk r R
puts_cut_ok (Ok x) f p q = f p q
puts_cut_ok (Err e) f p q = tt

pub returns-then-length-size-clause-puts : goal.returns-then-length-size-clause-puts
returns-then-length-size-clause-puts g c = puts_cut_ok c.set_length.result
    (puts_cut c.args.running.now.tx c.set_length.new.running.tx c.args.node c.args.size c.args.length c.if-length-size.true) c.set_length.ensures.resizes c.set_length.ensures.keys

pub returns-then-length-size-clause-err : goal.returns-then-length-size-clause-err
returns-then-length-size-clause-err g c = IfErr-weaker c.set_length.result _ _
    (λ fault h. cut_fails c.args.running.now.tx c.args.size c.args.length fault c.set_length.new.running.tx.machine c.if-length-size.true h) c.set_length.ensures.err

pub returns-clause-puts : goal.returns-clause-puts
returns-clause-puts g c = puts_none c.args.running.now.tx c.args.node c.args.size c.args.length c.if-length-size.false
