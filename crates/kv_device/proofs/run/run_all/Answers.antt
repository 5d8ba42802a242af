use Rattle.std.proofs.Common.{◌+◌, ◌++◌, ◌∷◌, [], sym, ◌∙◌, ap, take, arith, Result, Ok, Err, OnErr}
use Rattle.std.proofs.lemmas.List.{take_more}
use Rattle.kv_device.specs.Run.{RunsPart}
use Rattle.kv_device.proofs.RunLaws.{Run-more}
use Rattle.kv_device.proofs.run.run_all.Goals as goal

pub loop-command-preserved : goal.loop-command-preserved
loop-command-preserved g c =
    let xs = c.args.commands.now in
    let i = c.loop-command.command-index in
    let front = take_more xs i c.command-item.result c.loop-command-test.true ∙ ap (λ x. take i xs ++ x ∷ []) (sym c.command-item.is) in
    record {
      run = rw (front, c.in_ok-push.ensures.items) (Run-more _ _ _ _ _ _ _ c.loop-command.invariant.run c.serve.ensures.step);
      age = omega arith;
      later = omega arith;
      bounded = omega arith;
    }

on_err : {T E P : Type 0} (r : Result T E) → P → OnErr r P
on_err (Ok value) p = tt
on_err (Err fault) p = p

-- for want of memory one answer more was given than is kept
pub returns-in_err-push-clause-err : goal.returns-in_err-push-clause-err
returns-in_err-push-clause-err g c =
    let xs = c.args.commands.now in
    let i = c.loop-command.command-index in
    let front = take_more xs i c.command-item.result c.loop-command-test.true ∙ ap (λ x. take i xs ++ x ∷ []) (sym c.command-item.is) in
    let part : RunsPart (g.D.Device.machine c.args.device.now) c.args.commands.now (g.D.Device.machine c.serve.new.device) =
    (i + 1, c.loop-command.answers.items ++ c.serve.result ∷ [], rw front (Run-more _ _ _ _ _ _ _ c.loop-command.invariant.run c.serve.ensures.step)) in
    on_err c.from_residual.result part
