use Rattle.std.proofs.Common.{◌≤◌, ◌+◌, ◌/◌, ◌%◌, arith}
use Rattle.std.proofs.lemmas.Result.{on_ok_weaker, IfErr-weaker}
use Rattle.kfs_file.proofs.Failing.{cut_fails}
use Rattle.kfs_file.proofs.Resizing.{cuts_nothing, cuts_piece, cut_keys}
use Rattle.kfs_file.proofs.sizing.cut_end.Goals as goal

pub returns-then-rest-eq0-clause-cuts : goal.returns-then-rest-eq0-clause-cuts
returns-then-rest-eq0-clause-cuts g c = cuts_nothing c.args.running.now.tx c.args.node c.args.size (omega arith)

pub returns-clause-cuts : goal.returns-clause-cuts
returns-clause-cuts g c = on_ok_weaker c.cut_piece.result (λ is. cuts_piece c.args.running.now.tx c.cut_piece.new.running.tx c.args.node c.args.size (omega arith) c.if-rest-eq0.false is) c.cut_piece.ensures.ok

pub returns-clause-keys : goal.returns-clause-keys
returns-clause-keys g c = on_ok_weaker c.cut_piece.result
    (λ is ready.
    let one = cut_keys c.args.running.now.tx c.cut_piece.new.running.tx c.args.node (c.args.size / 4096) (c.args.size % 4096) is ready in
    let odd : 1 ≤ (c.args.size % 4096 + 4095) / 4096 = grind (arith, c.if-rest-eq0.false) in
    omega (arith, one, odd)) c.cut_piece.ensures.ok

pub returns-clause-err : goal.returns-clause-err
returns-clause-err g c = IfErr-weaker c.cut_piece.result _ _ (λ fault h. cut_fails c.args.running.now.tx c.args.node (c.args.size / 4096) (c.args.size % 4096) fault c.cut_piece.new.running.tx.machine h) c.cut_piece.ensures.err
