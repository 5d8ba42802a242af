use Rattle.std.proofs.Common.{◌≡◌, ◌==◌, ◌+◌, ◌-◌, false, ◌∙◌, ap, arith}
use Rattle.std.proofs.lemmas.Bool.Decides.{nat_tests}
use Rattle.std.proofs.lemmas.Result.{err_from_is_err_and}
use Rattle.kfs_core.specs.Core.{KfsState, tx_in}
use Rattle.kfs_core.specs.Room.{chunks_for}
use Rattle.kfs_core.proofs.Lengths.{resized_done, resize_failed}
use Rattle.kfs_core.proofs.kfs.Kfs.set_length.Goals as goal

pub returns-in_err-resize-clause-does : goal.returns-in_err-resize-clause-does
returns-in_err-resize-clause-does g c =
    let p = err_from_is_err_and c.from_residual-in_err-resize.result c.from_residual-in_err-resize.ensures.1 in
    let apart : (c.in_ok-size.size == c.args.length) ≡ false = grind (arith, nat_tests, c.if-size-length.false) in
    rw (p.1, p.2) (resize_failed c.args.self.now _ c.self.inside.running.tx c.resizable.new.running.tx c.space-space.result c.args.node c.in_ok-size.size c.args.length
    c.space-space.ensures (ap tx_in c.self.view_is) c.in_ok-size.ensures.leaves c.in_ok-size.ensures.gives apart c.in_err-resize.field-0.0 c.in_err-resize.ensures.err
    (ap (λ (s : KfsState). record s { running = c.resize.new.running }) c.self.view_is))

pub returns-clause-does : goal.returns-clause-does
returns-clause-does g c =
    let apart : (c.in_ok-size.size == c.args.length) ≡ false = grind (arith, nat_tests, c.if-size-length.false) in
    let charge : c.saturating_sub-self-inside.result ≡ c.args.self.now.charge + chunks_for c.args.length - chunks_for c.in_ok-size.size =
    c.saturating_sub-self-inside.ensures ∙ (λ i. (c.self.view_is i).charge + c.chunks_for-new.ensures i - c.chunks_for-old.ensures i) in
    let chunks : c.saturating_sub-self-inside-2.result ≡ c.args.self.now.chunks + chunks_for c.args.length - chunks_for c.in_ok-size.size =
    c.saturating_sub-self-inside-2.ensures ∙ (λ i. (c.self.view_is i).chunks + c.chunks_for-new.ensures i - c.chunks_for-old.ensures i) in
    resized_done c.args.self.now _ c.self.inside.running.tx c.resizable.new.running.tx c.space-space.result c.args.node c.in_ok-size.size c.args.length
    c.space-space.ensures (ap tx_in c.self.view_is) c.in_ok-size.ensures.leaves c.in_ok-size.ensures.gives apart c.in_ok-resize.ensures.resizes
    (λ i. record (c.self.view_is i) { running = c.resize.new.running; charge = charge i; chunks = chunks i })
