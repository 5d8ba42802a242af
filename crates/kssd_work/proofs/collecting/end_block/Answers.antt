use Rattle.std.proofs.Common.{◌≡◌, ◌∙◌, ℕ, ◌-◌, ◌≤◌, ◌^◌, sym, subst, inl, inr, arith}
use Rattle.std.proofs.lemmas.Result.{err_from_is_err_and}
use Rattle.kv_nand.specs.Working.{ops_more}
use Rattle.kv_nand.proofs.Chaining.{works_within, stops_within}
use Rattle.kssd_work.proofs.Rounds.{none_done, busy_leaves, freed, nothing_copied, some_copied, copied_none_due, copied_counted}
use Rattle.kssd_work.proofs.collecting.end_block.Goals as goal

pub returns-then-operations-eq0-clause-leaves : goal.returns-then-operations-eq0-clause-leaves
returns-then-operations-eq0-clause-leaves g c = busy_leaves c.args.mounted.now (g.N.Nand.flash c.args.nand.now) _ c.requires.copied.busy (omega arith)

pub returns-then-operations-eq0-clause-ended : goal.returns-then-operations-eq0-clause-ended
returns-then-operations-eq0-clause-ended g c =
    let none = c.if-operations-eq0.true in
    inr (none_done (g.N.Nand.flash c.args.nand.now) c.args.operations 4 (g.met.N.Nand.sound c.args.nand.now) (omega (arith, none)))

pub returns-in_err-finish-clause-stops : goal.returns-in_err-finish-clause-stops
returns-in_err-finish-clause-stops g c =
    let old = g.N.Nand.flash c.args.nand.now in
    let new = g.N.Nand.flash c.finish.new.nand in
    let empty = nothing_copied c.args.reclaim c.as_slice.result.now (c.as_slice.ensures ∙ c.copies.ensures.copies) (sym c.is_empty.ensures ∙ c.if-is_empty.true) in
    let p = err_from_is_err_and c.from_residual.result c.from_residual.ensures.1 in
    rw (p.1, p.2) (stops_within old new _ 1 0 _ _ (c.in_err-finish.ensures.none_stops empty) (omega (arith, c.if-operations-eq0.false)) (omega arith))

pub returns-then-is_empty-clause-works : goal.returns-then-is_empty-clause-works
returns-then-is_empty-clause-works g c =
    let old = g.N.Nand.flash c.args.nand.now in
    let new = g.N.Nand.flash c.finish.new.nand in
    let empty = nothing_copied c.args.reclaim c.as_slice.result.now (c.as_slice.ensures ∙ c.copies.ensures.copies) (sym c.is_empty.ensures ∙ c.if-is_empty.true) in
    works_within old new 1 0 _ _ (c.in_ok-finish.ensures.none empty).0 (omega (arith, c.if-operations-eq0.false)) (omega arith)

pub returns-then-is_empty-clause-ended : goal.returns-then-is_empty-clause-ended
returns-then-is_empty-clause-ended g c = freed c.args.mounted.now.values c.finish.new.mounted c.in_ok-finish.ensures.over c.in_ok-finish.ensures.frees

pub returns-then-is_empty-clause-counted : goal.returns-then-is_empty-clause-counted
returns-then-is_empty-clause-counted g c =
    let old = g.N.Nand.flash c.args.nand.now in
    let new = g.N.Nand.flash c.finish.new.nand in
    let empty = nothing_copied c.args.reclaim c.as_slice.result.now (c.as_slice.ensures ∙ c.copies.ensures.copies) (sym c.is_empty.ensures ∙ c.if-is_empty.true) in
    let one : 1 ≡ c.args.operations - (c.args.operations - 1) = omega (arith, c.if-operations-eq0.false) in
    inl (subst (λ (n : ℕ). new.ops ≡ ops_more old n) one (c.in_ok-finish.ensures.none empty).1)

pub returns-then-operations-lt-FINISH_OPERATIONS-clause-leaves : goal.returns-then-operations-lt-FINISH_OPERATIONS-clause-leaves
returns-then-operations-lt-FINISH_OPERATIONS-clause-leaves g c = busy_leaves c.args.mounted.now (g.N.Nand.flash c.args.nand.now) _ c.requires.copied.busy (omega arith)

pub returns-then-operations-lt-FINISH_OPERATIONS-clause-ended : goal.returns-then-operations-lt-FINISH_OPERATIONS-clause-ended
returns-then-operations-lt-FINISH_OPERATIONS-clause-ended g c =
    inr (none_done (g.N.Nand.flash c.args.nand.now) c.args.operations 4 (g.met.N.Nand.sound c.args.nand.now) (omega (arith, c.if-operations-lt-FINISH_OPERATIONS.true)))

pub returns-in_err-finish-2-clause-stops : goal.returns-in_err-finish-2-clause-stops
returns-in_err-finish-2-clause-stops g c =
    let old = g.N.Nand.flash c.args.nand.now in
    let new = g.N.Nand.flash c.finish-2.new.nand in
    let p = err_from_is_err_and c.from_residual-in_err-finish-2.result c.from_residual-in_err-finish-2.ensures.1 in
    rw (p.1, p.2) (stops_within old new _ 4 (2 ^ 64) c.args.operations (2 ^ 64) (c.in_err-finish-2.ensures.unfrozen_stops c.requires.unfrozen) (omega (arith, c.if-operations-lt-FINISH_OPERATIONS.false)) (omega arith))

pub returns-clause-works : goal.returns-clause-works
returns-clause-works g c =
    let old = g.N.Nand.flash c.args.nand.now in
    let new = g.N.Nand.flash c.finish-2.new.nand in
    let four : 4 ≤ c.args.operations - (c.args.operations - 4) = omega (arith, c.if-operations-lt-FINISH_OPERATIONS.false) in
    works_within old new 4 (2 ^ 64) (c.args.operations - (c.args.operations - 4)) (2 ^ 64) (c.in_ok-finish-2.ensures.unfrozen c.requires.unfrozen).works four (omega arith)

pub returns-clause-ended : goal.returns-clause-ended
returns-clause-ended g c = freed c.args.mounted.now.values c.finish-2.new.mounted c.in_ok-finish-2.ensures.over c.in_ok-finish-2.ensures.frees

pub returns-clause-counted : goal.returns-clause-counted
returns-clause-counted g c =
    let old = g.N.Nand.flash c.args.nand.now in
    let new = g.N.Nand.flash c.finish-2.new.nand in
    let some = some_copied c.args.reclaim c.as_slice.result.now (c.as_slice.ensures ∙ c.copies.ensures.copies) (sym c.is_empty.ensures ∙ c.if-is_empty.false) in
    copied_counted c.args.reclaim c.args.mounted.now.values c.finish-2.new.mounted old new c.args.operations c.requires.copied.copies.few some c.in_ok-finish-2.ensures.over c.in_ok-finish-2.ensures.frees (omega (arith, c.if-operations-lt-FINISH_OPERATIONS.false)) (c.in_ok-finish-2.ensures.unfrozen c.requires.unfrozen)

pub returns-then-is_empty-clause-index : goal.returns-then-is_empty-clause-index
returns-then-is_empty-clause-index g c =
    let empty = nothing_copied c.args.reclaim c.as_slice.result.now (c.as_slice.ensures ∙ c.copies.ensures.copies) (sym c.is_empty.ensures ∙ c.if-is_empty.true) in
    inl (c.in_ok-finish.ensures.index empty)

pub returns-clause-soon : goal.returns-clause-soon
returns-clause-soon g c = omega (arith, c.if-operations-lt-FINISH_OPERATIONS.false)

pub returns-clause-index : goal.returns-clause-index
returns-clause-index g c =
    let some = some_copied c.args.reclaim c.as_slice.result.now (c.as_slice.ensures ∙ c.copies.ensures.copies) (sym c.is_empty.ensures ∙ c.if-is_empty.false) in
    inr (copied_none_due c.args.reclaim c.args.mounted.now.values c.finish-2.new.mounted c.requires.copied.copies.few some c.in_ok-finish-2.ensures.over c.in_ok-finish-2.ensures.frees, c.in_ok-finish-2.ensures.root c.requires.unfrozen)
