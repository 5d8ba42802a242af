use Rattle.std.proofs.Common.{◌∙◌, ℕ, Option, refl, ap, subst, inl, inr, arith}
use Rattle.std.specs.Prelude.{IfSome}
use Rattle.kv_nand.proofs.Chaining.{works_blocks}
use Rattle.kssd_index.specs.Standing.{index_age}
use Rattle.kssd_reclaim.specs.Reclaim.{AllCopied}
use Rattle.kssd_work.proofs.Rounds.{none_done, leaves_still, leaves_since, IsBegun, begun, few_since, works_since, stops_since, counted_more, all_since, as_many, rested_unfrozen}
use Rattle.kssd_work.proofs.Paid.{soon_since, enough_since, index_since, copied_few, copied_part}
use Rattle.kssd_work.proofs.collecting.collect_block.Goals as goal

pub returns-then-operations-eq0-clause-leaves : goal.returns-then-operations-eq0-clause-leaves
returns-then-operations-eq0-clause-leaves g c =
    let flash = g.N.Nand.flash c.args.nand.now in
    leaves_still c.args.mounted.now flash flash _ refl c.requires.stands (omega arith)

pub returns-then-operations-eq0-clause-ended : goal.returns-then-operations-eq0-clause-ended
returns-then-operations-eq0-clause-ended g c =
    let none = c.if-operations-eq0.true in
    inr (none_done (g.N.Nand.flash c.args.nand.now) c.args.operations 4 (g.met.N.Nand.sound c.args.nand.now) (omega (arith, none)))

pub returns-then-not-collection_due-clause-leaves : goal.returns-then-not-collection_due-clause-leaves
returns-then-not-collection_due-clause-leaves g c =
    let flash = g.N.Nand.flash c.args.nand.now in
    leaves_still c.args.mounted.now flash flash _ refl c.requires.stands (omega arith)

pub returns-then-not-collection_due-clause-ended : goal.returns-then-not-collection_due-clause-ended
returns-then-not-collection_due-clause-ended g c = inl (c.requires.rested, λ due. let is = c.collection_due.ensures.1 due in let isn't = c.if-not-collection_due.true in absurd cc)

pub returns-in_err-reclaim-clause-leaves : goal.returns-in_err-reclaim-clause-leaves
returns-in_err-reclaim-clause-leaves g c =
    let flash = g.N.Nand.flash c.args.nand.now in
    leaves_still c.args.mounted.now flash flash _ refl c.requires.stands (omega arith)

pub returns-in_err-left-clause-leaves : goal.returns-in_err-left-clause-leaves
returns-in_err-left-clause-leaves g c =
    let old = g.N.Nand.flash c.args.nand.now in
    let same = ap index_age c.take_up.ensures.index in
    leaves_since old old (g.N.Nand.flash c.copy_block.new.nand) _ _ refl c.copy_block.ensures.leaves (omega (arith, same))

pub end_block-requires-clause-copied : goal.end_block-requires-clause-copied
end_block-requires-clause-copied g c =
    let done = c.in_ok-left.ensures in
    record {
      busy = done.collected.busy;
      copies = done.collected.copies;
      all = subst (λ (o : Option ℕ). IfSome o (λ _. AllCopied c.copy_block.new.reclaim c.copy_block.new.mounted.values)) c.in-Some.is done.all;
    }

pub end_block-requires-clause-unfrozen : goal.end_block-requires-clause-unfrozen
end_block-requires-clause-unfrozen g c = rested_unfrozen c.args.mounted.now c.copy_block.new.mounted (c.copy_block.ensures.index ∙ c.take_up.ensures.index) c.requires.rested

pub returns-in-Some-clause-leaves : goal.returns-in-Some-clause-leaves
returns-in-Some-clause-leaves g c =
    let old = g.N.Nand.flash c.args.nand.now in
    let mid = g.N.Nand.flash c.copy_block.new.nand in
    let same = ap index_age c.take_up.ensures.index in
    let still = ap index_age c.copy_block.ensures.index in
    leaves_since old mid (g.N.Nand.flash c.end_block.new.nand) _ _ (works_blocks old mid _ _ c.in_ok-left.ensures.works) c.end_block.ensures.leaves (omega (arith, same, still))

pub returns-in-Some-clause-few : goal.returns-in-Some-clause-few
returns-in-Some-clause-few g c =
    let old = g.N.Nand.flash c.args.nand.now in
    let mid = g.N.Nand.flash c.copy_block.new.nand in
    let done = c.in_ok-left.ensures in
    let b : IsBegun old mid c.args.operations c.in-Some.left = begun old mid c.args.operations c.in-Some.left _ c.in-Some.is (omega (arith, c.ranges.operations.fits)) done.few done.works done.exact in
    few_since old mid c.args.operations c.in-Some.left b c.end_block.result c.end_block.ensures.few

pub returns-in-Some-clause-works : goal.returns-in-Some-clause-works
returns-in-Some-clause-works g c =
    let old = g.N.Nand.flash c.args.nand.now in
    let mid = g.N.Nand.flash c.copy_block.new.nand in
    let done = c.in_ok-left.ensures in
    let b : IsBegun old mid c.args.operations c.in-Some.left = begun old mid c.args.operations c.in-Some.left _ c.in-Some.is (omega (arith, c.ranges.operations.fits)) done.few done.works done.exact in
    works_since old mid (g.N.Nand.flash c.end_block.new.nand) c.args.operations c.in-Some.left b c.end_block.result c.end_block.ensures.few c.end_block.ensures.works

pub returns-in-Some-clause-stops : goal.returns-in-Some-clause-stops
returns-in-Some-clause-stops g c =
    let old = g.N.Nand.flash c.args.nand.now in
    let mid = g.N.Nand.flash c.copy_block.new.nand in
    let done = c.in_ok-left.ensures in
    let b : IsBegun old mid c.args.operations c.in-Some.left = begun old mid c.args.operations c.in-Some.left _ c.in-Some.is (omega (arith, c.ranges.operations.fits)) done.few done.works done.exact in
    stops_since old mid (g.N.Nand.flash c.end_block.new.nand) c.args.operations c.in-Some.left b c.end_block.result c.end_block.ensures.stops

pub returns-in-Some-clause-ended : goal.returns-in-Some-clause-ended
returns-in-Some-clause-ended g c =
    let old = g.N.Nand.flash c.args.nand.now in
    let mid = g.N.Nand.flash c.copy_block.new.nand in
    let m = c.args.mounted.now in
    let v = c.copy_block.new.mounted.values in
    let done = c.in_ok-left.ensures in
    let b : IsBegun old mid c.args.operations c.in-Some.left = begun old mid c.args.operations c.in-Some.left _ c.in-Some.is (omega (arith, c.ranges.operations.fits)) done.few done.works done.exact in
    all_since old mid (g.N.Nand.flash c.end_block.new.nand) m c.end_block.new.mounted v c.args.operations c.in-Some.left b (c.collection_due.ensures.0 c.if-not-collection_due.false)
    (as_many m c.take_up.new.mounted v c.in_ok-reclaim.ensures.rest done.none) c.end_block.result c.end_block.ensures.ended

pub returns-in-Some-clause-counted : goal.returns-in-Some-clause-counted
returns-in-Some-clause-counted g c =
    let old = g.N.Nand.flash c.args.nand.now in
    let mid = g.N.Nand.flash c.copy_block.new.nand in
    let done = c.in_ok-left.ensures in
    let b : IsBegun old mid c.args.operations c.in-Some.left = begun old mid c.args.operations c.in-Some.left _ c.in-Some.is (omega (arith, c.ranges.operations.fits)) done.few done.works done.exact in
    counted_more old mid (g.N.Nand.flash c.end_block.new.nand) c.end_block.new.mounted c.args.operations c.in-Some.left b c.end_block.result c.end_block.ensures.few c.end_block.ensures.counted

pub returns-in-Some-clause-idle : goal.returns-in-Some-clause-idle
returns-in-Some-clause-idle g c nothing = absurd (nothing (c.collection_due.ensures.0 c.if-not-collection_due.false))

pub returns-in-None-clause-leaves : goal.returns-in-None-clause-leaves
returns-in-None-clause-leaves g c =
    let old = g.N.Nand.flash c.args.nand.now in
    let same = ap index_age c.take_up.ensures.index in
    leaves_since old old (g.N.Nand.flash c.copy_block.new.nand) _ _ refl c.copy_block.ensures.leaves (omega (arith, same))

pub returns-in-None-clause-idle : goal.returns-in-None-clause-idle
returns-in-None-clause-idle g c nothing = absurd (nothing (c.collection_due.ensures.0 c.if-not-collection_due.false))

pub returns-then-operations-eq0-clause-enough : goal.returns-then-operations-eq0-clause-enough
returns-then-operations-eq0-clause-enough g c none = inr (omega (arith, c.if-operations-eq0.true))

pub returns-then-not-collection_due-clause-enough : goal.returns-then-not-collection_due-clause-enough
returns-then-not-collection_due-clause-enough g c none = inl (c.requires.rested, λ due. let is = c.collection_due.ensures.1 due in let isn't = c.if-not-collection_due.true in absurd cc)

pub returns-in-Some-clause-soon : goal.returns-in-Some-clause-soon
returns-in-Some-clause-soon g c = soon_since c.args.operations c.in-Some.left (copied_few c.args.operations c.in-Some.left _ c.in-Some.is c.in_ok-left.ensures.most) c.end_block.result c.end_block.ensures.soon

pub returns-in-Some-clause-index : goal.returns-in-Some-clause-index
returns-in-Some-clause-index g c = index_since c.args.mounted.now c.copy_block.new.mounted c.end_block.new.mounted (c.copy_block.ensures.index ∙ c.take_up.ensures.index) c.end_block.result c.end_block.ensures.index

pub returns-in-Some-clause-enough : goal.returns-in-Some-clause-enough
returns-in-Some-clause-enough g c = enough_since c.end_block.new.mounted c.args.operations c.in-Some.left (copied_few c.args.operations c.in-Some.left _ c.in-Some.is c.in_ok-left.ensures.most) c.end_block.result c.end_block.ensures.enough

pub returns-in-None-clause-enough : goal.returns-in-None-clause-enough
returns-in-None-clause-enough g c none = inr (copied_part c.args.operations _ c.in-None.is c.in_ok-left.ensures.most)
