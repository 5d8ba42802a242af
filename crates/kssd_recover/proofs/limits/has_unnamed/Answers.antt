use Rattle.std.proofs.Common.{◌≡◌, ◌∙◌, ℕ, suc, ◌+◌, ◌-◌, ◌/◌, Bool, not, false, sym, ap, subst, arith}
use Rattle.std.specs.Prelude.{◌==◌}
use Rattle.std.specs.List.{list_any, list_all, range_with_len}
use Rattle.kssd_layout.specs.Numbers.{first_value_block_in, value_blocks_in}
use Rattle.kssd_recover.proofs.FirstPassed.{none_more, some_at}
use Rattle.kssd_recover.proofs.limits.has_unnamed.Goals as goal

pub returns-then-is_unnamed : goal.returns-then-is_unnamed
returns-then-is_unnamed c =
    let blocks = c.args.layout.now.blocks in
    sym (some_at (λ block. list_all (λ page. not ((page / 32) == block)) c.args.pages.now) (first_value_block_in blocks) (value_blocks_in blocks) c.loop-block.block (omega arith) (omega arith) (sym c.is_unnamed.ensures ∙ c.if-is_unnamed.true))

pub loop-block-preserved : goal.loop-block-preserved
loop-block-preserved c =
    let blocks = c.args.layout.now.blocks in
    let first = first_value_block_in blocks in
    let test : ℕ → Bool = λ block. list_all (λ page. not ((page / 32) == block)) c.args.pages.now in
    let at : first + (c.loop-block.block - first) ≡ c.loop-block.block = omega arith in
    let next : suc (c.loop-block.block - first) ≡ c.loop-block.block + 1 - first = omega arith in
    subst (λ (n : ℕ). list_any test (range_with_len first n) ≡ false) next (none_more test first (c.loop-block.block - first) c.loop-block.invariant (ap test at ∙ sym c.is_unnamed.ensures ∙ c.if-is_unnamed.false))
