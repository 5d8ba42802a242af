use Rattle.std.proofs.Common.{◌≡◌, ℕ, ◌+◌, List, sym, subst, arith}
use Rattle.kssd_model.specs.RunPages.{AreRunBlocks}
use Rattle.kssd_parts.proofs.RunBlocks.{one_run_block}
use Rattle.kssd_parts.proofs.run.opened.Goals as goal

pub open-requires-clause-blocks : goal.open-requires-clause-blocks
open-requires-clause-blocks g c =
    let device : (g.N.Nand.flash c.args.nand.now).blocks ≡ 256 = omega arith in
    subst (λ (d : ℕ). AreRunBlocks d c.in_ok-one_block.field-0) (sym device)
    (subst (λ (bs : List ℕ). AreRunBlocks 256 bs) (sym c.in_ok-one_block.ensures) (one_run_block (20 + c.args.place) (omega arith) (omega arith)))
