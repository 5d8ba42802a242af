use Rattle.std.proofs.Common.{◌<◌, ◌++◌, List, ℕ, length, sym, ap, arith}
use Rattle.nand_mem.specs.Slots.{image_of}
use Rattle.nand_mem.proofs.Files.{pages_bytes-zero, read_more, goes_on}
use Rattle.nand_mem.proofs.image.read_pages.Goals as goal

pub loop-page-init : goal.loop-page-init
loop-page-init c = ap (λ (front : List ℕ). front ++ c.args.bytes.now) (sym (pages_bytes-zero (image_of c.args.slots.now)))

pub loop-page-preserved : goal.loop-page-preserved
loop-page-preserved c =
    let within : c.loop-page.page < length c.loop-page.slots = omega arith in
    read_more c.loop-page.slots c.loop-page.page c.read_slot.new.slot c.args.bytes.now c.loop-page.rest.now c.in_ok-used.used within c.loop-page.invariant c.in_ok-used.ensures.ok c.in_ok-used.ensures.within

pub returns-else-is_empty-clause-err : goal.returns-else-is_empty-clause-err
returns-else-is_empty-clause-err c =
    goes_on c.loop-page.slots c.args.bytes.now c.loop-page.rest.now c.loop-page.page (length c.args.slots.now) (omega arith) (λ e. grind (arith, e)) c.loop-page.invariant
