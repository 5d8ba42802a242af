use Rattle.std.proofs.Common.{◌≡◌, ◌<◌, ◌∙◌, length, ap, arith}
use Rattle.nand_mem.specs.Slots.{state_of, image_of}
use Rattle.nand_mem.specs.Left.{erase_left}
use Rattle.nand_mem.proofs.Images.{image_of-set, image_of-read}
use Rattle.nand_mem.proofs.changing.erase_block.Goals as goal

pub loop-page-preserved : goal.loop-page-preserved
loop-page-preserved c =
    let inv = c.loop-page.invariant in
    let p = c.loop-page.page in
    let within : p < length c.loop-page.slots = omega arith in
    let here : state_of c.erase_slot.new.slot ≡ erase_left c.args.outcome p (image_of c.args.slots.now p) =
    c.erase_slot.ensures ∙ ap (erase_left c.args.outcome p) (image_of-read _ p c.index-slots-page.result within c.index-slots-page.is ∙ inv.above p (omega arith)) in
    record {
      done = λ q a b. image_of-set c.loop-page.slots p q c.erase_slot.new.slot _ within (λ e. rw e here) (λ ne. inv.done q a (omega arith));
      below = λ q a. image_of-set c.loop-page.slots p q c.erase_slot.new.slot _ within (λ e. absurd (omega arith)) (λ ne. inv.below q a);
      above = λ q a. image_of-set c.loop-page.slots p q c.erase_slot.new.slot _ within (λ e. absurd (omega arith)) (λ ne. inv.above q (omega arith));
    }
