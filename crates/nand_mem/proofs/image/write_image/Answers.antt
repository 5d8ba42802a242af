use Rattle.std.proofs.Common.{◌≡◌, ◌∙◌, ◌<◌, ◌++◌, length, arith}
use Rattle.nand_mem.specs.Slots.{image_of}
use Rattle.nand_mem.specs.ImageFile.{header}
use Rattle.nand_mem.proofs.Files.{pages_bytes-zero, write_more}
use Rattle.nand_mem.proofs.image.write_image.Goals as goal

pub loop-slot-init : goal.loop-slot-init
loop-slot-init c =
    let out : c.append.new.self ≡ header c.args.blocks = c.in_ok-append.ensures.ok ∙ (λ i. c.in_ok-out.ensures i ++ c.to_be_bytes.ensures i) in
    rw (pages_bytes-zero (image_of c.args.slots.now)) out

pub loop-slot-preserved : goal.loop-slot-preserved
loop-slot-preserved c =
    let within : c.loop-slot.slot-index < length c.args.slots.now = omega arith in
    write_more c.args.slots.now c.loop-slot.slot-index c.slot-item.result (header c.args.blocks) c.loop-slot.out c.write_slot.new.out within c.slot-item.is c.loop-slot.invariant c.in_ok-write_slot.ensures
