use Rattle.std.proofs.Common.{◌≡◌, ◌<◌, ◌∙◌, length, ap, arith}
use Rattle.kv_nand.specs.declared.nand.OpKind.TheVariants.{Program}
use Rattle.kv_nand.specs.Flash.{with_page}
use Rattle.nand_mem.specs.Slots.{state_of, image_of}
use Rattle.nand_mem.specs.Left.{program_left}
use Rattle.nand_mem.specs.Plans.{fate_of}
use Rattle.nand_mem.specs.Machine.{answer_of, program_outcome}
use Rattle.nand_mem.proofs.Images.{image_of-read, is_with_page}
use Rattle.nand_mem.proofs.state.State.program_page.Goals as goal

pub returns-clause-exact : goal.returns-clause-exact
returns-clause-exact c =
    let old = c.args.self.now in
    let mid = c.operate-fate.new.self in
    let fate = fate_of Program old.cut old.fail in
    let same : mid.slots.items ≡ old.slots.items = c.operate-fate.ensures.slots in
    let within : c.args.page < length mid.slots.items = omega (arith, ap length same) in
    let outcome : c.program_ends.result ≡ program_outcome fate = c.program_ends.ensures ∙ ap program_outcome c.operate-fate.ensures.fate in
    let read : state_of c.index_mut.result.now ≡ image_of old.slots.items c.args.page =
    ap state_of c.index_mut.ensures.value ∙ image_of-read mid.slots.items c.args.page c.index_mut.result.now within c.index_mut.ensures.value ∙ ap (λ slots. image_of slots c.args.page) same in
    let here : state_of c.program_slot.new.slot ≡ program_left (program_outcome fate) (image_of old.slots.items c.args.page) c.args.from.now =
    c.program_slot.ensures ∙ λ i. program_left (outcome i) (read i) c.args.from.now in
    let image = is_with_page mid.slots.items c.args.page c.program_slot.new.slot _ within here ∙ ap (λ slots. with_page (image_of slots) c.args.page (program_left (program_outcome fate) (image_of old.slots.items c.args.page) c.args.from.now)) same in
    record {
      answer = c.answer.ensures ∙ ap answer_of c.operate-fate.ensures.fate;
      after = λ i. record {
        flash = record (c.operate-fate.ensures.flash i) { image = image i };
        cut = c.operate-fate.ensures.cut i;
        fail = c.operate-fate.ensures.fail i;
      };
    }
