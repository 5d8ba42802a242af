use Rattle.std.proofs.Common.{◌∙◌, sym}
use Rattle.nand_mem.proofs.Files.{whole_is}
use Rattle.nand_mem.proofs.image.read_slot.Goals as goal

pub returns-else-rest-lt-PAGE_BYTES-clause-ok : goal.returns-else-rest-lt-PAGE_BYTES-clause-ok
returns-else-rest-lt-PAGE_BYTES-clause-ok c =
    whole_is c.args.bytes.now 4160 c.in-len1-up.len_at_least c.if-state-eq0.false c.if-state-eq2.false c.if-state-gt2.false ∙ sym c.fill_slot.ensures
