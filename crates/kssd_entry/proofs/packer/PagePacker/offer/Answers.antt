use Rattle.std.proofs.Common.{length, ap, refl, arith}
use Rattle.std.proofs.lemmas.List.{length-take-le}
use Rattle.kssd_entry.proofs.Filling.{length-entry_bytes}
use Rattle.kssd_entry.proofs.packer.PagePacker.offer.Goals as goal

pub returns-then-self-size-gt-DATA_BYTES-clause-offer : goal.returns-then-self-size-gt-DATA_BYTES-clause-offer
returns-then-self-size-gt-DATA_BYTES-clause-offer c =
    let bytes = ap (λ p. length p.bytes) c.self.view_is in
    (omega (arith, bytes, length-entry_bytes c.args.entry.now, length-take-le c.self.inside.used c.self.inside.page (omega arith), c.self.invariant.whole), refl)

pub returns-clause-offer : goal.returns-clause-offer
returns-clause-offer c =
    let bytes = ap (λ p. length p.bytes) c.self.view_is in
    (omega (arith, bytes, length-entry_bytes c.args.entry.now, length-take-le c.self.inside.used c.self.inside.page (omega arith), c.self.invariant.whole), c.add_entry.ensures)
