use Rattle.std.proofs.Common.{arith}
use Rattle.kssd_root.proofs.Anchored.{age_is, kept_still}
use Rattle.kssd_index.proofs.Placing.{placed}
use Rattle.kssd_index.proofs.index.Index.settle.Goals as goal

pub returns-in_err-table-clause-kept : goal.returns-in_err-table-clause-kept
returns-in_err-table-clause-kept g c =
    let old = g.N.Nand.flash c.args.nand.now in
    let parts = c.args.parts in
    let h = c.requires.parts in
    let age = age_is parts.page parts.anchor old.image h.anchored.newest in
    kept_still parts.page parts.anchor old.blocks old.image h.anchored

pub flush-requires-clause-number : goal.flush-requires-clause-number
flush-requires-clause-number g c =
    let old = g.N.Nand.flash c.args.nand.now in
    let parts = c.args.parts in
    let h = c.requires.parts in
    let age = age_is parts.page parts.anchor old.image h.anchored.newest in
    omega (arith, age, c.requires.number)

pub returns-in_err-ring-clause-aged : goal.returns-in_err-ring-clause-aged
returns-in_err-ring-clause-aged g c =
    let old = g.N.Nand.flash c.args.nand.now in
    let parts = c.args.parts in
    let h = c.requires.parts in
    let age = age_is parts.page parts.anchor old.image h.anchored.newest in
    omega (arith, age, c.flush.ensures.aged)

pub returns-clause-stands : goal.returns-clause-stands
returns-clause-stands g c =
    let old = g.N.Nand.flash c.args.nand.now in
    let parts = c.args.parts in
    let h = c.requires.parts in
    let age = age_is parts.page parts.anchor old.image h.anchored.newest in
    let new = g.N.Nand.flash c.flush.new.nand in
    let p = placed c.flush.new.self c.in_ok-table.table c.in_ok-ring.ring _ _ c.seq.result c.greatest_number-age.result new.blocks new.image c.in_ok-ring.ensures.root c.in_ok-table.ensures c.in_ok-ring.ensures.ring c.in_ok-ring.ensures.log c.in_ok-ring.ensures.table c.seq.ensures.number c.greatest_number-age.ensures in
    p.stands

pub returns-clause-aged : goal.returns-clause-aged
returns-clause-aged g c =
    let old = g.N.Nand.flash c.args.nand.now in
    let parts = c.args.parts in
    let h = c.requires.parts in
    let age = age_is parts.page parts.anchor old.image h.anchored.newest in
    omega (arith, age, c.flush.ensures.aged)

pub returns-clause-age : goal.returns-clause-age
returns-clause-age g c =
    let old = g.N.Nand.flash c.args.nand.now in
    let parts = c.args.parts in
    let h = c.requires.parts in
    let age = age_is parts.page parts.anchor old.image h.anchored.newest in
    let new = g.N.Nand.flash c.flush.new.nand in
    let p = placed c.flush.new.self c.in_ok-table.table c.in_ok-ring.ring _ _ c.seq.result c.greatest_number-age.result new.blocks new.image c.in_ok-ring.ensures.root c.in_ok-table.ensures c.in_ok-ring.ensures.ring c.in_ok-ring.ensures.log c.in_ok-ring.ensures.table c.seq.ensures.number c.greatest_number-age.ensures in
    omega (arith, age, p.age_is, c.flush.ensures.aged)
