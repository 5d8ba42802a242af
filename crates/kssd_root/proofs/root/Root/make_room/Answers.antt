use Rattle.std.proofs.Common.{arith}
use Rattle.kssd_root.proofs.Anchored.{kept_still}
use Rattle.kssd_root.proofs.Moving.{root_age, alike_then}
use Rattle.kssd_root.proofs.root.Root.make_room.Goals as goal

pub returns-then-level-lt-MAX_ZERO-clause-kept : goal.returns-then-level-lt-MAX_ZERO-clause-kept
returns-then-level-lt-MAX_ZERO-clause-kept g c =
    let old = g.N.Nand.flash c.args.nand.now in
    let root = c.args.self.now in
    kept_still root.page root.anchor old.blocks old.image c.requires.root.anchored

pub returns-then-level-lt-MAX_ZERO-clause-aged : goal.returns-then-level-lt-MAX_ZERO-clause-aged
returns-then-level-lt-MAX_ZERO-clause-aged g c =
    let old = g.N.Nand.flash c.args.nand.now in
    let root = c.args.self.now in
    omega (arith, root_age root old.blocks old.image c.requires.root)

pub merge-requires-clause-number : goal.merge-requires-clause-number
merge-requires-clause-number g c =
    let old = g.N.Nand.flash c.args.nand.now in
    let root = c.args.self.now in
    let mid = g.N.Nand.flash c.push_down.new.nand in
    let now = root_age c.push_down.new.self mid.blocks mid.image c.in_ok-push_down.ensures.root in
    omega (arith, now, c.push_down.ensures.aged, c.requires.number)

pub returns-in_err-merge-clause-aged : goal.returns-in_err-merge-clause-aged
returns-in_err-merge-clause-aged g c =
    let old = g.N.Nand.flash c.args.nand.now in
    let root = c.args.self.now in
    let mid = g.N.Nand.flash c.push_down.new.nand in
    let now = root_age c.push_down.new.self mid.blocks mid.image c.in_ok-push_down.ensures.root in
    omega (arith, now, c.push_down.ensures.aged, c.merge.ensures.aged)

pub returns-clause-aged : goal.returns-clause-aged
returns-clause-aged g c =
    let old = g.N.Nand.flash c.args.nand.now in
    let root = c.args.self.now in
    let mid = g.N.Nand.flash c.push_down.new.nand in
    let now = root_age c.push_down.new.self mid.blocks mid.image c.in_ok-push_down.ensures.root in
    omega (arith, now, c.push_down.ensures.aged, c.merge.ensures.aged)

pub returns-clause-over : goal.returns-clause-over
returns-clause-over g c = alike_then _ _ _ c.in_ok-push_down.ensures.over c.in_ok-merge.ensures.over
