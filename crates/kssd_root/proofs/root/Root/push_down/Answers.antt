use Rattle.std.proofs.Common.{arith}
use Rattle.kssd_root.proofs.Anchored.{kept_still}
use Rattle.kssd_root.proofs.Moving.{root_age}
use Rattle.kssd_root.proofs.root.Root.push_down.Goals as goal

pub returns-then-one_entries-le-FULL_ONE-clause-kept : goal.returns-then-one_entries-le-FULL_ONE-clause-kept
returns-then-one_entries-le-FULL_ONE-clause-kept g c =
    let old = g.N.Nand.flash c.args.nand.now in
    let root = c.args.self.now in
    kept_still root.page root.anchor old.blocks old.image c.requires.root.anchored

pub returns-then-one_entries-le-FULL_ONE-clause-aged : goal.returns-then-one_entries-le-FULL_ONE-clause-aged
returns-then-one_entries-le-FULL_ONE-clause-aged g c =
    let old = g.N.Nand.flash c.args.nand.now in
    let root = c.args.self.now in
    omega (arith, root_age root old.blocks old.image c.requires.root)
