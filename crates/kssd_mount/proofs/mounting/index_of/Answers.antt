use Rattle.std.proofs.Common.{◌≤◌, ℕ, sym, subst, refl, arith}
use Rattle.kssd_root.proofs.Anchored.{kept_still}
use Rattle.kssd_index.proofs.Bounds.{zero_parts_are}
use Rattle.kssd_mount.proofs.mounting.index_of.Goals as goal

pub returns-in_err-index-clause-settled : goal.returns-in_err-index-clause-settled
returns-in_err-index-clause-settled g c =
    let old = g.N.Nand.flash c.args.nand.now in
    record {
      blocks = refl;
      kept = kept_still c.args.parts.page c.args.parts.anchor old.blocks old.image c.requires.parts.anchored;
      age = omega arith;
      idle = λ is. record { image = refl; ops = refl };
    }

pub returns-in_ok-index-clause-settled : goal.returns-in_ok-index-clause-settled
returns-in_ok-index-clause-settled g c =
    let old = g.N.Nand.flash c.args.nand.now in
    record {
      blocks = refl;
      kept = kept_still c.args.parts.page c.args.parts.anchor old.blocks old.image c.requires.parts.anchored;
      age = omega arith;
      idle = λ is. record { image = refl; ops = refl };
    }

pub returns-in_ok-index-clause-stands : goal.returns-in_ok-index-clause-stands
returns-in_ok-index-clause-stands g c =
    let old = g.N.Nand.flash c.args.nand.now in
    c.in_ok-index.ensures.stands old.blocks old.image c.requires.parts

pub returns-in_err-index-2-clause-usual : goal.returns-in_err-index-2-clause-usual
returns-in_err-index-2-clause-usual g c low =
    let old = g.N.Nand.flash c.args.nand.now in
    c.settle.ensures.usual (subst (λ (n : ℕ). n ≤ 3) (sym (zero_parts_are c.args.parts old.blocks old.image c.requires.parts)) low)

pub returns-in_ok-index-2-clause-usual : goal.returns-in_ok-index-2-clause-usual
returns-in_ok-index-2-clause-usual g c low =
    let old = g.N.Nand.flash c.args.nand.now in
    c.settle.ensures.usual (subst (λ (n : ℕ). n ≤ 3) (sym (zero_parts_are c.args.parts old.blocks old.image c.requires.parts)) low)
