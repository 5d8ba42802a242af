use Rattle.std.proofs.Common.{◌∙◌, ap, subst, ℕ, Option}
use Rattle.std.specs.Prelude.{IfSome}
use Rattle.kv_nand.specs.Flash.{Flash}
use Rattle.kv_nand.proofs.Chaining.{read_works, works_then_works}
use Rattle.kssd_values.specs.Pages.{is_value}
use Rattle.kssd_values.specs.Changes.{CopiesPage}
use Rattle.kssd_reclaim.proofs.Holding.{collects_begun, collects_added}
use Rattle.kssd_values.proofs.Standing.{not_erased}
use Rattle.kssd_reclaim.proofs.reclaim.Reclaim.step.Goals as goal

pub add-requires-clause-stands : goal.add-requires-clause-stands
add-requires-clause-stands g c =
    let before = (g.N.Nand.flash c.args.nand.now).image in
    let source = c.in-Some.source in
    let stands = c.requires.stands source c.in-Some.ensures.ahead.block_is c.in-Some.ensures.live in
    ap is_value (c.in_ok-target.ensures.keeps.live source c.in-Some.ensures.live (not_erased (before source) stands)) ∙ stands

pub returns-in_ok-add-in-Some-2-clause-collects : goal.returns-in_ok-add-in-Some-2-clause-collects
returns-in_ok-add-in-Some-2-clause-collects g c h =
    let flash = g.N.Nand.flash in
    let before = (flash c.args.nand.now).image in
    let after = (flash c.copy.new.nand).image in
    let page = subst (λ (o : Option ℕ). IfSome o (λ at. CopiesPage before c.in-Some.source at after)) c.in-Some-2.is c.in_ok-target.ensures.copied in
    collects_added c.args.self.now c.add.new.self c.args.values.now c.copy.new.self before after (flash c.add.new.nand).image c.in-Some.source c.in-Some-2.target c.in_ok-target.field-0 c.in-Some-2.is c.in_ok-target.ensures.ok page c.requires.stands c.in_ok-target.ensures.keeps c.in-Some.ensures (ap (λ (f : Flash). f.image) c.in_ok-add-in-Some-2.ensures.read) c.in_ok-add-in-Some-2.ensures.ok h

pub returns-in_ok-add-in-Some-2-clause-works : goal.returns-in_ok-add-in-Some-2-clause-works
returns-in_ok-add-in-Some-2-clause-works g c =
    let flash = g.N.Nand.flash in
    works_then_works (flash c.args.nand.now) (flash c.copy.new.nand) (flash c.add.new.nand) 1 1 0 1 c.in_ok-target.ensures.works (read_works (flash c.copy.new.nand) (flash c.add.new.nand) (g.met.N.Nand.sound c.copy.new.nand) c.in_ok-add-in-Some-2.ensures.read)

pub returns-in-None-2-clause-collects : goal.returns-in-None-2-clause-collects
returns-in-None-2-clause-collects g c h =
    let flash = g.N.Nand.flash in
    collects_begun c.args.self.now c.args.values.now c.copy.new.self (flash c.args.nand.now).image (flash c.copy.new.nand).image c.in_ok-target.field-0 c.in-None-2.is c.in_ok-target.ensures.ok c.requires.stands c.in_ok-target.ensures.keeps h
