use Rattle.std.proofs.Common.{◌≡◌, ◌∙◌, ◌+◌, ℕ, Option, cond, refl, sym, ap, arith}
use Rattle.std.specs.Prelude.{is_some}
use Rattle.std.proofs.lemmas.Result.{err_from_is_err_and}
use Rattle.kv_nand.specs.Flash.{Flash}
use Rattle.kv_nand.specs.Working.{ops_more}
use Rattle.kv_nand.proofs.Chaining.{works_no_ops, works_then_stops, stops_within, falls_stops}
use Rattle.kssd_anchor.specs.Places.{erases_before}
use Rattle.kssd_anchor.proofs.Costs.{erases_known}
use Rattle.kssd_anchor.proofs.writing.next_place.Goals as goal

pub returns-in-Some-2-clause-exact : goal.returns-in-Some-2-clause-exact
returns-in-Some-2-clause-exact g c =
    let flash = g.N.Nand.flash in
    let known = erases_known (flash c.args.nand.now).image c.args.last c.in_ok-page.field-0 c.in-Some.last _ c.in-Some.is refl c.in_ok-page.ensures.ok in
    works_no_ops (flash c.args.nand.now) (flash c.free_page.new.nand) 32 (g.met.N.Nand.sound c.args.nand.now) c.in_ok-page.ensures.works
    ∙ ap (ops_more (flash c.args.nand.now)) (sym (known ∙ ap (λ (f : Option ℕ). cond (is_some f) 0 1) c.in-Some-2.is))

pub returns-clause-exact : goal.returns-clause-exact
returns-clause-exact g c =
    let flash = g.N.Nand.flash in
    let known = erases_known (flash c.args.nand.now).image c.args.last c.in_ok-page.field-0 c.in-Some.last _ c.in-Some.is refl c.in_ok-page.ensures.ok in
    let same = works_no_ops (flash c.args.nand.now) (flash c.free_page.new.nand) 32 (g.met.N.Nand.sound c.args.nand.now) c.in_ok-page.ensures.works in
    let one : (flash c.erase.new.self).ops ≡ ops_more (flash c.args.nand.now) 1 = omega (arith, same, ap (λ (f : Flash). f.ops) c.in_ok-erase-in-None.ensures.ok) in
    one ∙ ap (ops_more (flash c.args.nand.now)) (sym (known ∙ ap (λ (f : Option ℕ). cond (is_some f) 0 1) c.in-None.is))

pub returns-in_err-erase-in-None-clause-within : goal.returns-in_err-erase-in-None-clause-within
returns-in_err-erase-in-None-clause-within g c =
    let flash = g.N.Nand.flash in
    let old = flash c.args.nand.now in
    let mid = flash c.free_page.new.nand in
    let new = flash c.erase.new.self in
    let known = erases_known old.image c.args.last c.in_ok-page.field-0 c.in-Some.last _ c.in-Some.is refl c.in_ok-page.ensures.ok in
    let one : erases_before old.image c.args.last ≡ 1 = known ∙ ap (λ (f : Option ℕ). cond (is_some f) 0 1) c.in-None.is in
    let p = err_from_is_err_and c.from_residual-in_err-erase-in-None.result c.from_residual-in_err-erase-in-None.ensures.1 in
    rw (p.1, p.2) (stops_within old new _ (0 + 1) (32 + 0) (erases_before old.image c.args.last) 32
    (works_then_stops old mid new _ 0 32 1 0 c.in_ok-page.ensures.works (falls_stops mid new c.in_err-erase-in-None.field-0.0 (g.met.N.Nand.sound c.free_page.new.nand) c.in_err-erase-in-None.ensures.err))
    (omega (arith, one)) (omega arith))
