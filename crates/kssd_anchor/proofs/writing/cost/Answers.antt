use Rattle.std.proofs.Common.{◌∙◌, ◌+◌, ℕ, Option, cond, refl, sym, ap}
use Rattle.std.specs.Prelude.{is_some}
use Rattle.kssd_anchor.proofs.Costs.{erases_known}
use Rattle.kssd_anchor.proofs.writing.cost.Goals as goal

pub returns-in-Some-2-clause-ok : goal.returns-in-Some-2-clause-ok
returns-in-Some-2-clause-ok g c =
    let known = erases_known (g.N.Nand.flash c.args.nand.now).image c.args.last c.in_ok-free_page.field-0 c.in-Some.last _ c.in-Some.is refl c.in_ok-free_page.ensures.ok in
    sym (ap (λ (n : ℕ). 1 + n) (known ∙ ap (λ (f : Option ℕ). cond (is_some f) 0 1) c.in-Some-2.is))

pub returns-clause-ok : goal.returns-clause-ok
returns-clause-ok g c =
    let known = erases_known (g.N.Nand.flash c.args.nand.now).image c.args.last c.in_ok-free_page.field-0 c.in-Some.last _ c.in-Some.is refl c.in_ok-free_page.ensures.ok in
    sym (ap (λ (n : ℕ). 1 + n) (known ∙ ap (λ (f : Option ℕ). cond (is_some f) 0 1) c.in-None.is))
