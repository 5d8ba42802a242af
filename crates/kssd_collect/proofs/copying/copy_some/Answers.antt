use Rattle.std.proofs.Common.{◌≡◌, ◌∙◌, true, false, sym, ℕ, ◌+◌, ◌-◌, subst, arith}
use Rattle.kssd_collect.specs.Copied.{IsCopying}
use Rattle.kssd_collect.proofs.Steps.{copying_on, keeps_on}
use Rattle.kssd_collect.proofs.copying.copy_some.Goals as goal

pub returns-in_err-step-clause-keeps : goal.returns-in_err-step-clause-keeps
returns-in_err-step-clause-keeps g c =
    let h = c.pages.invariant.copying in
    keeps_on c.args.values.now c.pages.values _ _ _ h.device h.marks h.filled h.keeps c.in_err-step.ensures.keeps

pub pages-preserved : goal.pages-preserved
pages-preserved g c =
    let flash = g.N.Nand.flash in
    let h = c.pages.invariant in
    let few = h.few in
    let one : (c.args.operations - c.pages.left) + 1 ≡ c.args.operations - (c.pages.left - 1) = omega arith in
    record {
      few = omega arith;
      copying = subst (λ (n : ℕ). IsCopying c.args.reclaim.now c.args.values.now (flash c.args.nand.now) n c.step.new.self c.step.new.values (flash c.step.new.nand)) one
          (copying_on c.args.reclaim.now c.args.values.now (flash c.args.nand.now) (c.args.operations - c.pages.left) c.pages.reclaim c.step.new.self c.pages.values c.step.new.values (flash c.pages.nand) (flash c.step.new.nand) h.copying
          (λ all. absurd (let e : true ≡ false = sym (c.is_done.ensures.1 all) ∙ c.pages-test.true in cc))
          c.in_ok-step.ensures.ok (c.in_ok-step.ensures.collects h.copying.copies.collects) c.in_ok-step.ensures.fills c.in_ok-step.ensures.keeps c.in_ok-step.ensures.works);
    }
