use Rattle.std.proofs.Common.{◌≡◌, ◌∙◌, refl, sym, ap, subst, arith}
use Rattle.kv_nand.specs.Flash.{Image}
use Rattle.kv_nand.proofs.Chaining.{works_still, works_then_works}
use Rattle.kssd_model.specs.Anchors.{found_at, better, newest_of, IsNewestOrNone}
use Rattle.kssd_model.proofs.NewestLaws.{newest_none, newest_more, newest_reads}
use Rattle.kssd_anchor.proofs.finding.newest.Goals as goal

pub loop-page-init : goal.loop-page-init
loop-page-init g c = record { newest = sym (newest_none (g.N.Nand.flash c.args.nand.now).image); same = refl; works = works_still (g.N.Nand.flash c.args.nand.now) }

pub loop-page-preserved : goal.loop-page-preserved
loop-page-preserved g c =
    let flash = g.N.Nand.flash in
    let old = flash c.args.nand.now in
    let page = c.loop-page.page in
    let found = c.in_ok-anchor_in.ensures.ok ∙ ap (λ (image : Image). found_at page (image page)) c.loop-page.invariant.same in
    record {
      newest = c.better-newest.ensures ∙ (λ i. better (c.loop-page.invariant.newest i) (found i)) ∙ sym (newest_more old.image page);
      same = c.in_ok-anchor_in.ensures.same ∙ c.loop-page.invariant.same;
      works = works_then_works old (flash c.loop-page.nand) (flash c.anchor_in.new.nand) 0 page 0 1 c.loop-page.invariant.works c.in_ok-anchor_in.ensures.works;
    }

pub returns-clause-spelled : goal.returns-clause-spelled
returns-clause-spelled g c =
    let old = g.N.Nand.flash c.args.nand.now in
    let at : c.loop-page.page ≡ 64 = omega (arith, c.loop-page-test.false, c.loop-page.auto.page-end) in
    let is = c.loop-page.invariant.newest ∙ ap (newest_of old.image) at in
    subst (IsNewestOrNone old.image) (sym is) (newest_reads old.image 64)
