use Rattle.std.proofs.Common.{◌≡◌, ◌∙◌, Option, None, sym, subst}
use Rattle.kssd_reclaim.specs.declared.reclaim.Reclaim.{Reclaim}
use Rattle.kssd_collect.specs.Collecting.{IsCollected}
use Rattle.kssd_collect.proofs.Steps.{first_copies}
use Rattle.kssd_collect.proofs.Kept.{busy_from, none_into}
use Rattle.kssd_collect.proofs.taking.take_up.Goals as goal

pub returns-in_ok-reclaim-in-None-clause-collected : goal.returns-in_ok-reclaim-in-None-clause-collected
returns-in_ok-reclaim-in-None-clause-collected g c =
    let m = c.args.mounted.now in
    let flash = g.N.Nand.flash c.args.nand.now in
    let stands = c.requires.stands in
    let r = c.in_ok-reclaim-in-None.reclaim in
    let begun = c.in_ok-reclaim-in-None.ensures in
    let none : m.collection ≡ None = sym c.take.ensures.value ∙ c.in-None.is in
    subst (λ (o : Option Reclaim). IsCollected r (record m { collection = o }) flash) (sym c.take.ensures.after)
    (record {
      busy = busy_from m flash stands;
      copies = first_copies r m.values flash.image begun.block (none_into m flash stands none) stands.block begun.none.0 begun.none.1 (begun.collects m.values flash.image);
    })
