use Rattle.std.proofs.Common.{◌∙◌, map, get_or, sym, ap, subst, arith}
use Rattle.kssd_entry.specs.declared.entry.Entry.{Entry}
use Rattle.kssd_tx.specs.Lists.{repointed, IsChangeList}
use Rattle.kssd_tx.proofs.Changing.{list_repointed, repointed_here, repointed_there, repointed_other, repointed_more, repointed_all}
use Rattle.kssd_tx.proofs.changes.Changes.repoint.Goals as goal
use Rattle.kssd_tx.proofs.changes.Changes.repoint.Goals.{in-At+then-at-page, in-At+else-at-page, in_default}

pub loop-entry-preserved : goal.loop-entry-preserved
loop-entry-preserved c =
    let page = c.args.page in
    let other = c.args.other in
    let more = λ (y : Entry). repointed_more page other c.deref_mut-entry-items.result.now c.loop-entry.entry-items c.match-entry.entry-items c.loop-entry.entry-index c.entry-item.result y c.loop-entry-test.true c.loop-entry.invariant c.entry-item.is in
    elim c.match-entry.branch [
      | in-At+then-at-page w ↦ more _ w.entry-items-is (repointed_here page other w.in-At.at w.in-At.key w.in-At.length w.if-at-page.true ∙ ap (repointed page other) (sym (c.entry-item.is ∙ w.in-At.is)))
      | in-At+else-at-page w ↦ more _ w.entry-items-is (repointed_there page other w.in-At.at w.in-At.key w.in-At.length w.if-at-page.false ∙ ap (repointed page other) (sym (c.entry-item.is ∙ w.in-At.is)))
      | in_default w ↦ more _ w.entry-items-is (repointed_other page other (get_or c.loop-entry.entry-items c.loop-entry.entry-index c.entry-item.result) w.in_default.not-At ∙ ap (repointed page other) (sym c.entry-item.is))
    ]

pub invariant_of-self : goal.invariant_of-self
invariant_of-self c =
    let xs = c.self.inside.items.items in
    let is = repointed_all c.args.page c.args.other xs c.deref_mut-entry-items.result.now c.loop-entry.entry-items c.loop-entry.entry-index c.self.inside.items.len c.deref_mut-entry-items.ensures.value (omega arith) c.loop-entry.invariant c.loop-entry.auto.entry-items c.self.inside.items.ok.0 in
    subst IsChangeList (sym is) (list_repointed c.args.page c.args.other xs c.self.invariant)

pub returns : goal.returns
returns c =
    let xs = c.self.inside.items.items in
    let is = repointed_all c.args.page c.args.other xs c.deref_mut-entry-items.result.now c.loop-entry.entry-items c.loop-entry.entry-index c.self.inside.items.len c.deref_mut-entry-items.ensures.value (omega arith) c.loop-entry.invariant c.loop-entry.auto.entry-items c.self.inside.items.ok.0 in
    is ∙ ap (map (repointed c.args.page c.args.other)) c.self.view_is
