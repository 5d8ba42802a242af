use Rattle.std.proofs.Common.{sym, ap, ◌≡◌, ◌∙◌, List, length, arith, refl}
use Rattle.kssd_entry.specs.declared.entry.Entry.{Entry}
use Rattle.kssd_tx.specs.Lists.{open_count}
use Rattle.kssd_tx.proofs.Counting.{lists_after, not_all_open, all_are_open}
use Rattle.kssd_tx.proofs.table.TxTable.begin.Goals as goal

pub invariant_of-self : goal.invariant_of-self
invariant_of-self c =
    lists_after c.self.inside.slots c.in-Some.number c.index-self-number.result _ c.self.invariant c.in-Some.ensures.below c.index-self-number.is (omega (arith, c.self.invariant.few, ap (λ (xs : List Entry). length xs) c.new.ensures))

pub returns-in-Some-clause-busy : goal.returns-in-Some-clause-busy
returns-in-Some-clause-busy c =
    let less = not_all_open c.self.inside.slots c.in-Some.number c.in-Some.ensures.free in
    let same : open_count c.self.inside.slots ≡ open_count c.args.self.now = ap open_count c.self.view_is in
    (λ e. absurd cc, λ e. absurd (omega (arith, c.self.invariant.four)))

pub returns-in-None-clause-busy : goal.returns-in-None-clause-busy
returns-in-None-clause-busy c =
    let all = all_are_open c.self.inside.slots c.in-None.ensures.free in
    let same : open_count c.self.inside.slots ≡ open_count c.args.self.now = ap open_count c.self.view_is in
    (λ _. sym same ∙ all ∙ c.self.invariant.four, λ _. refl)
