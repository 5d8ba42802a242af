use Rattle.std.proofs.Common.{◌≡◌, ◌∙◌, List, ap, subst, sym}
use Rattle.kv_nand.specs.Flash.{LeftByErase}
use Rattle.kv_nand.specs.Calls.{erased}
use Rattle.kssd_entry.specs.declared.entry.Entry.{Entry}
use Rattle.kssd_log.specs.Append.{Carries, KeepsGroups}
use Rattle.kssd_log.proofs.Turning.{on_err, next_of, erased_keeps, turned_keeps, turned_carries}
use Rattle.kssd_log.proofs.place.Place.turn.Goals as goal

pub returns-in_err-erase-clause-err : goal.returns-in_err-erase-clause-err
returns-in_err-erase-clause-err g c =
    let flash = g.N.Nand.flash in
    let left = subst (λ b. LeftByErase (flash c.args.nand.now).image b (flash c.erase.new.self).image) c.block_after-next.ensures c.erase.ensures.left in
    let keeps : (rest : List Entry) → KeepsGroups 1 0 (flash c.args.nand.now).image c.args.self.now rest (flash c.erase.new.self).image = λ rest. erased_keeps (flash c.args.nand.now).image (flash c.erase.new.self).image c.args.self.now rest c.requires.ring.page left in
    on_err _ _ keeps

pub returns-in_err-put_turn-clause-err : goal.returns-in_err-put_turn-clause-err
returns-in_err-put_turn-clause-err g c =
    let flash = g.N.Nand.flash in
    let left = subst (λ b. LeftByErase (flash c.args.nand.now).image b (flash c.erase.new.self).image) c.block_after-next.ensures c.erase.ensures.left in
    let done : flash c.erase.new.self ≡ erased (flash c.args.nand.now) (next_of c.args.self.now) = c.in_ok-erase.ensures.ok ∙ ap (erased (flash c.args.nand.now)) c.block_after-next.ensures in
    let keeps : (rest : List Entry) → KeepsGroups 1 0 (flash c.args.nand.now).image c.args.self.now rest (flash c.put_turn.new.nand).image = λ rest. turned_keeps (flash c.args.nand.now) (flash c.erase.new.self) (flash c.put_turn.new.nand).image c.args.self.now rest c.requires.ring.page c.requires.place c.requires.number done left c.put_turn.ensures.left in
    on_err _ _ keeps

pub returns-clause-ok : goal.returns-clause-ok
returns-clause-ok g c =
    let flash = g.N.Nand.flash in
    let left = subst (λ b. LeftByErase (flash c.args.nand.now).image b (flash c.erase.new.self).image) c.block_after-next.ensures c.erase.ensures.left in
    let done : flash c.erase.new.self ≡ erased (flash c.args.nand.now) (next_of c.args.self.now) = c.in_ok-erase.ensures.ok ∙ ap (erased (flash c.args.nand.now)) c.block_after-next.ensures in
    λ rest. subst (λ p. Carries 1 (flash c.args.nand.now).image c.args.self.now rest (flash c.put_turn.new.nand).image p rest) (sym c.in_ok-put_turn.ensures.next)
    (turned_carries (flash c.args.nand.now) (flash c.erase.new.self) (flash c.put_turn.new.nand) c.args.self.now rest c.requires.ring.page c.requires.place c.requires.number done left c.put_turn.ensures.left c.in_ok-put_turn.ensures.ok)
