use Rattle.std.proofs.Common.{◌∙◌, ◌*◌, ℕ, [], ap, sym, subst}
use Rattle.kv_nand.specs.Flash.{LeftByErase}
use Rattle.kv_nand.specs.Calls.{erased}
use Rattle.kssd_model.specs.Groups.{HasLog, next_block}
use Rattle.kssd_log.specs.declared.place.Place.{Place}
use Rattle.kssd_log.specs.Ring.{begun}
use Rattle.kssd_log.proofs.Beginning.{begin_keeps, begin_place, empty_log}
use Rattle.kssd_log.proofs.ring.Ring.begin.Goals as goal

pub returns-in_err-erase-clause-kept : goal.returns-in_err-erase-clause-kept
returns-in_err-erase-clause-kept g c =
    begin_keeps (g.N.Nand.flash c.args.nand.now).image (g.N.Nand.flash c.erase.new.self).image c.args.last (subst (λ (b : ℕ). LeftByErase (g.N.Nand.flash c.args.nand.now).image b (g.N.Nand.flash c.erase.new.self).image) c.block_after-next.ensures c.erase.ensures.left)

pub returns-clause-kept : goal.returns-clause-kept
returns-clause-kept g c =
    begin_keeps (g.N.Nand.flash c.args.nand.now).image (g.N.Nand.flash c.erase.new.self).image c.args.last (subst (λ (b : ℕ). LeftByErase (g.N.Nand.flash c.args.nand.now).image b (g.N.Nand.flash c.erase.new.self).image) c.block_after-next.ensures c.erase.ensures.left)

pub returns-clause-empty : goal.returns-clause-empty
returns-clause-empty g c =
    let flash = g.N.Nand.flash in
    let next = next_block c.args.last in
    let done = c.in_ok-erase.ensures.ok ∙ ap (erased (flash c.args.nand.now)) c.block_after-next.ensures in
    let place = begin_place (flash c.args.nand.now) (flash c.erase.new.self) c.args.last c.args.seq c.requires.blocks done in
    let image = (flash c.erase.new.self).image in
    let is = c.at.ensures ∙ ap (λ (b : ℕ). begun b c.args.seq) c.block_after-next.ensures in
    subst (λ (p : Place). HasLog image p.page p.seq [] [] 0 p.page p.seq) (sym is) (empty_log image (32 * next) c.args.seq place.free.here)
