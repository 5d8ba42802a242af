use Rattle.std.proofs.Common.{ℕ, sym, ap, subst}
use Rattle.kv_nand.specs.Flash.{Flash}
use Rattle.kssd_model.specs.Groups.{next_block}
use Rattle.kssd_log.specs.Append.{IsLogPlace}
use Rattle.kssd_root.specs.Standing.{IsRoot}
use Rattle.kssd_root.proofs.Logs.{has_bytes}
use Rattle.kssd_root.proofs.RingBegun.{last_in_ring, next_in, ring_left, clean_from}
use Rattle.kssd_root.proofs.root.Root.begin_ring.Goals as goal

pub begin-requires-clause-last : goal.begin-requires-clause-last
begin-requires-clause-last g c =
    let root = c.args.self.now in
    last_in_ring root.page root.anchor _ _ c.args.last_block c.requires.root.anchored c.requires.last

pub returns-in_err-ring-clause-low : goal.returns-in_err-ring-clause-low
returns-in_err-ring-clause-low g c =
    let root = c.args.self.now in
    next_in root.page root.anchor _ _ c.args.last_block c.requires.root.anchored c.requires.last

pub returns-in_err-ring-clause-kept : goal.returns-in_err-ring-clause-kept
returns-in_err-ring-clause-kept g c =
    (ring_left c.args.self.now _ _ _ c.args.last_block (has_bytes _ (g.met.N.Nand.sound c.args.nand.now)) c.requires.root c.requires.last c.requires.number c.begin.ensures.kept c.begin.ensures.outside).kept

pub returns-in_err-ring-clause-aged : goal.returns-in_err-ring-clause-aged
returns-in_err-ring-clause-aged g c =
    (ring_left c.args.self.now _ _ _ c.args.last_block (has_bytes _ (g.met.N.Nand.sound c.args.nand.now)) c.requires.root c.requires.last c.requires.number c.begin.ensures.kept c.begin.ensures.outside).aged

pub returns-clause-low : goal.returns-clause-low
returns-clause-low g c =
    let root = c.args.self.now in
    next_in root.page root.anchor _ _ c.args.last_block c.requires.root.anchored c.requires.last

pub returns-clause-root : goal.returns-clause-root
returns-clause-root g c =
    let left = ring_left c.args.self.now _ _ _ c.args.last_block (has_bytes _ (g.met.N.Nand.sound c.args.nand.now)) c.requires.root c.requires.last c.requires.number c.begin.ensures.kept c.begin.ensures.outside in
    subst (λ (n : ℕ). IsRoot c.args.self.now n (g.N.Nand.flash c.begin.new.nand).image) (sym (ap (λ (f : Flash). f.blocks) c.in_ok-ring.ensures.works.after)) left.stands

pub returns-clause-table : goal.returns-clause-table
returns-clause-table g c =
    (ring_left c.args.self.now _ _ _ c.args.last_block (has_bytes _ (g.met.N.Nand.sound c.args.nand.now)) c.requires.root c.requires.last c.requires.number c.begin.ensures.kept c.begin.ensures.outside).table

pub returns-clause-kept : goal.returns-clause-kept
returns-clause-kept g c =
    (ring_left c.args.self.now _ _ _ c.args.last_block (has_bytes _ (g.met.N.Nand.sound c.args.nand.now)) c.requires.root c.requires.last c.requires.number c.begin.ensures.kept c.begin.ensures.outside).kept

pub returns-clause-aged : goal.returns-clause-aged
returns-clause-aged g c =
    (ring_left c.args.self.now _ _ _ c.args.last_block (has_bytes _ (g.met.N.Nand.sound c.args.nand.now)) c.requires.root c.requires.last c.requires.number c.begin.ensures.kept c.begin.ensures.outside).aged

pub returns-clause-clean : goal.returns-clause-clean
returns-clause-clean g c =
    clean_from (g.N.Nand.flash c.begin.new.nand) (next_block c.args.last_block) c.args.next_seq (subst (IsLogPlace (g.N.Nand.flash c.begin.new.nand)) c.in_ok-ring.ensures.ok c.in_ok-ring.ensures.place)

pub returns-clause-age : goal.returns-clause-age
returns-clause-age g c =
    (ring_left c.args.self.now _ _ _ c.args.last_block (has_bytes _ (g.met.N.Nand.sound c.args.nand.now)) c.requires.root c.requires.last c.requires.number c.begin.ensures.kept c.begin.ensures.outside).age_is
