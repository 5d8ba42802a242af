use Rattle.std.proofs.Common.{◌∙◌, ℕ, ◌<◌, ◌^◌, [], ap, sym, subst, arith}
use Rattle.kssd_model.specs.declared.anchor.Anchor.{Anchor}
use Rattle.kssd_model.specs.Groups.{next_block}
use Rattle.kssd_root.specs.Following.{MayBegin}
use Rattle.kssd_root.proofs.RunsWritten.{shown_of}
use Rattle.kssd_root.proofs.Moving.{follows_itself, begins_clean, clean_behind, empty_log, block_is}
use Rattle.kssd_root.proofs.root.Root.begin_log.Goals as goal

pub name_levels-requires-clause-levels : goal.name_levels-requires-clause-levels
name_levels-requires-clause-levels g c =
    let old = g.N.Nand.flash c.args.nand.now in
    let root = c.args.self.now in
    let mid = g.N.Nand.flash c.begin_ring.new.nand in
    follows_itself root mid.blocks mid.image c.in_ok-ring.ensures.root

pub name_levels-requires-clause-log : goal.name_levels-requires-clause-log
name_levels-requires-clause-log g c =
    let old = g.N.Nand.flash c.args.nand.now in
    let root = c.args.self.now in
    let mid = g.N.Nand.flash c.begin_ring.new.nand in
    let in_ring = c.begin_ring.ensures.low in
    let at = block_is c.in_ok-ring.ring (next_block c.args.last_block) c.args.next_seq c.block.result c.block.ensures.block c.in_ok-ring.ensures.ring in
    let fits : c.args.next_seq < 2 ^ 63 = omega (arith, c.requires.next, c.requires.number) in
    let table = c.in_ok-ring.ensures.table ∙ c.requires.table in
    subst (λ (b : ℕ). MayBegin b c.args.next_seq root.levels root.anchor mid.image) (sym at)
    (begins_clean root.anchor root.levels (next_block c.args.last_block) c.args.next_seq mid.image c.in_ok-ring.ensures.clean in_ring.0 in_ring.1 fits (omega (arith, c.requires.next, c.in_ok-ring.ensures.age))
    (shown_of root.anchor root.levels mid.blocks mid.image [] c.in_ok-ring.ensures.root.runs (sym table)))

pub returns-clause-log : goal.returns-clause-log
returns-clause-log g c =
    let old = g.N.Nand.flash c.args.nand.now in
    let root = c.args.self.now in
    let mid = g.N.Nand.flash c.begin_ring.new.nand in
    let in_ring = c.begin_ring.ensures.low in
    let at = block_is c.in_ok-ring.ring (next_block c.args.last_block) c.args.next_seq c.block.result c.block.ensures.block c.in_ok-ring.ensures.ring in
    let fits : c.args.next_seq < 2 ^ 63 = omega (arith, c.requires.next, c.requires.number) in
    let new = g.N.Nand.flash c.name_levels.new.nand in
    let e = empty_log (next_block c.args.last_block) c.args.next_seq c.name_levels.new.self.anchor new.image (clean_behind (next_block c.args.last_block) mid.image new.image in_ring.0 c.in_ok-ring.ensures.clean c.name_levels.ensures.behind) fits
    (ap (λ (a : Anchor). a.log_block) c.in_ok-name_levels.ensures.next ∙ at) (ap (λ (a : Anchor). a.log_seq) c.in_ok-name_levels.ensures.next) in
    e.log

pub returns-clause-table : goal.returns-clause-table
returns-clause-table g c =
    let old = g.N.Nand.flash c.args.nand.now in
    let root = c.args.self.now in
    let mid = g.N.Nand.flash c.begin_ring.new.nand in
    let in_ring = c.begin_ring.ensures.low in
    let at = block_is c.in_ok-ring.ring (next_block c.args.last_block) c.args.next_seq c.block.result c.block.ensures.block c.in_ok-ring.ensures.ring in
    let fits : c.args.next_seq < 2 ^ 63 = omega (arith, c.requires.next, c.requires.number) in
    let new = g.N.Nand.flash c.name_levels.new.nand in
    let e = empty_log (next_block c.args.last_block) c.args.next_seq c.name_levels.new.self.anchor new.image (clean_behind (next_block c.args.last_block) mid.image new.image in_ring.0 c.in_ok-ring.ensures.clean c.name_levels.ensures.behind) fits
    (ap (λ (a : Anchor). a.log_block) c.in_ok-name_levels.ensures.next ∙ at) (ap (λ (a : Anchor). a.log_seq) c.in_ok-name_levels.ensures.next) in
    e.table
