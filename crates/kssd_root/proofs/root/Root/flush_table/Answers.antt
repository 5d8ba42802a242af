use Rattle.std.proofs.Common.{[], ◌≡◌, ◌∙◌, ℕ, ◌<◌, ◌^◌, ap, sym, subst, arith}
use Rattle.std.proofs.lemmas.Result.{err_from_is_err_and}
use Rattle.kv_nand.specs.Flash.{Flash}
use Rattle.kssd_model.specs.declared.anchor.Anchor.{Anchor}
use Rattle.kssd_model.specs.Groups.{next_block}
use Rattle.kssd_levels.specs.declared.kind.JobKind.TheVariants.{Flush}
use Rattle.kssd_root.specs.Standing.{IsAnchored}
use Rattle.kssd_root.specs.Following.{MayFollow, MayBegin}
use Rattle.kssd_root.proofs.Kept.{kept_on}
use Rattle.kssd_root.proofs.RunsWritten.{shown_of}
use Rattle.kssd_root.proofs.Steps.{works_on, stops_on}
use Rattle.kssd_root.proofs.Moving.{IsRun, nameable, shown_over, table_rises, table_keys, run_keeps, run_age, begins_clean, clean_behind, clean_beside, empty_log, block_is}
use Rattle.kssd_root.proofs.root.Root.flush_table.Goals as goal

pub run_job-requires-clause-rising : goal.run_job-requires-clause-rising
run_job-requires-clause-rising g c e = table_rises c.args.self.now (g.N.Nand.flash c.args.nand.now).image c.args.table.now c.requires.table

pub run_job-requires-clause-keys : goal.run_job-requires-clause-keys
run_job-requires-clause-keys g c e =
    let one = g.N.Nand.flash c.begin_ring.new.nand in
    table_keys c.args.self.now one.blocks one.image c.args.table.now c.in_ok-ring.ensures.root (c.requires.table ∙ sym c.in_ok-ring.ensures.table)

pub returns-in_err-run_job-clause-kept : goal.returns-in_err-run_job-clause-kept
returns-in_err-run_job-clause-kept g c =
    let old = g.N.Nand.flash c.args.nand.now in
    let root = c.args.self.now in
    let one = g.N.Nand.flash c.begin_ring.new.nand in
    let two = g.N.Nand.flash c.run_job.new.nand in
    let first : one.blocks ≡ old.blocks = ap (λ (f : Flash). f.blocks) c.in_ok-ring.ensures.works.after in
    kept_on old.blocks one.blocks old.image one.image two.image first c.begin_ring.ensures.kept (run_keeps root one.blocks one.image two.image c.in_ok-ring.ensures.root c.in_err-run_job.ensures.named)

pub returns-in_err-run_job-clause-aged : goal.returns-in_err-run_job-clause-aged
returns-in_err-run_job-clause-aged g c =
    let old = g.N.Nand.flash c.args.nand.now in
    let root = c.args.self.now in
    let one = g.N.Nand.flash c.begin_ring.new.nand in
    let two = g.N.Nand.flash c.run_job.new.nand in
    let first : one.blocks ≡ old.blocks = ap (λ (f : Flash). f.blocks) c.in_ok-ring.ensures.works.after in
    omega (arith, run_age root one.blocks one.image two.image c.in_ok-ring.ensures.root c.in_err-run_job.ensures.named, c.in_ok-ring.ensures.age)

pub name_levels-requires-clause-device : goal.name_levels-requires-clause-device
name_levels-requires-clause-device g c =
    let old = g.N.Nand.flash c.args.nand.now in
    let root = c.args.self.now in
    let one = g.N.Nand.flash c.begin_ring.new.nand in
    let two = g.N.Nand.flash c.run_job.new.nand in
    let first : one.blocks ≡ old.blocks = ap (λ (f : Flash). f.blocks) c.in_ok-ring.ensures.works.after in
    let second : two.blocks ≡ one.blocks = ap (λ (f : Flash). f.blocks) c.in_ok-run_job.ensures.works.after in
    let in_ring = c.begin_ring.ensures.low in
    let fits : c.args.next_seq < 2 ^ 63 = omega (arith, c.requires.next, c.requires.number) in
    let at = block_is c.in_ok-ring.ring (next_block c.args.last_block) c.args.next_seq c.block.result c.block.ensures.block c.in_ok-ring.ensures.ring in
    let run : IsRun Flush c.args.table.now root one.blocks one.image c.run_job.new.self two.image = record { root_is = c.in_ok-ring.ensures.root; same = c.in_ok-run_job.ensures.same; follow = subst (λ (n : ℕ). MayFollow c.run_job.new.self.levels root.anchor n two.image) second c.in_ok-run_job.ensures.levels; over = c.in_ok-run_job.ensures.over; named = c.in_ok-run_job.ensures.named } in
    let n = nameable Flush c.args.table.now root one.blocks one.image c.run_job.new.self two.image run in
    n.device ∙ sym second

pub name_levels-requires-clause-anchored : goal.name_levels-requires-clause-anchored
name_levels-requires-clause-anchored g c =
    let old = g.N.Nand.flash c.args.nand.now in
    let root = c.args.self.now in
    let one = g.N.Nand.flash c.begin_ring.new.nand in
    let two = g.N.Nand.flash c.run_job.new.nand in
    let first : one.blocks ≡ old.blocks = ap (λ (f : Flash). f.blocks) c.in_ok-ring.ensures.works.after in
    let second : two.blocks ≡ one.blocks = ap (λ (f : Flash). f.blocks) c.in_ok-run_job.ensures.works.after in
    let in_ring = c.begin_ring.ensures.low in
    let fits : c.args.next_seq < 2 ^ 63 = omega (arith, c.requires.next, c.requires.number) in
    let at = block_is c.in_ok-ring.ring (next_block c.args.last_block) c.args.next_seq c.block.result c.block.ensures.block c.in_ok-ring.ensures.ring in
    let run : IsRun Flush c.args.table.now root one.blocks one.image c.run_job.new.self two.image = record { root_is = c.in_ok-ring.ensures.root; same = c.in_ok-run_job.ensures.same; follow = subst (λ (n : ℕ). MayFollow c.run_job.new.self.levels root.anchor n two.image) second c.in_ok-run_job.ensures.levels; over = c.in_ok-run_job.ensures.over; named = c.in_ok-run_job.ensures.named } in
    let n = nameable Flush c.args.table.now root one.blocks one.image c.run_job.new.self two.image run in
    subst (λ (k : ℕ). IsAnchored c.run_job.new.self.page c.run_job.new.self.anchor k two.image) (sym second) n.anchored

pub name_levels-requires-clause-levels : goal.name_levels-requires-clause-levels
name_levels-requires-clause-levels g c =
    let old = g.N.Nand.flash c.args.nand.now in
    let root = c.args.self.now in
    let one = g.N.Nand.flash c.begin_ring.new.nand in
    let two = g.N.Nand.flash c.run_job.new.nand in
    let first : one.blocks ≡ old.blocks = ap (λ (f : Flash). f.blocks) c.in_ok-ring.ensures.works.after in
    let second : two.blocks ≡ one.blocks = ap (λ (f : Flash). f.blocks) c.in_ok-run_job.ensures.works.after in
    let in_ring = c.begin_ring.ensures.low in
    let fits : c.args.next_seq < 2 ^ 63 = omega (arith, c.requires.next, c.requires.number) in
    let at = block_is c.in_ok-ring.ring (next_block c.args.last_block) c.args.next_seq c.block.result c.block.ensures.block c.in_ok-ring.ensures.ring in
    let run : IsRun Flush c.args.table.now root one.blocks one.image c.run_job.new.self two.image = record { root_is = c.in_ok-ring.ensures.root; same = c.in_ok-run_job.ensures.same; follow = subst (λ (n : ℕ). MayFollow c.run_job.new.self.levels root.anchor n two.image) second c.in_ok-run_job.ensures.levels; over = c.in_ok-run_job.ensures.over; named = c.in_ok-run_job.ensures.named } in
    let n = nameable Flush c.args.table.now root one.blocks one.image c.run_job.new.self two.image run in
    subst (λ (k : ℕ). MayFollow c.run_job.new.self.levels c.run_job.new.self.anchor k two.image) (sym second) n.follow

pub name_levels-requires-clause-log : goal.name_levels-requires-clause-log
name_levels-requires-clause-log g c =
    let old = g.N.Nand.flash c.args.nand.now in
    let root = c.args.self.now in
    let one = g.N.Nand.flash c.begin_ring.new.nand in
    let two = g.N.Nand.flash c.run_job.new.nand in
    let first : one.blocks ≡ old.blocks = ap (λ (f : Flash). f.blocks) c.in_ok-ring.ensures.works.after in
    let second : two.blocks ≡ one.blocks = ap (λ (f : Flash). f.blocks) c.in_ok-run_job.ensures.works.after in
    let in_ring = c.begin_ring.ensures.low in
    let fits : c.args.next_seq < 2 ^ 63 = omega (arith, c.requires.next, c.requires.number) in
    let at = block_is c.in_ok-ring.ring (next_block c.args.last_block) c.args.next_seq c.block.result c.block.ensures.block c.in_ok-ring.ensures.ring in
    let run : IsRun Flush c.args.table.now root one.blocks one.image c.run_job.new.self two.image = record { root_is = c.in_ok-ring.ensures.root; same = c.in_ok-run_job.ensures.same; follow = subst (λ (n : ℕ). MayFollow c.run_job.new.self.levels root.anchor n two.image) second c.in_ok-run_job.ensures.levels; over = c.in_ok-run_job.ensures.over; named = c.in_ok-run_job.ensures.named } in
    let n = nameable Flush c.args.table.now root one.blocks one.image c.run_job.new.self two.image run in
    subst (λ (b : ℕ). MayBegin b c.args.next_seq c.run_job.new.self.levels c.run_job.new.self.anchor two.image) (sym at)
    (begins_clean c.run_job.new.self.anchor c.run_job.new.self.levels (next_block c.args.last_block) c.args.next_seq two.image (clean_beside one.blocks (next_block c.args.last_block) _ one.image two.image in_ring.0 in_ring.1 c.in_ok-ring.ensures.clean c.in_ok-run_job.ensures.named) in_ring.0 in_ring.1 fits (omega (arith, c.requires.next, n.age_is, c.in_ok-ring.ensures.age))
    (shown_over Flush c.args.table.now [] root one.blocks one.image c.run_job.new.self two.image n (shown_of root.anchor root.levels one.blocks one.image c.args.table.now c.in_ok-ring.ensures.root.runs (c.requires.table ∙ sym c.in_ok-ring.ensures.table))))

pub name_levels-requires-clause-number : goal.name_levels-requires-clause-number
name_levels-requires-clause-number g c =
    let old = g.N.Nand.flash c.args.nand.now in
    let root = c.args.self.now in
    let one = g.N.Nand.flash c.begin_ring.new.nand in
    let two = g.N.Nand.flash c.run_job.new.nand in
    let first : one.blocks ≡ old.blocks = ap (λ (f : Flash). f.blocks) c.in_ok-ring.ensures.works.after in
    let second : two.blocks ≡ one.blocks = ap (λ (f : Flash). f.blocks) c.in_ok-run_job.ensures.works.after in
    let in_ring = c.begin_ring.ensures.low in
    let fits : c.args.next_seq < 2 ^ 63 = omega (arith, c.requires.next, c.requires.number) in
    let at = block_is c.in_ok-ring.ring (next_block c.args.last_block) c.args.next_seq c.block.result c.block.ensures.block c.in_ok-ring.ensures.ring in
    let run : IsRun Flush c.args.table.now root one.blocks one.image c.run_job.new.self two.image = record { root_is = c.in_ok-ring.ensures.root; same = c.in_ok-run_job.ensures.same; follow = subst (λ (n : ℕ). MayFollow c.run_job.new.self.levels root.anchor n two.image) second c.in_ok-run_job.ensures.levels; over = c.in_ok-run_job.ensures.over; named = c.in_ok-run_job.ensures.named } in
    let n = nameable Flush c.args.table.now root one.blocks one.image c.run_job.new.self two.image run in
    omega (arith, n.age_is, c.in_ok-ring.ensures.age, c.requires.number)

pub returns-in_err-name_levels-clause-kept : goal.returns-in_err-name_levels-clause-kept
returns-in_err-name_levels-clause-kept g c =
    let old = g.N.Nand.flash c.args.nand.now in
    let root = c.args.self.now in
    let one = g.N.Nand.flash c.begin_ring.new.nand in
    let two = g.N.Nand.flash c.run_job.new.nand in
    let first : one.blocks ≡ old.blocks = ap (λ (f : Flash). f.blocks) c.in_ok-ring.ensures.works.after in
    let second : two.blocks ≡ one.blocks = ap (λ (f : Flash). f.blocks) c.in_ok-run_job.ensures.works.after in
    let in_ring = c.begin_ring.ensures.low in
    let fits : c.args.next_seq < 2 ^ 63 = omega (arith, c.requires.next, c.requires.number) in
    let at = block_is c.in_ok-ring.ring (next_block c.args.last_block) c.args.next_seq c.block.result c.block.ensures.block c.in_ok-ring.ensures.ring in
    let run : IsRun Flush c.args.table.now root one.blocks one.image c.run_job.new.self two.image = record { root_is = c.in_ok-ring.ensures.root; same = c.in_ok-run_job.ensures.same; follow = subst (λ (n : ℕ). MayFollow c.run_job.new.self.levels root.anchor n two.image) second c.in_ok-run_job.ensures.levels; over = c.in_ok-run_job.ensures.over; named = c.in_ok-run_job.ensures.named } in
    let n = nameable Flush c.args.table.now root one.blocks one.image c.run_job.new.self two.image run in
    let new = g.N.Nand.flash c.name_levels.new.nand in
    kept_on old.blocks two.blocks old.image two.image new.image (second ∙ first) (kept_on old.blocks one.blocks old.image one.image two.image first c.begin_ring.ensures.kept (run_keeps root one.blocks one.image two.image c.in_ok-ring.ensures.root c.in_ok-run_job.ensures.named)) c.name_levels.ensures.kept

pub returns-in_err-name_levels-clause-aged : goal.returns-in_err-name_levels-clause-aged
returns-in_err-name_levels-clause-aged g c =
    let old = g.N.Nand.flash c.args.nand.now in
    let root = c.args.self.now in
    let one = g.N.Nand.flash c.begin_ring.new.nand in
    let two = g.N.Nand.flash c.run_job.new.nand in
    let first : one.blocks ≡ old.blocks = ap (λ (f : Flash). f.blocks) c.in_ok-ring.ensures.works.after in
    let second : two.blocks ≡ one.blocks = ap (λ (f : Flash). f.blocks) c.in_ok-run_job.ensures.works.after in
    let in_ring = c.begin_ring.ensures.low in
    let fits : c.args.next_seq < 2 ^ 63 = omega (arith, c.requires.next, c.requires.number) in
    let at = block_is c.in_ok-ring.ring (next_block c.args.last_block) c.args.next_seq c.block.result c.block.ensures.block c.in_ok-ring.ensures.ring in
    let run : IsRun Flush c.args.table.now root one.blocks one.image c.run_job.new.self two.image = record { root_is = c.in_ok-ring.ensures.root; same = c.in_ok-run_job.ensures.same; follow = subst (λ (n : ℕ). MayFollow c.run_job.new.self.levels root.anchor n two.image) second c.in_ok-run_job.ensures.levels; over = c.in_ok-run_job.ensures.over; named = c.in_ok-run_job.ensures.named } in
    let n = nameable Flush c.args.table.now root one.blocks one.image c.run_job.new.self two.image run in
    let new = g.N.Nand.flash c.name_levels.new.nand in
    omega (arith, n.age_is, c.in_ok-ring.ensures.age, c.name_levels.ensures.aged)

pub returns-in_err-name_levels-clause-stops : goal.returns-in_err-name_levels-clause-stops
returns-in_err-name_levels-clause-stops g c =
    let old = g.N.Nand.flash c.args.nand.now in
    let root = c.args.self.now in
    let one = g.N.Nand.flash c.begin_ring.new.nand in
    let two = g.N.Nand.flash c.run_job.new.nand in
    let first : one.blocks ≡ old.blocks = ap (λ (f : Flash). f.blocks) c.in_ok-ring.ensures.works.after in
    let second : two.blocks ≡ one.blocks = ap (λ (f : Flash). f.blocks) c.in_ok-run_job.ensures.works.after in
    let in_ring = c.begin_ring.ensures.low in
    let fits : c.args.next_seq < 2 ^ 63 = omega (arith, c.requires.next, c.requires.number) in
    let at = block_is c.in_ok-ring.ring (next_block c.args.last_block) c.args.next_seq c.block.result c.block.ensures.block c.in_ok-ring.ensures.ring in
    let run : IsRun Flush c.args.table.now root one.blocks one.image c.run_job.new.self two.image = record { root_is = c.in_ok-ring.ensures.root; same = c.in_ok-run_job.ensures.same; follow = subst (λ (n : ℕ). MayFollow c.run_job.new.self.levels root.anchor n two.image) second c.in_ok-run_job.ensures.levels; over = c.in_ok-run_job.ensures.over; named = c.in_ok-run_job.ensures.named } in
    let n = nameable Flush c.args.table.now root one.blocks one.image c.run_job.new.self two.image run in
    let new = g.N.Nand.flash c.name_levels.new.nand in
    let p = err_from_is_err_and c.from_residual-in_err-name_levels.result c.from_residual-in_err-name_levels.ensures.1 in
    rw (p.1, p.2) (stops_on old two new _ 237 2 239 (2 ^ 64) 32 (g.met.N.Nand.sound c.name_levels.new.nand) (omega arith) (works_on old one two 1 236 237 0 (2 ^ 64) (g.met.N.Nand.sound c.run_job.new.nand) (omega arith) c.in_ok-ring.ensures.works c.in_ok-run_job.ensures.works) c.in_err-name_levels.ensures.stops)

pub returns-clause-kept : goal.returns-clause-kept
returns-clause-kept g c =
    let old = g.N.Nand.flash c.args.nand.now in
    let root = c.args.self.now in
    let one = g.N.Nand.flash c.begin_ring.new.nand in
    let two = g.N.Nand.flash c.run_job.new.nand in
    let first : one.blocks ≡ old.blocks = ap (λ (f : Flash). f.blocks) c.in_ok-ring.ensures.works.after in
    let second : two.blocks ≡ one.blocks = ap (λ (f : Flash). f.blocks) c.in_ok-run_job.ensures.works.after in
    let in_ring = c.begin_ring.ensures.low in
    let fits : c.args.next_seq < 2 ^ 63 = omega (arith, c.requires.next, c.requires.number) in
    let at = block_is c.in_ok-ring.ring (next_block c.args.last_block) c.args.next_seq c.block.result c.block.ensures.block c.in_ok-ring.ensures.ring in
    let run : IsRun Flush c.args.table.now root one.blocks one.image c.run_job.new.self two.image = record { root_is = c.in_ok-ring.ensures.root; same = c.in_ok-run_job.ensures.same; follow = subst (λ (n : ℕ). MayFollow c.run_job.new.self.levels root.anchor n two.image) second c.in_ok-run_job.ensures.levels; over = c.in_ok-run_job.ensures.over; named = c.in_ok-run_job.ensures.named } in
    let n = nameable Flush c.args.table.now root one.blocks one.image c.run_job.new.self two.image run in
    let new = g.N.Nand.flash c.name_levels.new.nand in
    kept_on old.blocks two.blocks old.image two.image new.image (second ∙ first) (kept_on old.blocks one.blocks old.image one.image two.image first c.begin_ring.ensures.kept (run_keeps root one.blocks one.image two.image c.in_ok-ring.ensures.root c.in_ok-run_job.ensures.named)) c.name_levels.ensures.kept

pub returns-clause-aged : goal.returns-clause-aged
returns-clause-aged g c =
    let old = g.N.Nand.flash c.args.nand.now in
    let root = c.args.self.now in
    let one = g.N.Nand.flash c.begin_ring.new.nand in
    let two = g.N.Nand.flash c.run_job.new.nand in
    let first : one.blocks ≡ old.blocks = ap (λ (f : Flash). f.blocks) c.in_ok-ring.ensures.works.after in
    let second : two.blocks ≡ one.blocks = ap (λ (f : Flash). f.blocks) c.in_ok-run_job.ensures.works.after in
    let in_ring = c.begin_ring.ensures.low in
    let fits : c.args.next_seq < 2 ^ 63 = omega (arith, c.requires.next, c.requires.number) in
    let at = block_is c.in_ok-ring.ring (next_block c.args.last_block) c.args.next_seq c.block.result c.block.ensures.block c.in_ok-ring.ensures.ring in
    let run : IsRun Flush c.args.table.now root one.blocks one.image c.run_job.new.self two.image = record { root_is = c.in_ok-ring.ensures.root; same = c.in_ok-run_job.ensures.same; follow = subst (λ (n : ℕ). MayFollow c.run_job.new.self.levels root.anchor n two.image) second c.in_ok-run_job.ensures.levels; over = c.in_ok-run_job.ensures.over; named = c.in_ok-run_job.ensures.named } in
    let n = nameable Flush c.args.table.now root one.blocks one.image c.run_job.new.self two.image run in
    let new = g.N.Nand.flash c.name_levels.new.nand in
    omega (arith, n.age_is, c.in_ok-ring.ensures.age, c.name_levels.ensures.aged)

pub returns-clause-log : goal.returns-clause-log
returns-clause-log g c =
    let old = g.N.Nand.flash c.args.nand.now in
    let root = c.args.self.now in
    let one = g.N.Nand.flash c.begin_ring.new.nand in
    let two = g.N.Nand.flash c.run_job.new.nand in
    let first : one.blocks ≡ old.blocks = ap (λ (f : Flash). f.blocks) c.in_ok-ring.ensures.works.after in
    let second : two.blocks ≡ one.blocks = ap (λ (f : Flash). f.blocks) c.in_ok-run_job.ensures.works.after in
    let in_ring = c.begin_ring.ensures.low in
    let fits : c.args.next_seq < 2 ^ 63 = omega (arith, c.requires.next, c.requires.number) in
    let at = block_is c.in_ok-ring.ring (next_block c.args.last_block) c.args.next_seq c.block.result c.block.ensures.block c.in_ok-ring.ensures.ring in
    let run : IsRun Flush c.args.table.now root one.blocks one.image c.run_job.new.self two.image = record { root_is = c.in_ok-ring.ensures.root; same = c.in_ok-run_job.ensures.same; follow = subst (λ (n : ℕ). MayFollow c.run_job.new.self.levels root.anchor n two.image) second c.in_ok-run_job.ensures.levels; over = c.in_ok-run_job.ensures.over; named = c.in_ok-run_job.ensures.named } in
    let n = nameable Flush c.args.table.now root one.blocks one.image c.run_job.new.self two.image run in
    let new = g.N.Nand.flash c.name_levels.new.nand in
    let e = empty_log (next_block c.args.last_block) c.args.next_seq c.name_levels.new.self.anchor new.image (clean_behind (next_block c.args.last_block) two.image new.image in_ring.0 (clean_beside one.blocks (next_block c.args.last_block) _ one.image two.image in_ring.0 in_ring.1 c.in_ok-ring.ensures.clean c.in_ok-run_job.ensures.named) c.name_levels.ensures.behind) fits
    (ap (λ (a : Anchor). a.log_block) c.in_ok-name_levels.ensures.next ∙ at) (ap (λ (a : Anchor). a.log_seq) c.in_ok-name_levels.ensures.next) in
    e.log

pub returns-clause-table : goal.returns-clause-table
returns-clause-table g c =
    let old = g.N.Nand.flash c.args.nand.now in
    let root = c.args.self.now in
    let one = g.N.Nand.flash c.begin_ring.new.nand in
    let two = g.N.Nand.flash c.run_job.new.nand in
    let first : one.blocks ≡ old.blocks = ap (λ (f : Flash). f.blocks) c.in_ok-ring.ensures.works.after in
    let second : two.blocks ≡ one.blocks = ap (λ (f : Flash). f.blocks) c.in_ok-run_job.ensures.works.after in
    let in_ring = c.begin_ring.ensures.low in
    let fits : c.args.next_seq < 2 ^ 63 = omega (arith, c.requires.next, c.requires.number) in
    let at = block_is c.in_ok-ring.ring (next_block c.args.last_block) c.args.next_seq c.block.result c.block.ensures.block c.in_ok-ring.ensures.ring in
    let run : IsRun Flush c.args.table.now root one.blocks one.image c.run_job.new.self two.image = record { root_is = c.in_ok-ring.ensures.root; same = c.in_ok-run_job.ensures.same; follow = subst (λ (n : ℕ). MayFollow c.run_job.new.self.levels root.anchor n two.image) second c.in_ok-run_job.ensures.levels; over = c.in_ok-run_job.ensures.over; named = c.in_ok-run_job.ensures.named } in
    let n = nameable Flush c.args.table.now root one.blocks one.image c.run_job.new.self two.image run in
    let new = g.N.Nand.flash c.name_levels.new.nand in
    let e = empty_log (next_block c.args.last_block) c.args.next_seq c.name_levels.new.self.anchor new.image (clean_behind (next_block c.args.last_block) two.image new.image in_ring.0 (clean_beside one.blocks (next_block c.args.last_block) _ one.image two.image in_ring.0 in_ring.1 c.in_ok-ring.ensures.clean c.in_ok-run_job.ensures.named) c.name_levels.ensures.behind) fits
    (ap (λ (a : Anchor). a.log_block) c.in_ok-name_levels.ensures.next ∙ at) (ap (λ (a : Anchor). a.log_seq) c.in_ok-name_levels.ensures.next) in
    e.table

pub returns-clause-works : goal.returns-clause-works
returns-clause-works g c =
    let old = g.N.Nand.flash c.args.nand.now in
    let root = c.args.self.now in
    let one = g.N.Nand.flash c.begin_ring.new.nand in
    let two = g.N.Nand.flash c.run_job.new.nand in
    let first : one.blocks ≡ old.blocks = ap (λ (f : Flash). f.blocks) c.in_ok-ring.ensures.works.after in
    let second : two.blocks ≡ one.blocks = ap (λ (f : Flash). f.blocks) c.in_ok-run_job.ensures.works.after in
    let in_ring = c.begin_ring.ensures.low in
    let fits : c.args.next_seq < 2 ^ 63 = omega (arith, c.requires.next, c.requires.number) in
    let at = block_is c.in_ok-ring.ring (next_block c.args.last_block) c.args.next_seq c.block.result c.block.ensures.block c.in_ok-ring.ensures.ring in
    let run : IsRun Flush c.args.table.now root one.blocks one.image c.run_job.new.self two.image = record { root_is = c.in_ok-ring.ensures.root; same = c.in_ok-run_job.ensures.same; follow = subst (λ (n : ℕ). MayFollow c.run_job.new.self.levels root.anchor n two.image) second c.in_ok-run_job.ensures.levels; over = c.in_ok-run_job.ensures.over; named = c.in_ok-run_job.ensures.named } in
    let n = nameable Flush c.args.table.now root one.blocks one.image c.run_job.new.self two.image run in
    let new = g.N.Nand.flash c.name_levels.new.nand in
    works_on old two new 237 2 239 (2 ^ 64) 32 (g.met.N.Nand.sound c.name_levels.new.nand) (omega arith) (works_on old one two 1 236 237 0 (2 ^ 64) (g.met.N.Nand.sound c.run_job.new.nand) (omega arith) c.in_ok-ring.ensures.works c.in_ok-run_job.ensures.works) c.in_ok-name_levels.ensures.works
