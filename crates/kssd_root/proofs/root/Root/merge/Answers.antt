use Rattle.std.proofs.Common.{◌≡◌, ◌∙◌, ℕ, ◌^◌, [], ap, sym, subst, arith}
use Rattle.std.proofs.lemmas.Result.{err_from_is_err_and}
use Rattle.kv_nand.specs.Flash.{Flash}
use Rattle.kssd_model.specs.declared.anchor.Anchor.{Anchor}
use Rattle.kssd_levels.specs.declared.levels.Levels.{Levels}
use Rattle.kssd_root.specs.Standing.{IsAnchored}
use Rattle.kssd_root.specs.Costs.{run_cost, merge_cost}
use Rattle.kssd_root.specs.Following.{MayFollow}
use Rattle.kssd_root.proofs.Kept.{kept_on}
use Rattle.kssd_root.proofs.Steps.{works_on, stops_on}
use Rattle.kssd_root.proofs.Moving.{IsRun, nameable, run_keeps, run_age, merge_begins, merge_log, merge_over}
use Rattle.kssd_root.proofs.root.Root.merge.Goals as goal

pub returns-in_err-run_job-clause-kept : goal.returns-in_err-run_job-clause-kept
returns-in_err-run_job-clause-kept g c =
    let old = g.N.Nand.flash c.args.nand.now in
    let mid = g.N.Nand.flash c.run_job.new.nand in
    let root = c.args.self.now in
    let kind = c.args.kind in
    run_keeps root old.blocks old.image mid.image c.requires.root c.in_err-run_job.ensures.named

pub returns-in_err-run_job-clause-aged : goal.returns-in_err-run_job-clause-aged
returns-in_err-run_job-clause-aged g c =
    let old = g.N.Nand.flash c.args.nand.now in
    let mid = g.N.Nand.flash c.run_job.new.nand in
    let root = c.args.self.now in
    let kind = c.args.kind in
    omega (arith, run_age root old.blocks old.image mid.image c.requires.root c.in_err-run_job.ensures.named)

pub name_levels-requires-clause-device : goal.name_levels-requires-clause-device
name_levels-requires-clause-device g c =
    let old = g.N.Nand.flash c.args.nand.now in
    let mid = g.N.Nand.flash c.run_job.new.nand in
    let root = c.args.self.now in
    let kind = c.args.kind in
    let same : mid.blocks ≡ old.blocks = ap (λ (f : Flash). f.blocks) c.in_ok-run_job.ensures.works.after in
    let run : IsRun kind [] root old.blocks old.image c.run_job.new.self mid.image = record { root_is = c.requires.root; same = c.in_ok-run_job.ensures.same; follow = subst (λ (n : ℕ). MayFollow c.run_job.new.self.levels root.anchor n mid.image) same c.in_ok-run_job.ensures.levels; over = c.in_ok-run_job.ensures.over; named = c.in_ok-run_job.ensures.named } in
    let n = nameable kind [] root old.blocks old.image c.run_job.new.self mid.image run in
    n.device ∙ sym same

pub name_levels-requires-clause-anchored : goal.name_levels-requires-clause-anchored
name_levels-requires-clause-anchored g c =
    let old = g.N.Nand.flash c.args.nand.now in
    let mid = g.N.Nand.flash c.run_job.new.nand in
    let root = c.args.self.now in
    let kind = c.args.kind in
    let same : mid.blocks ≡ old.blocks = ap (λ (f : Flash). f.blocks) c.in_ok-run_job.ensures.works.after in
    let run : IsRun kind [] root old.blocks old.image c.run_job.new.self mid.image = record { root_is = c.requires.root; same = c.in_ok-run_job.ensures.same; follow = subst (λ (n : ℕ). MayFollow c.run_job.new.self.levels root.anchor n mid.image) same c.in_ok-run_job.ensures.levels; over = c.in_ok-run_job.ensures.over; named = c.in_ok-run_job.ensures.named } in
    let n = nameable kind [] root old.blocks old.image c.run_job.new.self mid.image run in
    subst (λ (k : ℕ). IsAnchored c.run_job.new.self.page c.run_job.new.self.anchor k mid.image) (sym same) n.anchored

pub name_levels-requires-clause-levels : goal.name_levels-requires-clause-levels
name_levels-requires-clause-levels g c =
    let old = g.N.Nand.flash c.args.nand.now in
    let mid = g.N.Nand.flash c.run_job.new.nand in
    let root = c.args.self.now in
    let kind = c.args.kind in
    let same : mid.blocks ≡ old.blocks = ap (λ (f : Flash). f.blocks) c.in_ok-run_job.ensures.works.after in
    let run : IsRun kind [] root old.blocks old.image c.run_job.new.self mid.image = record { root_is = c.requires.root; same = c.in_ok-run_job.ensures.same; follow = subst (λ (n : ℕ). MayFollow c.run_job.new.self.levels root.anchor n mid.image) same c.in_ok-run_job.ensures.levels; over = c.in_ok-run_job.ensures.over; named = c.in_ok-run_job.ensures.named } in
    let n = nameable kind [] root old.blocks old.image c.run_job.new.self mid.image run in
    subst (λ (k : ℕ). MayFollow c.run_job.new.self.levels c.run_job.new.self.anchor k mid.image) (sym same) n.follow

pub name_levels-requires-clause-log : goal.name_levels-requires-clause-log
name_levels-requires-clause-log g c =
    let old = g.N.Nand.flash c.args.nand.now in
    let mid = g.N.Nand.flash c.run_job.new.nand in
    let root = c.args.self.now in
    let kind = c.args.kind in
    let same : mid.blocks ≡ old.blocks = ap (λ (f : Flash). f.blocks) c.in_ok-run_job.ensures.works.after in
    let run : IsRun kind [] root old.blocks old.image c.run_job.new.self mid.image = record { root_is = c.requires.root; same = c.in_ok-run_job.ensures.same; follow = subst (λ (n : ℕ). MayFollow c.run_job.new.self.levels root.anchor n mid.image) same c.in_ok-run_job.ensures.levels; over = c.in_ok-run_job.ensures.over; named = c.in_ok-run_job.ensures.named } in
    let n = nameable kind [] root old.blocks old.image c.run_job.new.self mid.image run in
    merge_begins kind [] root old.blocks old.image c.run_job.new.self mid.image c.requires.kind c.requires.root n

pub name_levels-requires-clause-number : goal.name_levels-requires-clause-number
name_levels-requires-clause-number g c =
    let old = g.N.Nand.flash c.args.nand.now in
    let mid = g.N.Nand.flash c.run_job.new.nand in
    let root = c.args.self.now in
    let kind = c.args.kind in
    let same : mid.blocks ≡ old.blocks = ap (λ (f : Flash). f.blocks) c.in_ok-run_job.ensures.works.after in
    let run : IsRun kind [] root old.blocks old.image c.run_job.new.self mid.image = record { root_is = c.requires.root; same = c.in_ok-run_job.ensures.same; follow = subst (λ (n : ℕ). MayFollow c.run_job.new.self.levels root.anchor n mid.image) same c.in_ok-run_job.ensures.levels; over = c.in_ok-run_job.ensures.over; named = c.in_ok-run_job.ensures.named } in
    let n = nameable kind [] root old.blocks old.image c.run_job.new.self mid.image run in
    omega (arith, n.age_is, c.requires.number)

pub returns-in_err-name_levels-clause-kept : goal.returns-in_err-name_levels-clause-kept
returns-in_err-name_levels-clause-kept g c =
    let old = g.N.Nand.flash c.args.nand.now in
    let mid = g.N.Nand.flash c.run_job.new.nand in
    let root = c.args.self.now in
    let kind = c.args.kind in
    let same : mid.blocks ≡ old.blocks = ap (λ (f : Flash). f.blocks) c.in_ok-run_job.ensures.works.after in
    let run : IsRun kind [] root old.blocks old.image c.run_job.new.self mid.image = record { root_is = c.requires.root; same = c.in_ok-run_job.ensures.same; follow = subst (λ (n : ℕ). MayFollow c.run_job.new.self.levels root.anchor n mid.image) same c.in_ok-run_job.ensures.levels; over = c.in_ok-run_job.ensures.over; named = c.in_ok-run_job.ensures.named } in
    let n = nameable kind [] root old.blocks old.image c.run_job.new.self mid.image run in
    let new = g.N.Nand.flash c.name_levels.new.nand in
    kept_on old.blocks mid.blocks old.image mid.image new.image same (run_keeps root old.blocks old.image mid.image c.requires.root run.named) c.name_levels.ensures.kept

pub returns-in_err-name_levels-clause-aged : goal.returns-in_err-name_levels-clause-aged
returns-in_err-name_levels-clause-aged g c =
    let old = g.N.Nand.flash c.args.nand.now in
    let mid = g.N.Nand.flash c.run_job.new.nand in
    let root = c.args.self.now in
    let kind = c.args.kind in
    let same : mid.blocks ≡ old.blocks = ap (λ (f : Flash). f.blocks) c.in_ok-run_job.ensures.works.after in
    let run : IsRun kind [] root old.blocks old.image c.run_job.new.self mid.image = record { root_is = c.requires.root; same = c.in_ok-run_job.ensures.same; follow = subst (λ (n : ℕ). MayFollow c.run_job.new.self.levels root.anchor n mid.image) same c.in_ok-run_job.ensures.levels; over = c.in_ok-run_job.ensures.over; named = c.in_ok-run_job.ensures.named } in
    let n = nameable kind [] root old.blocks old.image c.run_job.new.self mid.image run in
    let new = g.N.Nand.flash c.name_levels.new.nand in
    omega (arith, n.age_is, c.name_levels.ensures.aged)

pub returns-in_err-name_levels-clause-stops : goal.returns-in_err-name_levels-clause-stops
returns-in_err-name_levels-clause-stops g c =
    let old = g.N.Nand.flash c.args.nand.now in
    let mid = g.N.Nand.flash c.run_job.new.nand in
    let root = c.args.self.now in
    let kind = c.args.kind in
    let same : mid.blocks ≡ old.blocks = ap (λ (f : Flash). f.blocks) c.in_ok-run_job.ensures.works.after in
    let run : IsRun kind [] root old.blocks old.image c.run_job.new.self mid.image = record { root_is = c.requires.root; same = c.in_ok-run_job.ensures.same; follow = subst (λ (n : ℕ). MayFollow c.run_job.new.self.levels root.anchor n mid.image) same c.in_ok-run_job.ensures.levels; over = c.in_ok-run_job.ensures.over; named = c.in_ok-run_job.ensures.named } in
    let n = nameable kind [] root old.blocks old.image c.run_job.new.self mid.image run in
    let new = g.N.Nand.flash c.name_levels.new.nand in
    let p = err_from_is_err_and c.from_residual-in_err-name_levels.result c.from_residual-in_err-name_levels.ensures.1 in
    rw (p.1, p.2) (stops_on old mid new _ (run_cost kind old.blocks) 2 (merge_cost kind old.blocks) (2 ^ 64) 32 (g.met.N.Nand.sound c.name_levels.new.nand) (omega arith) c.in_ok-run_job.ensures.works c.in_err-name_levels.ensures.stops)

pub returns-clause-kept : goal.returns-clause-kept
returns-clause-kept g c =
    let old = g.N.Nand.flash c.args.nand.now in
    let mid = g.N.Nand.flash c.run_job.new.nand in
    let root = c.args.self.now in
    let kind = c.args.kind in
    let same : mid.blocks ≡ old.blocks = ap (λ (f : Flash). f.blocks) c.in_ok-run_job.ensures.works.after in
    let run : IsRun kind [] root old.blocks old.image c.run_job.new.self mid.image = record { root_is = c.requires.root; same = c.in_ok-run_job.ensures.same; follow = subst (λ (n : ℕ). MayFollow c.run_job.new.self.levels root.anchor n mid.image) same c.in_ok-run_job.ensures.levels; over = c.in_ok-run_job.ensures.over; named = c.in_ok-run_job.ensures.named } in
    let n = nameable kind [] root old.blocks old.image c.run_job.new.self mid.image run in
    let new = g.N.Nand.flash c.name_levels.new.nand in
    kept_on old.blocks mid.blocks old.image mid.image new.image same (run_keeps root old.blocks old.image mid.image c.requires.root run.named) c.name_levels.ensures.kept

pub returns-clause-aged : goal.returns-clause-aged
returns-clause-aged g c =
    let old = g.N.Nand.flash c.args.nand.now in
    let mid = g.N.Nand.flash c.run_job.new.nand in
    let root = c.args.self.now in
    let kind = c.args.kind in
    let same : mid.blocks ≡ old.blocks = ap (λ (f : Flash). f.blocks) c.in_ok-run_job.ensures.works.after in
    let run : IsRun kind [] root old.blocks old.image c.run_job.new.self mid.image = record { root_is = c.requires.root; same = c.in_ok-run_job.ensures.same; follow = subst (λ (n : ℕ). MayFollow c.run_job.new.self.levels root.anchor n mid.image) same c.in_ok-run_job.ensures.levels; over = c.in_ok-run_job.ensures.over; named = c.in_ok-run_job.ensures.named } in
    let n = nameable kind [] root old.blocks old.image c.run_job.new.self mid.image run in
    let new = g.N.Nand.flash c.name_levels.new.nand in
    omega (arith, n.age_is, c.name_levels.ensures.aged)

pub returns-clause-works : goal.returns-clause-works
returns-clause-works g c =
    let old = g.N.Nand.flash c.args.nand.now in
    let mid = g.N.Nand.flash c.run_job.new.nand in
    let root = c.args.self.now in
    let kind = c.args.kind in
    let same : mid.blocks ≡ old.blocks = ap (λ (f : Flash). f.blocks) c.in_ok-run_job.ensures.works.after in
    let run : IsRun kind [] root old.blocks old.image c.run_job.new.self mid.image = record { root_is = c.requires.root; same = c.in_ok-run_job.ensures.same; follow = subst (λ (n : ℕ). MayFollow c.run_job.new.self.levels root.anchor n mid.image) same c.in_ok-run_job.ensures.levels; over = c.in_ok-run_job.ensures.over; named = c.in_ok-run_job.ensures.named } in
    let n = nameable kind [] root old.blocks old.image c.run_job.new.self mid.image run in
    let new = g.N.Nand.flash c.name_levels.new.nand in
    works_on old mid new (run_cost kind old.blocks) 2 (merge_cost kind old.blocks) (2 ^ 64) 32 (g.met.N.Nand.sound c.name_levels.new.nand) (omega arith) c.in_ok-run_job.ensures.works c.in_ok-name_levels.ensures.works

pub returns-clause-log : goal.returns-clause-log
returns-clause-log g c =
    let old = g.N.Nand.flash c.args.nand.now in
    let mid = g.N.Nand.flash c.run_job.new.nand in
    let root = c.args.self.now in
    let kind = c.args.kind in
    let same : mid.blocks ≡ old.blocks = ap (λ (f : Flash). f.blocks) c.in_ok-run_job.ensures.works.after in
    let run : IsRun kind [] root old.blocks old.image c.run_job.new.self mid.image = record { root_is = c.requires.root; same = c.in_ok-run_job.ensures.same; follow = subst (λ (n : ℕ). MayFollow c.run_job.new.self.levels root.anchor n mid.image) same c.in_ok-run_job.ensures.levels; over = c.in_ok-run_job.ensures.over; named = c.in_ok-run_job.ensures.named } in
    let n = nameable kind [] root old.blocks old.image c.run_job.new.self mid.image run in
    let new = g.N.Nand.flash c.name_levels.new.nand in
    merge_log kind [] root old.blocks old.image c.run_job.new.self mid.image c.name_levels.new.self.anchor new.image run (ap (λ (a : Anchor). a.log_block) c.in_ok-name_levels.ensures.next) (ap (λ (a : Anchor). a.log_seq) c.in_ok-name_levels.ensures.next) c.name_levels.ensures.behind

pub returns-clause-zero : goal.returns-clause-zero
returns-clause-zero g c =
    let old = g.N.Nand.flash c.args.nand.now in
    let mid = g.N.Nand.flash c.run_job.new.nand in
    let root = c.args.self.now in
    let kind = c.args.kind in
    let same : mid.blocks ≡ old.blocks = ap (λ (f : Flash). f.blocks) c.in_ok-run_job.ensures.works.after in
    let run : IsRun kind [] root old.blocks old.image c.run_job.new.self mid.image = record { root_is = c.requires.root; same = c.in_ok-run_job.ensures.same; follow = subst (λ (n : ℕ). MayFollow c.run_job.new.self.levels root.anchor n mid.image) same c.in_ok-run_job.ensures.levels; over = c.in_ok-run_job.ensures.over; named = c.in_ok-run_job.ensures.named } in
    let n = nameable kind [] root old.blocks old.image c.run_job.new.self mid.image run in
    let new = g.N.Nand.flash c.name_levels.new.nand in
    λ e. ap (λ (l : Levels). l.zero) c.in_ok-name_levels.ensures.levels ∙ c.in_ok-run_job.ensures.zero e

pub returns-clause-one : goal.returns-clause-one
returns-clause-one g c =
    let old = g.N.Nand.flash c.args.nand.now in
    let mid = g.N.Nand.flash c.run_job.new.nand in
    let root = c.args.self.now in
    let kind = c.args.kind in
    let same : mid.blocks ≡ old.blocks = ap (λ (f : Flash). f.blocks) c.in_ok-run_job.ensures.works.after in
    let run : IsRun kind [] root old.blocks old.image c.run_job.new.self mid.image = record { root_is = c.requires.root; same = c.in_ok-run_job.ensures.same; follow = subst (λ (n : ℕ). MayFollow c.run_job.new.self.levels root.anchor n mid.image) same c.in_ok-run_job.ensures.levels; over = c.in_ok-run_job.ensures.over; named = c.in_ok-run_job.ensures.named } in
    let n = nameable kind [] root old.blocks old.image c.run_job.new.self mid.image run in
    let new = g.N.Nand.flash c.name_levels.new.nand in
    λ e. ap (λ (l : Levels). l.one) c.in_ok-name_levels.ensures.levels ∙ c.in_ok-run_job.ensures.one e

pub returns-clause-over : goal.returns-clause-over
returns-clause-over g c =
    let old = g.N.Nand.flash c.args.nand.now in
    let mid = g.N.Nand.flash c.run_job.new.nand in
    let root = c.args.self.now in
    let kind = c.args.kind in
    let same : mid.blocks ≡ old.blocks = ap (λ (f : Flash). f.blocks) c.in_ok-run_job.ensures.works.after in
    let run : IsRun kind [] root old.blocks old.image c.run_job.new.self mid.image = record { root_is = c.requires.root; same = c.in_ok-run_job.ensures.same; follow = subst (λ (n : ℕ). MayFollow c.run_job.new.self.levels root.anchor n mid.image) same c.in_ok-run_job.ensures.levels; over = c.in_ok-run_job.ensures.over; named = c.in_ok-run_job.ensures.named } in
    let n = nameable kind [] root old.blocks old.image c.run_job.new.self mid.image run in
    let new = g.N.Nand.flash c.name_levels.new.nand in
    merge_over kind [] root old.blocks new.blocks old.image c.run_job.new.self mid.image c.name_levels.new.self new.image c.requires.kind run c.in_ok-name_levels.ensures.root c.in_ok-name_levels.ensures.levels c.name_levels.ensures.behind
