use Rattle.std.proofs.Common.{ℕ, List, ap, sym, subst}
use Rattle.std.specs.Option.{option_copied}
use Rattle.kv_nand.specs.Flash.{Flash}
use Rattle.kssd_entry.specs.declared.entry.Entry.{Entry}
use Rattle.kssd_compact.specs.Starting.{frozen_entries}
use Rattle.kssd_root.specs.Following.{MayFollow}
use Rattle.kssd_root.proofs.Installed.{IsDone, goal_most, number_free, known, over_still, may_follow, zero_empty, one_empty}
use Rattle.kssd_root.proofs.root.Root.run_job.Goals as goal

pub write_run-requires-clause-most : goal.write_run-requires-clause-most
write_run-requires-clause-most g c =
    let old = g.N.Nand.flash c.args.nand.now in
    let root = c.args.self.now in
    let log : List Entry = frozen_entries (option_copied c.args.table) in
    goal_most c.args.kind root.page root.anchor root.levels log old.blocks old.image c.requires.root.anchored c.requires.root.runs c.requires.entries c.requires.few

pub write_run-requires-clause-number : goal.write_run-requires-clause-number
write_run-requires-clause-number g c =
    let old = g.N.Nand.flash c.args.nand.now in
    let root = c.args.self.now in
    let log : List Entry = frozen_entries (option_copied c.args.table) in
    number_free root.page root.anchor root.levels old.blocks old.image c.requires.root.anchored c.requires.root.runs

pub returns-clause-levels : goal.returns-clause-levels
returns-clause-levels g c =
    let old = g.N.Nand.flash c.args.nand.now in
    let mid = g.N.Nand.flash c.write_run.new.nand in
    let root = c.args.self.now in
    let log : List Entry = frozen_entries (option_copied c.args.table) in
    let done : IsDone c.args.kind root.page root.anchor log root.levels c.in_ok-run.run' c.install.new.self old.blocks old.image mid.image = record { some = c.requires.kind; anchored = c.requires.root.anchored; runs = c.requires.root.runs; rising = c.requires.rising; few = c.requires.keys; named = c.in_ok-run.ensures.named; made = c.in_ok-run.ensures.run; installs = c.in_ok-install.ensures.installs; keeps = c.in_ok-install.ensures.keeps } in
    subst (λ (n : ℕ). MayFollow c.install.new.self root.anchor n mid.image) (sym (ap (λ (f : Flash). f.blocks) c.in_ok-run.ensures.works.after)) (may_follow c.args.kind root.page root.anchor log root.levels c.in_ok-run.run' c.install.new.self old.blocks old.image mid.image done)

pub returns-clause-over : goal.returns-clause-over
returns-clause-over g c =
    let old = g.N.Nand.flash c.args.nand.now in
    let mid = g.N.Nand.flash c.write_run.new.nand in
    let root = c.args.self.now in
    let log : List Entry = frozen_entries (option_copied c.args.table) in
    let done : IsDone c.args.kind root.page root.anchor log root.levels c.in_ok-run.run' c.install.new.self old.blocks old.image mid.image = record { some = c.requires.kind; anchored = c.requires.root.anchored; runs = c.requires.root.runs; rising = c.requires.rising; few = c.requires.keys; named = c.in_ok-run.ensures.named; made = c.in_ok-run.ensures.run; installs = c.in_ok-install.ensures.installs; keeps = c.in_ok-install.ensures.keeps } in
    over_still c.args.kind root.page root.anchor log root.levels c.in_ok-run.run' c.install.new.self old.blocks old.image mid.image c.requires.kind (known c.args.kind root.page root.anchor log root.levels c.in_ok-run.run' c.install.new.self old.blocks old.image mid.image done)

pub returns-clause-zero : goal.returns-clause-zero
returns-clause-zero g c =
    let old = g.N.Nand.flash c.args.nand.now in
    let mid = g.N.Nand.flash c.write_run.new.nand in
    let root = c.args.self.now in
    let log : List Entry = frozen_entries (option_copied c.args.table) in
    zero_empty c.args.kind c.in_ok-run.run' root.levels c.install.new.self c.in_ok-install.ensures.installs

pub returns-clause-one : goal.returns-clause-one
returns-clause-one g c =
    let old = g.N.Nand.flash c.args.nand.now in
    let mid = g.N.Nand.flash c.write_run.new.nand in
    let root = c.args.self.now in
    let log : List Entry = frozen_entries (option_copied c.args.table) in
    one_empty c.args.kind c.in_ok-run.run' root.levels c.install.new.self c.in_ok-install.ensures.installs
