use Rattle.std.proofs.Common.{◌∙◌, ◌+◌, ◌/◌, ◌^◌, ap, sym, arith}
use Rattle.std.proofs.lemmas.Result.{err_from_is_err_and}
use Rattle.kssd_levels.specs.declared.kind.JobKind.TheVariants.{Flush, Zero, One}
use Rattle.kssd_root.specs.Costs.{run_cost, merge_cost, most_place_cost}
use Rattle.kssd_root.proofs.Steps.{works_on, stops_on}
use Rattle.kssd_model.specs.Groups.{Walk}
use Rattle.kssd_root.proofs.Moving.{root_age, log_same, table_still}
use Rattle.kssd_root.proofs.root.Root.flush.Goals as goal

pub flush_table-requires-clause-table : goal.flush_table-requires-clause-table
flush_table-requires-clause-table g c =
    let old = g.N.Nand.flash c.args.nand.now in
    let root = c.args.self.now in
    let mid = g.N.Nand.flash c.make_room.new.nand in
    let next = c.make_room.new.self in
    let age = root_age next mid.blocks mid.image c.in_ok-make_room.ensures.root in
    c.requires.table ∙ sym (table_still root.page root.anchor next.anchor old.blocks old.image mid.image c.requires.root.anchored c.in_ok-make_room.ensures.log)

pub flush_table-requires-clause-last : goal.flush_table-requires-clause-last
flush_table-requires-clause-last g c =
    let old = g.N.Nand.flash c.args.nand.now in
    let root = c.args.self.now in
    let mid = g.N.Nand.flash c.make_room.new.nand in
    let next = c.make_room.new.self in
    let age = root_age next mid.blocks mid.image c.in_ok-make_room.ensures.root in
    let log = log_same root.page root.anchor next.anchor old.blocks old.image mid.image c.requires.root.anchored c.in_ok-make_room.ensures.log in
    c.requires.last ∙ ap (λ (w : Walk). w.end / 32) (sym log)

pub flush_table-requires-clause-next : goal.flush_table-requires-clause-next
flush_table-requires-clause-next g c =
    let old = g.N.Nand.flash c.args.nand.now in
    let root = c.args.self.now in
    let mid = g.N.Nand.flash c.make_room.new.nand in
    let next = c.make_room.new.self in
    let age = root_age next mid.blocks mid.image c.in_ok-make_room.ensures.root in
    let log = log_same root.page root.anchor next.anchor old.blocks old.image mid.image c.requires.root.anchored c.in_ok-make_room.ensures.log in
    c.requires.next ∙ ap (λ (w : Walk). w.next) (sym log)

pub flush_table-requires-clause-number : goal.flush_table-requires-clause-number
flush_table-requires-clause-number g c =
    let old = g.N.Nand.flash c.args.nand.now in
    let root = c.args.self.now in
    let mid = g.N.Nand.flash c.make_room.new.nand in
    let next = c.make_room.new.self in
    let age = root_age next mid.blocks mid.image c.in_ok-make_room.ensures.root in
    omega (arith, age, c.make_room.ensures.aged, c.requires.number)

pub returns-in_err-ring-2-clause-aged : goal.returns-in_err-ring-2-clause-aged
returns-in_err-ring-2-clause-aged g c =
    let old = g.N.Nand.flash c.args.nand.now in
    let root = c.args.self.now in
    let mid = g.N.Nand.flash c.make_room.new.nand in
    let next = c.make_room.new.self in
    let age = root_age next mid.blocks mid.image c.in_ok-make_room.ensures.root in
    omega (arith, age, c.make_room.ensures.aged, c.flush_table.ensures.aged)

pub returns-clause-aged : goal.returns-clause-aged
returns-clause-aged g c =
    let old = g.N.Nand.flash c.args.nand.now in
    let root = c.args.self.now in
    let mid = g.N.Nand.flash c.make_room.new.nand in
    let next = c.make_room.new.self in
    let age = root_age next mid.blocks mid.image c.in_ok-make_room.ensures.root in
    omega (arith, age, c.make_room.ensures.aged, c.flush_table.ensures.aged)

pub returns-clause-works : goal.returns-clause-works
returns-clause-works g c =
    let old = g.N.Nand.flash c.args.nand.now in
    let mid = g.N.Nand.flash c.make_room.new.nand in
    let new = g.N.Nand.flash c.flush_table.new.nand in
    works_on old mid new (merge_cost One old.blocks + merge_cost Zero old.blocks) (run_cost Flush mid.blocks + 3) (most_place_cost old.blocks) (2 ^ 64) (2 ^ 64) (g.met.N.Nand.sound c.flush_table.new.nand) (omega arith)
    c.in_ok-make_room.ensures.works c.in_ok-ring-2.ensures.works

pub returns-in_err-ring-2-clause-stops : goal.returns-in_err-ring-2-clause-stops
returns-in_err-ring-2-clause-stops g c =
    let old = g.N.Nand.flash c.args.nand.now in
    let mid = g.N.Nand.flash c.make_room.new.nand in
    let new = g.N.Nand.flash c.flush_table.new.nand in
    let p = err_from_is_err_and c.from_residual-in_err-ring-2.result c.from_residual-in_err-ring-2.ensures.1 in
    rw (p.1, p.2) (stops_on old mid new _ (merge_cost One old.blocks + merge_cost Zero old.blocks) (run_cost Flush mid.blocks + 3) (most_place_cost old.blocks) (2 ^ 64) (2 ^ 64) (g.met.N.Nand.sound c.flush_table.new.nand) (omega arith)
    c.in_ok-make_room.ensures.works c.in_err-ring-2.ensures.stops)
