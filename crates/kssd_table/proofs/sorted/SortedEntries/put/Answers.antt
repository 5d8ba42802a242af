use Rattle.std.proofs.Common.{◌∙◌, sym, ap, subst, List, length, ◌<◌, ◌⊎◌}
use Rattle.std.specs.Prelude.{IsSome}
use Rattle.kssd_entry.specs.declared.entry.Entry.{Entry}
use Rattle.kssd_entry.specs.Spelling.{key_of}
use Rattle.kssd_model.specs.Rising.{find_entry, put_entry}
use Rattle.kssd_table.specs.Table.{IsSortedTable}
use Rattle.kssd_table.proofs.Places.{searched, put_at, put_in, sorted_at, sorted_in}
use Rattle.kssd_table.proofs.sorted.SortedEntries.put.Goals as goal

pub invariant_of-self : goal.invariant_of-self
invariant_of-self c =
    let s = searched c.self.inside.items.items c.args.self.now c.args.entry c.key.result.now c.key-2.result.now c.place_of-place.result c.has_at.result c.self.view_is c.key.ensures c.key-2.ensures c.place_of-place.ensures.place c.has_at.ensures in
    sorted_at c.self.inside.items.items c.place_of-place.result c.args.entry c.has_at.result c.self.invariant s.place s.has_at c.if-has_at.true

pub returns-then-has_at-clause-ok : goal.returns-then-has_at-clause-ok
returns-then-has_at-clause-ok c =
    let s = searched c.self.inside.items.items c.args.self.now c.args.entry c.key.result.now c.key-2.result.now c.place_of-place.result c.has_at.result c.self.view_is c.key.ensures c.key-2.ensures c.place_of-place.ensures.place c.has_at.ensures in
    put_at c.self.inside.items.items c.place_of-place.result c.args.entry c.has_at.result s.place s.has_at c.if-has_at.true
    ∙ ap (λ (xs : List Entry). put_entry xs c.args.entry) c.self.view_is

pub invariant_of-self-2 : goal.invariant_of-self-2
invariant_of-self-2 c =
    let s = searched c.self.inside.items.items c.args.self.now c.args.entry c.key.result.now c.key-2.result.now c.place_of-place.result c.has_at.result c.self.view_is c.key.ensures c.key-2.ensures c.place_of-place.ensures.place c.has_at.ensures in
    let room = subst (λ (xs : List Entry). IsSome (find_entry xs (key_of c.args.entry)) ⊎ (length xs < 2048)) (sym c.self.view_is) c.requires in
    subst IsSortedTable (sym c.in_ok-insert.ensures.items) (sorted_in c.self.inside.items.items c.place_of-place.result c.args.entry c.has_at.result c.self.invariant room s.place s.has_at c.if-has_at.false)

pub returns-clause-ok : goal.returns-clause-ok
returns-clause-ok c =
    let s = searched c.self.inside.items.items c.args.self.now c.args.entry c.key.result.now c.key-2.result.now c.place_of-place.result c.has_at.result c.self.view_is c.key.ensures c.key-2.ensures c.place_of-place.ensures.place c.has_at.ensures in
    c.in_ok-insert.ensures.items
    ∙ put_in c.self.inside.items.items c.place_of-place.result c.args.entry c.has_at.result s.place s.has_at c.if-has_at.false
    ∙ ap (λ (xs : List Entry). put_entry xs c.args.entry) c.self.view_is
