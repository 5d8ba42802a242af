use Rattle.std.proofs.Common.{◌∙◌, sym, ap, subst, List, ◌≤◌, ◌+◌, length, cond, set, ◌≡◌, ◌<◌, false}
use Rattle.std.specs.Prelude.{is_some, insert}
use Rattle.kssd_entry.specs.declared.entry.Entry.{Entry}
use Rattle.kssd_entry.specs.Spelling.{key_of}
use Rattle.kssd_model.specs.Rising.{find_entry, put_entry}
use Rattle.kssd_tx.specs.Lists.{IsChangeList}
use Rattle.kssd_tx.proofs.Changing.{searched, put_at, put_in, list_at, list_in, length_at, length_in}
use Rattle.kssd_tx.proofs.changes.Changes.put.Goals as goal

pub invariant_of-self : goal.invariant_of-self
invariant_of-self c =
    let s = searched c.self.inside.items.items c.args.entry c.deref.result.now c.deref-2.result.now c.key.result.now c.key-2.result.now c.place_in-place.result c.has_at.result c.deref.ensures.value c.deref-2.ensures.value c.key.ensures c.key-2.ensures c.place_in-place.ensures c.has_at.ensures in
    list_at c.self.inside.items.items c.args.entry c.place_in-place.result c.has_at.result c.self.invariant s c.if-has_at.true

pub returns-then-has_at-clause-ok : goal.returns-then-has_at-clause-ok
returns-then-has_at-clause-ok c =
    let s = searched c.self.inside.items.items c.args.entry c.deref.result.now c.deref-2.result.now c.key.result.now c.key-2.result.now c.place_in-place.result c.has_at.result c.deref.ensures.value c.deref-2.ensures.value c.key.ensures c.key-2.ensures c.place_in-place.ensures c.has_at.ensures in
    put_at c.self.inside.items.items c.args.entry c.place_in-place.result c.has_at.result s c.if-has_at.true
    ∙ ap (λ (xs : List Entry). put_entry xs c.args.entry) c.self.view_is

pub returns-then-has_at-clause-more : goal.returns-then-has_at-clause-more
returns-then-has_at-clause-more c =
    let found = is_some (find_entry c.args.self.now (key_of c.args.entry)) in
    subst (λ (xs : List Entry). length (set c.self.inside.items.items c.place_in-place.result c.args.entry) ≤ length xs + cond found 0 1) c.self.view_is
    (length_at c.self.inside.items.items c.args.entry c.place_in-place.result found)

pub invariant_of-self-2 : goal.invariant_of-self-2
invariant_of-self-2 c =
    let s = searched c.self.inside.items.items c.args.entry c.deref.result.now c.deref-2.result.now c.key.result.now c.key-2.result.now c.place_in-place.result c.has_at.result c.deref.ensures.value c.deref-2.ensures.value c.key.ensures c.key-2.ensures c.place_in-place.ensures c.has_at.ensures in
    let room = subst (λ (xs : List Entry). is_some (find_entry xs (key_of c.args.entry)) ≡ false → length xs < 640) (sym c.self.view_is) c.requires in
    subst IsChangeList (sym c.in_ok-insert.ensures.items) (list_in c.self.inside.items.items c.args.entry c.place_in-place.result c.has_at.result c.self.invariant room s c.if-has_at.false)

pub returns-clause-ok : goal.returns-clause-ok
returns-clause-ok c =
    let s = searched c.self.inside.items.items c.args.entry c.deref.result.now c.deref-2.result.now c.key.result.now c.key-2.result.now c.place_in-place.result c.has_at.result c.deref.ensures.value c.deref-2.ensures.value c.key.ensures c.key-2.ensures c.place_in-place.ensures c.has_at.ensures in
    c.in_ok-insert.ensures.items
    ∙ put_in c.self.inside.items.items c.args.entry c.place_in-place.result c.has_at.result s c.if-has_at.false
    ∙ ap (λ (xs : List Entry). put_entry xs c.args.entry) c.self.view_is

pub returns-clause-more : goal.returns-clause-more
returns-clause-more c =
    let s = searched c.self.inside.items.items c.args.entry c.deref.result.now c.deref-2.result.now c.key.result.now c.key-2.result.now c.place_in-place.result c.has_at.result c.deref.ensures.value c.deref-2.ensures.value c.key.ensures c.key-2.ensures c.place_in-place.ensures c.has_at.ensures in
    let more = length_in c.self.inside.items.items c.args.entry c.place_in-place.result c.has_at.result c.self.invariant s c.if-has_at.false in
    subst (λ (ys : List Entry). length ys ≤ length c.args.self.now + cond (is_some (find_entry c.args.self.now (key_of c.args.entry))) 0 1) (sym c.in_ok-insert.ensures.items)
    (subst (λ (xs : List Entry). length (insert c.self.inside.items.items c.place_in-place.result c.args.entry) ≤ length xs + cond (is_some (find_entry xs (key_of c.args.entry))) 0 1) c.self.view_is more)
