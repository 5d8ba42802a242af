use Rattle.std.proofs.Common.{◌+◌, ◌∙◌, sym, ap, arith}
use Rattle.std.specs.Ordering.{nat_cmp}
use Rattle.std.specs.Map.{remove_entry}
use Rattle.std.specs.BTreeMap.{is_at}
use Rattle.kfs_model.specs.Tree.{place_cmp, with_new}
use Rattle.kfs_model.specs.Step.{World}
use Rattle.kfs_plain.specs.Tables.{world_of, tree_of, desk_of, limits_of}
use Rattle.kfs_plain.proofs.Entries.{insert_entry_is_put, remove_entry-put_new}
use Rattle.kfs_plain.proofs.Keeping.{kept_at, sound-with_new, chunks-with_new}
use Rattle.kfs_plain.proofs.room.add_node.Goals as goal

pub returns-in-Err-clause-err : goal.returns-in-Err-clause-err
returns-in-Err-clause-err c =
    let t = c.args.t.now in
    let nodes = c.in_ok-insert.ensures.entries ∙ insert_entry_is_put nat_cmp t.files.nodes.entries t.files.next c.args.node in
    let none = c.requires.kept.sound.free t.files.next (omega arith) in
    let back = c.remove.ensures.entries ∙ ap (remove_entry (is_at (nat_cmp t.files.next))) nodes ∙ remove_entry-put_new t.files.next c.args.node t.files.nodes.entries none in
    let names = c.in-Err.ensures.err in
    λ i. record { tree = record { names = names i; nodes = back i; next = t.files.next }; desk = desk_of t.desk }

pub returns-in-Err-clause-kept : goal.returns-in-Err-clause-kept
returns-in-Err-clause-kept c =
    let t = c.args.t.now in
    let nodes = c.in_ok-insert.ensures.entries ∙ insert_entry_is_put nat_cmp t.files.nodes.entries t.files.next c.args.node in
    let none = c.requires.kept.sound.free t.files.next (omega arith) in
    let back = c.remove.ensures.entries ∙ ap (remove_entry (is_at (nat_cmp t.files.next))) nodes ∙ remove_entry-put_new t.files.next c.args.node t.files.nodes.entries none in
    let names = c.in-Err.ensures.err in
    kept_at _ (world_of t) (λ i. record { tree = record { names = names i; nodes = back i; next = t.files.next }; desk = desk_of t.desk }) c.requires.kept.counted c.requires.kept.sound

pub returns-clause-ok : goal.returns-clause-ok
returns-clause-ok c =
    let t = c.args.t.now in
    let nodes = c.in_ok-insert.ensures.entries ∙ insert_entry_is_put nat_cmp t.files.nodes.entries t.files.next c.args.node in
    let names = c.in_default.ensures.entries ∙ insert_entry_is_put place_cmp t.files.names.entries c.args.place t.files.next in
    λ i. record { tree = record { names = names i; nodes = nodes i; next = t.files.next + 1 }; desk = desk_of t.desk }

pub returns-clause-kept : goal.returns-clause-kept
returns-clause-kept c =
    let t = c.args.t.now in
    let nodes = c.in_ok-insert.ensures.entries ∙ insert_entry_is_put nat_cmp t.files.nodes.entries t.files.next c.args.node in
    let names = c.in_default.ensures.entries ∙ insert_entry_is_put place_cmp t.files.names.entries c.args.place t.files.next in
    let none = c.requires.kept.sound.free t.files.next (omega arith) in
    let w : World = record { tree = with_new (tree_of t.files) c.args.place c.args.node; desk = desk_of t.desk } in
    kept_at _ w (λ i. record { tree = record { names = names i; nodes = nodes i; next = t.files.next + 1 }; desk = desk_of t.desk })
    (c.requires.kept.counted ∙ sym (chunks-with_new (tree_of t.files) c.args.place c.args.node none c.requires.empty))
    (sound-with_new (limits_of t) (world_of t) c.args.place c.args.node c.requires.kept.sound c.requires.empty c.requires.room)
