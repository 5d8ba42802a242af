use Rattle.std.proofs.Common.{◌≡◌, ◌+◌, ◌-◌, ◌∙◌, ap, arith, List, ℕ, length}
use Rattle.std.specs.Ordering.{nat_cmp}
use Rattle.kfs_model.specs.declared.Node.TheVariants.{File}
use Rattle.kfs_model.specs.Tree.{with_node, chunks_for}
use Rattle.kfs_model.specs.Step.{World, content}
use Rattle.kfs_plain.specs.Tables.{tree_of, world_of, desk_of, limits_of}
use Rattle.kfs_plain.proofs.Entries.{insert_entry_is_put, sorted_test}
use Rattle.kfs_plain.proofs.Fitting.{counted-le, charge-counted, chunks-counted}
use Rattle.kfs_plain.proofs.Keeping.{kept_at, sound-with_node}
use Rattle.kfs_plain.proofs.contents.put_content.Goals as goal

pub overflow_add-t : goal.overflow_add-t
overflow_add-t c =
    let t = c.args.t.now in
    let b = c.chunks_for-before.result in
    let a = c.chunks_for-after.result in
    let b-is : b ≡ chunks_for (length (content (tree_of t.files) c.args.node)) = c.chunks_for-before.ensures ∙ ap (λ (s : List ℕ). chunks_for (length s)) c.content.ensures in
    let a-is : a ≡ chunks_for (length c.args.bytes) = c.chunks_for-after.ensures ∙ ap (λ (s : List ℕ). chunks_for (length s)) c.bytes.ensures in
    let sorted = sorted_test t.files.nodes.entries c.in_ok-insert.ensures.was_ordered in
    let le = counted-le (tree_of t.files) c.args.node b sorted c.requires.there b-is in
    let e = charge-counted (tree_of t.files) c.args.node b a c.args.bytes sorted c.requires.there b-is a-is in
    let room = c.requires.room sorted in
    let counted = c.requires.kept.counted in
    let within = c.requires.kept.sound.within in
    let few = c.requires.kept.sound.few in
    let low = le.0 in
    let high = le.1 in
    omega arith

pub overflow_sub-t : goal.overflow_sub-t
overflow_sub-t c =
    let t = c.args.t.now in
    let b = c.chunks_for-before.result in
    let a = c.chunks_for-after.result in
    let b-is : b ≡ chunks_for (length (content (tree_of t.files) c.args.node)) = c.chunks_for-before.ensures ∙ ap (λ (s : List ℕ). chunks_for (length s)) c.content.ensures in
    let a-is : a ≡ chunks_for (length c.args.bytes) = c.chunks_for-after.ensures ∙ ap (λ (s : List ℕ). chunks_for (length s)) c.bytes.ensures in
    let sorted = sorted_test t.files.nodes.entries c.in_ok-insert.ensures.was_ordered in
    let le = counted-le (tree_of t.files) c.args.node b sorted c.requires.there b-is in
    let counted = c.requires.kept.counted in
    let low = le.0 in
    omega arith

pub returns-clause-ok : goal.returns-clause-ok
returns-clause-ok c =
    let t = c.args.t.now in
    let nodes = c.in_ok-insert.ensures.entries ∙ insert_entry_is_put nat_cmp t.files.nodes.entries c.args.node (File c.args.bytes) in
    λ i. record { tree = record { names = t.files.names.entries; nodes = nodes i; next = t.files.next }; desk = desk_of t.desk }

pub returns-clause-kept : goal.returns-clause-kept
returns-clause-kept c =
    let t = c.args.t.now in
    let b = c.chunks_for-before.result in
    let a = c.chunks_for-after.result in
    let b-is : b ≡ chunks_for (length (content (tree_of t.files) c.args.node)) = c.chunks_for-before.ensures ∙ ap (λ (s : List ℕ). chunks_for (length s)) c.content.ensures in
    let a-is : a ≡ chunks_for (length c.args.bytes) = c.chunks_for-after.ensures ∙ ap (λ (s : List ℕ). chunks_for (length s)) c.bytes.ensures in
    let sorted = sorted_test t.files.nodes.entries c.in_ok-insert.ensures.was_ordered in
    let nodes = c.in_ok-insert.ensures.entries ∙ insert_entry_is_put nat_cmp t.files.nodes.entries c.args.node (File c.args.bytes) in
    let w : World = record { tree = with_node (tree_of t.files) c.args.node (File c.args.bytes); desk = desk_of t.desk } in
    kept_at _ w (λ i. record { tree = record { names = t.files.names.entries; nodes = nodes i; next = t.files.next }; desk = desk_of t.desk })
    (ap (λ n. n + a - b) c.requires.kept.counted ∙ chunks-counted (tree_of t.files) c.args.node b a c.args.bytes sorted c.requires.there b-is a-is)
    (sound-with_node (limits_of t) (world_of t) c.args.node (File c.args.bytes) c.requires.kept.sound c.requires.there (c.requires.room sorted))
