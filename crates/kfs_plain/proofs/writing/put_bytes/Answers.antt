use Rattle.std.proofs.Common.{◌≡◌, ◌≤◌, ◌∙◌, ◌+◌, sym, subst, arith, List, ℕ, take}
use Rattle.kfs_model.specs.declared.Node.TheVariants.{File}
use Rattle.kfs_model.specs.Tree.{charge, with_node, written}
use Rattle.kfs_model.specs.Step.{content, bytes_of}
use Rattle.kfs_plain.specs.Tables.{tree_of, limits_of}
use Rattle.kfs_plain.proofs.Writable.{writable-le, writable-room}
use Rattle.kfs_plain.proofs.writing.put_bytes.Goals as goal

pub data_front-requires : goal.data_front-requires
data_front-requires c = writable-le (limits_of c.args.t.now) (tree_of c.args.t.now.files) c.args.node c.args.place (bytes_of c.args.given.now) c.args.count c.requires.fitting c.requires.some

pub put_content-requires-clause-room : goal.put_content-requires-clause-room
put_content-requires-clause-room c sorted =
    let t = c.args.t.now in
    let front = c.bytes.ensures ∙ c.in_ok-front.ensures in
    let bytes : c.in_ok-bytes.bytes ≡ written (content (tree_of t.files) c.args.node) c.args.place (take c.args.count (bytes_of c.args.given.now)) = c.in_ok-bytes.ensures ∙ (λ i. written (c.content.ensures i) c.args.place (front i)) in
    let room = writable-room (limits_of t) (tree_of t.files) c.args.node c.args.place (bytes_of c.args.given.now) c.args.count c.requires.fitting c.requires.some in
    let low = room.0 in
    subst (λ (s : List ℕ). charge (with_node (tree_of t.files) c.args.node (File s)) ≤ t.keys + 3) (sym bytes) (omega arith)
