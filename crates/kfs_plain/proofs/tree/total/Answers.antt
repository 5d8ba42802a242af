use Rattle.std.proofs.Common.{◌≡◌, ◌+◌, ◌∙◌, sym, ap, arith, List, ℕ, sum_by, length}
use Rattle.std.proofs.lemmas.List.Sums.{sum_by-cons}
use Rattle.kfs_model.specs.declared.Node.{Node}
use Rattle.kfs_plain.specs.Plain.{bytes_in}
use Rattle.kfs_plain.proofs.Keeping.{bytes-le}
use Rattle.kfs_plain.proofs.tree.total.Goals as goal

pub overflow_add-bytes : goal.overflow_add-bytes
overflow_add-bytes c =
    let f = λ (e : ℕ × Node). bytes_in e.1 in
    let here : sum_by f c.loop-node.node-iterator ≡ bytes_in c.in-Some.node.now + sum_by f c.next.new.self = ap (sum_by f) c.in-Some.ensures.steps ∙ sum_by-cons f (c.in-Some.field-0-0.now, c.in-Some.node.now) c.next.new.self in
    let node : bytes_in c.in-Some.node.now ≡ length c.bytes.result.now = ap bytes_in c.in-File.is ∙ ap (λ (s : List ℕ). length s) (sym c.bytes.ensures) in
    let all = bytes-le c.args.t.now.files.nodes.entries in
    let so_far = c.loop-node.invariant in
    let within = c.requires.sound.within in
    let few = c.requires.sound.few in
    omega arith
