use Rattle.std.proofs.Common.{◌≡◌, ◌≤◌, ◌+◌, ◌-◌, ◌∙◌, sym, ap, subst, List, ℕ, length, leb}
use Rattle.std.specs.Prelude.{◌&&◌}
use Rattle.kfs_model.specs.declared.Node.TheVariants.{File}
use Rattle.kfs_model.specs.Tree.{has_room, with_node, chunks_for}
use Rattle.kfs_model.specs.Step.{content}
use Rattle.kfs_plain.specs.Tables.{tree_of, limits_of}
use Rattle.kfs_plain.proofs.Fitting.{counted-le, has_room-counted, leb_true, leb_false, and_true, and_false}
use Rattle.kfs_plain.proofs.room.has_room_with.Goals as goal

pub overflow_sub-charge_fits : goal.overflow_sub-charge_fits
overflow_sub-charge_fits c =
    let t = c.args.t.now in
    let b-is : c.chunks_for-before.result ≡ chunks_for (length (content (tree_of t.files) c.args.node)) = c.chunks_for-before.ensures ∙ ap (λ (s : List ℕ). chunks_for (length s)) c.content.ensures in
    let le = counted-le (tree_of t.files) c.args.node c.chunks_for-before.result c.charge.ensures.sorted c.requires.there b-is in
    subst (λ n. c.chunks_for-before.result ≤ n) (sym c.charge.ensures.charge) le.1

pub overflow_sub-chunks_fit : goal.overflow_sub-chunks_fit
overflow_sub-chunks_fit c =
    let t = c.args.t.now in
    let b-is : c.chunks_for-before.result ≡ chunks_for (length (content (tree_of t.files) c.args.node)) = c.chunks_for-before.ensures ∙ ap (λ (s : List ℕ). chunks_for (length s)) c.content.ensures in
    let le = counted-le (tree_of t.files) c.args.node c.chunks_for-before.result c.charge.ensures.sorted c.requires.there b-is in
    subst (λ n. c.chunks_for-before.result ≤ n) (sym c.requires.kept.counted) le.0

pub returns-then-charge_fits : goal.returns-then-charge_fits
returns-then-charge_fits c =
    let t = c.args.t.now in
    let b = c.chunks_for-before.result in
    let a = c.chunks_for-after.result in
    let b-is : b ≡ chunks_for (length (content (tree_of t.files) c.args.node)) = c.chunks_for-before.ensures ∙ ap (λ (s : List ℕ). chunks_for (length s)) c.content.ensures in
    λ bytes same.
    let room = has_room-counted (limits_of t) (tree_of t.files) c.args.node b a bytes c.charge.ensures.sorted c.requires.there b-is (c.chunks_for-after.ensures ∙ ap chunks_for (sym same)) in
    let told : has_room (limits_of t) (with_node (tree_of t.files) c.args.node (File bytes)) ≡ (leb (c.charge.result - b + a) t.keys && leb (t.files.chunks - b + a) t.pages) = room ∙ (λ i. leb (sym c.charge.ensures.charge i - b + a) t.keys && leb (sym c.requires.kept.counted i - b + a) t.pages) in
    sym (told ∙ and_true _ _ (leb_true _ _ c.if-charge_fits.true))

pub returns-else-charge_fits : goal.returns-else-charge_fits
returns-else-charge_fits c =
    let t = c.args.t.now in
    let b = c.chunks_for-before.result in
    let a = c.chunks_for-after.result in
    let b-is : b ≡ chunks_for (length (content (tree_of t.files) c.args.node)) = c.chunks_for-before.ensures ∙ ap (λ (s : List ℕ). chunks_for (length s)) c.content.ensures in
    λ bytes same.
    let room = has_room-counted (limits_of t) (tree_of t.files) c.args.node b a bytes c.charge.ensures.sorted c.requires.there b-is (c.chunks_for-after.ensures ∙ ap chunks_for (sym same)) in
    let told : has_room (limits_of t) (with_node (tree_of t.files) c.args.node (File bytes)) ≡ (leb (c.charge.result - b + a) t.keys && leb (t.files.chunks - b + a) t.pages) = room ∙ (λ i. leb (sym c.charge.ensures.charge i - b + a) t.keys && leb (sym c.requires.kept.counted i - b + a) t.pages) in
    sym (told ∙ and_false _ _ (leb_false _ _ c.if-charge_fits.false))
