use Rattle.std.proofs.Common.{◌≡◌, ◌≤◌, ◌<◌, ◌-◌, ◌*◌, ◌∙◌, sym, ap, subst, List, ℕ, length, min}
use Rattle.kfs_model.specs.Tree.{charge, chunks, chunks_for}
use Rattle.kfs_model.specs.Step.{content}
use Rattle.kfs_plain.specs.Tables.{tree_of, limits_of}
use Rattle.kfs_plain.proofs.Fitting.{counted-le, top_chunks, fits-above, fits-within}
use Rattle.kfs_plain.proofs.room.fits.Goals as goal

pub overflow_sub-charge : goal.overflow_sub-charge
overflow_sub-charge c =
    let t = c.args.t.now in
    let b-is : c.chunks_for-before.result ≡ chunks_for (length (content (tree_of t.files) c.args.node)) = c.chunks_for-before.ensures ∙ ap (λ (s : List ℕ). chunks_for (length s)) c.content.ensures in
    let le = counted-le (tree_of t.files) c.args.node c.chunks_for-before.result c.charge.ensures.sorted c.requires.there b-is in
    subst (λ n. c.chunks_for-before.result ≤ n) (sym c.charge.ensures.charge) le.1

pub overflow_sub-t : goal.overflow_sub-t
overflow_sub-t c =
    let t = c.args.t.now in
    let b-is : c.chunks_for-before.result ≡ chunks_for (length (content (tree_of t.files) c.args.node)) = c.chunks_for-before.ensures ∙ ap (λ (s : List ℕ). chunks_for (length s)) c.content.ensures in
    let le = counted-le (tree_of t.files) c.args.node c.chunks_for-before.result c.charge.ensures.sorted c.requires.there b-is in
    subst (λ n. c.chunks_for-before.result ≤ n) (sym c.requires.kept.counted) le.0

pub returns-then-greatest-before : goal.returns-then-greatest-before
returns-then-greatest-before c =
    let t = c.args.t.now in
    let b = c.chunks_for-before.result in
    let b-is : b ≡ chunks_for (length (content (tree_of t.files) c.args.node)) = c.chunks_for-before.ensures ∙ ap (λ (s : List ℕ). chunks_for (length s)) c.content.ensures in
    let by_keys : c.saturating_sub-by_keys.result ≡ t.keys - (charge (tree_of t.files) - b) = c.saturating_sub-by_keys.ensures ∙ ap (λ n. t.keys - (n - b)) c.charge.ensures.charge in
    let by_pages : c.saturating_sub-by_pages.result ≡ t.pages - (chunks (tree_of t.files) - b) = c.saturating_sub-by_pages.ensures ∙ ap (λ n. t.pages - (n - b)) c.requires.kept.counted in
    let top-is : c.min-greatest.result ≡ top_chunks (limits_of t) (tree_of t.files) b = c.min-greatest.ensures ∙ (λ i. min (by_keys i) (by_pages i)) in
    sym (fits-above (limits_of t) (tree_of t.files) c.args.node c.args.place c.args.most b c.charge.ensures.sorted c.requires.there b-is (subst (λ n. n < b) top-is c.if-greatest-before.true))

pub returns : goal.returns
returns c =
    let t = c.args.t.now in
    let b = c.chunks_for-before.result in
    let b-is : b ≡ chunks_for (length (content (tree_of t.files) c.args.node)) = c.chunks_for-before.ensures ∙ ap (λ (s : List ℕ). chunks_for (length s)) c.content.ensures in
    let by_keys : c.saturating_sub-by_keys.result ≡ t.keys - (charge (tree_of t.files) - b) = c.saturating_sub-by_keys.ensures ∙ ap (λ n. t.keys - (n - b)) c.charge.ensures.charge in
    let by_pages : c.saturating_sub-by_pages.result ≡ t.pages - (chunks (tree_of t.files) - b) = c.saturating_sub-by_pages.ensures ∙ ap (λ n. t.pages - (n - b)) c.requires.kept.counted in
    let top-is : c.min-greatest.result ≡ top_chunks (limits_of t) (tree_of t.files) b = c.min-greatest.ensures ∙ (λ i. min (by_keys i) (by_pages i)) in
    sym (fits-within (limits_of t) (tree_of t.files) c.args.node c.args.place c.args.most b c.min.result c.charge.ensures.sorted c.requires.there b-is
    (subst (λ n. b ≤ n) top-is c.if-greatest-before.false)
    (c.min.ensures ∙ ap (min c.args.most) (c.saturating_sub.ensures ∙ ap (λ n. n * 4096 - c.args.place) (c.min-end.ensures ∙ ap (λ n. min n 256) top-is))))
