use Rattle.std.proofs.Common.{◌<◌, ◌^◌, ◌∙◌, ◌||◌, sym, ap, subst, arith, List, ℕ, sum_by, filter}
use Rattle.kfs_model.specs.declared.Node.{Node}
use Rattle.kfs_model.specs.Tree.{chunks_of, is_named}
use Rattle.kfs_model.specs.Desk.{is_open}
use Rattle.kfs_model.specs.Step.{World, swept}
use Rattle.kfs_plain.specs.Tables.{world_of, tree_of, desk_of, limits_of}
use Rattle.kfs_plain.proofs.Entries.{sum_by-filter_le}
use Rattle.kfs_plain.proofs.Keeping.{kept_at, sound-swept}
use Rattle.kfs_plain.proofs.removing.sweep.Goals as goal

pub count_chunks-t-requires : goal.count_chunks-t-requires
count_chunks-t-requires c =
    let t = c.args.t.now in
    let within = c.requires.kept.sound.within in
    let few = c.requires.kept.sound.few in
    let left = c.retain_used.ensures ∙ (λ i. filter (λ e. c.requires.used e.0 i) t.files.nodes.entries) in
    let less = sum_by-filter_le (λ (e : ℕ × Node). chunks_of e.1) (λ e. is_named (tree_of t.files) e.0 || is_open (desk_of t.desk) e.0) t.files.nodes.entries in
    subst (λ (es : List (ℕ × Node)). sum_by (λ e. chunks_of e.1) es < 2 ^ 64) (sym left) (omega (arith, less, within, few))

pub returns-clause-swept : goal.returns-clause-swept
returns-clause-swept c =
    let t = c.args.t.now in
    let left = c.retain_used.ensures ∙ (λ i. filter (λ e. c.requires.used e.0 i) t.files.nodes.entries) in
    λ i. record { tree = record { names = t.files.names.entries; nodes = left i; next = t.files.next }; desk = desk_of t.desk }

pub returns-clause-kept : goal.returns-clause-kept
returns-clause-kept c =
    let t = c.args.t.now in
    let left = c.retain_used.ensures ∙ (λ i. filter (λ e. c.requires.used e.0 i) t.files.nodes.entries) in
    let is : World = swept (world_of t) in
    kept_at _ is (λ i. record { tree = record { names = t.files.names.entries; nodes = left i; next = t.files.next }; desk = desk_of t.desk })
    (c.count_chunks-t.ensures ∙ ap (λ (es : List (ℕ × Node)). sum_by (λ e. chunks_of e.1) es) left)
    (sound-swept (limits_of t) (world_of t) c.requires.kept.sound)
