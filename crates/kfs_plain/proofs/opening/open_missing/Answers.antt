use Rattle.std.proofs.Common.{ap, subst, sym}
use Rattle.std.specs.Prelude.{IsSome}
use Rattle.kfs_model.specs.declared.Description.{Description}
use Rattle.kfs_model.specs.declared.Node.TheVariants.{File}
use Rattle.kfs_model.specs.Tree.{node_of}
use Rattle.kfs_model.specs.Step.{World}
use Rattle.kfs_plain.specs.Tables.{tree_of, desk_of}
use Rattle.kfs_plain.proofs.Entries.{IsSome-put}
use Rattle.kfs_plain.proofs.Opened.{kept-open}
use Rattle.kfs_plain.proofs.opening.open_missing.Goals as goal

pub returns-clause-kept : goal.returns-clause-kept
returns-clause-kept c =
    let t = c.args.t.now in
    let new = c.add_node.new.t in
    let made = c.in_ok-add_node.ensures.ok in
    kept-open new c.in_ok-desk.desk (desk_of t.desk) c.in-Some.fd c.description.result c.add_node.ensures.kept (ap (λ (w : World). w.desk) made) c.in_ok-desk.ensures
    (subst (λ (it : Description). IsSome (node_of (tree_of new.files) it.node)) (sym c.description.ensures)
    (subst (λ (w : World). IsSome (node_of w.tree t.files.next)) (sym made) (IsSome-put t.files.next (File c.in_ok-empty.empty) t.files.nodes.entries)))
