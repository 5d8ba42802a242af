use Rattle.std.proofs.Common.{refl, subst, sym}
use Rattle.std.specs.Prelude.{IsSome}
use Rattle.kfs_model.specs.declared.Description.{Description}
use Rattle.kfs_model.specs.Tree.{node_of}
use Rattle.kfs_plain.specs.Tables.{tree_of, desk_of}
use Rattle.kfs_plain.proofs.Opened.{kept-open}
use Rattle.kfs_plain.proofs.opening.open_dir.Goals as goal

pub returns-clause-kept : goal.returns-clause-kept
returns-clause-kept c =
    let t = c.args.t.now in
    kept-open t c.in_ok-t.field-0 (desk_of t.desk) c.in-Some.fd c.description.result c.requires.kept refl c.in_ok-t.ensures
    (subst (λ (it : Description). IsSome (node_of (tree_of t.files) it.node)) (sym c.description.ensures) c.requires.there)
