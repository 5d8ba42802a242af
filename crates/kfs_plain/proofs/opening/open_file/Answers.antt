use Rattle.std.proofs.Common.{◌+◌, ◌≤◌, ap, subst, sym, ◌∙◌, List, ℕ, arith}
use Rattle.std.specs.Prelude.{IsSome}
use Rattle.kfs_model.specs.declared.Description.{Description}
use Rattle.kfs_model.specs.declared.Node.TheVariants.{File}
use Rattle.kfs_model.specs.Tree.{node_of, charge, with_node}
use Rattle.kfs_model.specs.Step.{World}
use Rattle.kfs_plain.specs.declared.tables.Tables.{Tables}
use Rattle.kfs_plain.specs.Tables.{tree_of, desk_of, world_of, IsKept}
use Rattle.kfs_plain.proofs.Entries.{IsSome-find_put}
use Rattle.kfs_plain.proofs.Fitting.{charge-emptied}
use Rattle.kfs_plain.proofs.Opened.{kept-open}
use Rattle.kfs_plain.proofs.opening.open_file.Goals as goal
use Rattle.kfs_plain.proofs.opening.open_file.Goals.{then-flags-3+in_ok-new+in_ok-put_content, else-flags-3}

pub returns-clause-kept : goal.returns-clause-kept
returns-clause-kept c =
    let t = c.args.t.now in
    let u = c.if-flags-3.t in
    elim c.if-flags-3.branch [
      | then-flags-3+in_ok-new+in_ok-put_content w ↦
          let emptied = ap (λ (x : Tables). world_of x) w.t-is ∙ w.in_ok-put_content.ensures.ok in
          kept-open u c.in_ok-desk.desk (desk_of t.desk) c.in-Some.fd c.description.result (subst IsKept (sym w.t-is) w.put_content.ensures.kept) (ap (λ (v : World). v.desk) emptied) c.in_ok-desk.ensures
          (subst (λ (it : Description). IsSome (node_of (tree_of u.files) it.node)) (sym c.description.ensures)
          (subst (λ (v : World). IsSome (node_of v.tree c.args.node)) (sym emptied) (IsSome-find_put c.args.node c.args.node (File w.in_ok-new.field-0) t.files.nodes.entries c.requires.there)))
      | else-flags-3 w ↦
          kept-open u c.in_ok-desk.desk (desk_of t.desk) c.in-Some.fd c.description.result (subst IsKept (sym w.t-is) c.requires.kept) (ap (λ (x : Tables). desk_of x.desk) w.t-is) c.in_ok-desk.ensures
          (subst (λ (it : Description). IsSome (node_of (tree_of u.files) it.node)) (sym c.description.ensures)
          (subst (λ (x : Tables). IsSome (node_of (tree_of x.files) c.args.node)) (sym w.t-is) c.requires.there))
    ]

pub put_content-requires-clause-room : goal.put_content-requires-clause-room
put_content-requires-clause-room c sorted =
    let t = c.args.t.now in
    let less = charge-emptied (tree_of t.files) c.args.node sorted c.requires.there in
    let within = c.requires.kept.sound.within in
    subst (λ (s : List ℕ). charge (with_node (tree_of t.files) c.args.node (File s)) ≤ t.keys + 3) (sym c.in_ok-new.ensures) (omega arith)
