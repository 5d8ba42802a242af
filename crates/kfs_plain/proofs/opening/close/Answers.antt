use Rattle.kfs_model.specs.Step.{World}
use Rattle.kfs_plain.specs.Tables.{tree_of, desk_of, world_of, limits_of, closed}
use Rattle.kfs_plain.proofs.Keeping.{kept_at}
use Rattle.kfs_plain.proofs.Opened.{sound-closed}
use Rattle.kfs_plain.proofs.opening.close.Goals as goal

pub sweep-requires-clause-kept : goal.sweep-requires-clause-kept
sweep-requires-clause-kept c =
    let t = c.args.t.now in
    let w : World = record { tree = tree_of t.files; desk = closed (desk_of t.desk) c.args.fd } in
    kept_at _ w (λ i. record { tree = tree_of t.files; desk = c.in_ok-desk.ensures i }) c.requires.kept.counted (sound-closed (limits_of t) (world_of t) c.args.fd c.requires.kept.sound)
