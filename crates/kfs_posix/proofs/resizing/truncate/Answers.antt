use Rattle.std.proofs.Common.{◌≡◌, false, ap, subst, ◌∙◌, w64}
use lib.Signed.{lt_z}
use Rattle.std.specs.Prelude.{pos}
use Rattle.std.proofs.lemmas.Int.{to_z-of_z}
use Rattle.kfs_model.specs.Step.{natural, is_negative}
use Rattle.kfs_tx.specs.Tx.{seen}
use Rattle.kfs_core.specs.Core.{tx_in}
use Rattle.kfs_core.specs.Room.{space_in}
use Rattle.kfs_core.specs.Spot.{route_of}
use Rattle.kfs_posix.proofs.ResizeJudges.{still, truncate_judged, length_moved, not_negative}
use Rattle.kfs_posix.proofs.resizing.truncate.Goals as goal

pub returns-clause-does : goal.returns-clause-does
returns-clause-does g c =
    let plain : is_negative c.args.length ≡ false = not_negative c.args.length (subst (λ z. lt_z z (pos 0) ≡ false) (to_z-of_z w64 c.args.length c.ranges.length) c.if-length-lt0.false) in
    let mid = c.named_file.new.kfs in
    let same = still c.args.kfs.now mid c.in_ok-node.ensures.rest c.in_ok-node.ensures.leaves in
    length_moved c.args.kfs.now mid c.resize.new.kfs c.args.files.now.opens c.resize.new.files.opens c.in_ok-node.node c.place.result (natural c.args.length) c.resize.result same (c.place.ensures ∙ ap natural (to_z-of_z w64 c.args.length c.ranges.length)) c.resize.ensures.does
    (truncate_judged (seen (tx_in c.args.kfs.now)) (space_in c.args.kfs.now) c.args.path.now (route_of c.in_ok-path.path) c.args.length c.in_ok-node.node plain c.in_ok-path.ensures.gives c.in_ok-node.ensures.gives)
