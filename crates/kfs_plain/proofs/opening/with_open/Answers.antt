use Rattle.std.proofs.Common.{◌∙◌, ap}
use Rattle.std.specs.Ordering.{nat_cmp}
use Rattle.std.specs.FinMap.{put}
use Rattle.kfs_plain.proofs.opening.with_open.Goals as goal

pub returns : goal.returns
returns c =
    let old = c.args.desk.now in
    let descriptors = c.in_ok-descriptors.ensures ∙ ap (λ n. put nat_cmp c.args.fd n old.descriptors.entries) c.free_number-number.ensures in
    let descriptions = c.in_ok-descriptions.ensures ∙ ap (λ n. put nat_cmp n c.args.it old.descriptions.entries) c.free_number-number.ensures in
    λ i. record { descriptors = descriptors i; descriptions = descriptions i }
