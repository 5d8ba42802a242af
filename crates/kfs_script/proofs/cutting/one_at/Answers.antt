use Rattle.std.proofs.Common.{ap, sym, ◌∙◌, ◌∷◌}
use Rattle.std.specs.Option.{option_copied}
use Rattle.kfs_script.specs.Script.{one}
use Rattle.kfs_script.specs.Reading.{pieces_left}
use Rattle.kfs_script.proofs.CutLaws.{one_more}
use Rattle.kfs_script.proofs.cutting.one_at.Goals as goal

pub returns-in-Some : goal.returns-in-Some
returns-in-Some c =
    let m = c.args.mark in
    sym (ap (λ w. one (pieces_left m (option_copied w))) c.in_ok-left.was ∙ ap one c.cut.ensures.pieces ∙ ap (λ o. one (c.cut.result.0.now ∷ pieces_left m (option_copied o))) c.in-Some.is ∙ one_more c.cut.result.0.now m c.in-Some.field-0.now)
